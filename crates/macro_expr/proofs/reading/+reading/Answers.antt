-- One operator more of a chain in a macro expression is read, and at the end the chain is that of
-- the definition (loop of `chain_at`, src/reading.rt).
use Rattle.std.proofs.Common.{◌≡◌, ◌-◌, length, sym, ◌∙◌, ap, arith}
use Rattle.std.proofs.lemmas.Result.{err_from_is_err_and}
use Rattle.macro_expr.specs.Tree.{tree_of}
use Rattle.macro_expr.specs.Words.{operator}
use Rattle.macro_expr.specs.Reading.{chain, operand_at, expression_inside}
use Rattle.macro_expr.proofs.Chains.{chain_stops, stops_at_fault, keeps, is_used_up}
use Rattle.macro_expr.proofs.reading.+reading.Goals as goal

pub chain_at-loop-round-init : goal.chain_at-loop-round-init
chain_at-loop-round-init t c =
    let text = c.args.text.now in
    let operand = operand_at c.args.rank (expression_inside c.args.levels) in
    let whole : length text - 0 ≡ length text = omega arith in
    ap (λ n. chain (operator c.args.rank) operand n (tree_of c.args.first) text) whole

pub chain_at-returns-in_default : goal.chain_at-returns-in_default
chain_at-returns-in_default t c =
    sym c.loop-round.invariant
    ∙ chain_stops (operator c.args.rank) (operand_at c.args.rank (expression_inside c.args.levels)) _ _ _
    (sym (rw c.in_default.is at c.operator.ensures))

pub chain_at-returns-in_err-right : goal.chain_at-returns-in_err-right
chain_at-returns-in_err-right t c =
    let p = err_from_is_err_and c.from_residual.result c.from_residual.ensures.1 in
    rw (p.1, p.2)
    (stops_at_fault (operator c.args.rank) (operand_at c.args.rank (expression_inside c.args.levels)) _ _ _ _ _ c.in-Some.op _
    c.in_err-right.field-0.0 c.loop-round-test.true (sym c.in-Some.ensures) c.in_err-right.ensures
    c.loop-round.invariant)

pub chain_at-loop-round-preserved : goal.chain_at-loop-round-preserved
chain_at-loop-round-preserved t c =
    keeps (operator c.args.rank) (operand_at c.args.rank (expression_inside c.args.levels)) _ _ _ _ _ _ _ _ c.in-Some.op _
    c.loop-round-test.true (sym c.in-Some.ensures) c.in_ok-right.ensures c.in_ok-left.ensures c.loop-round.invariant

pub chain_at-returns : goal.chain_at-returns
chain_at-returns t c =
    is_used_up (operator c.args.rank) (operand_at c.args.rank (expression_inside c.args.levels)) _ _ _ _ _
    (omega (arith, c.loop-round-test.false)) c.loop-round.invariant
