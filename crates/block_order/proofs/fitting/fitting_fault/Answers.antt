-- The first program whose number is known or whose loops don't fit has the first fault. For the
-- contract of `fitting_fault` (src/fitting.rt).
use Rattle.std.proofs.Common.{◌≡◌, true, false, nat_eq, map, take, length, refl, sym, ◌∙◌, arith, subst}
use Rattle.std.specs.List.{list_any, Contains}
use Rattle.std.specs.HashSet.{contains}
use Rattle.std.proofs.lemmas.Option.{slice_get_read}
use Rattle.std.proofs.lemmas.Grind.{common_steps}
use Rattle.nc_number.proofs.Bools.{not_false, not_true}
use Rattle.block_order.proofs.Lines.{blocks-few}
use Rattle.block_order.specs.First.{IsMismatchLine}
use Rattle.block_order.proofs.Located.{clear-all, clear-more, twice-first, apart-first, any-contains, contains-any, no-line}
use Rattle.block_order.proofs.fitting.fitting_fault.Goals as goal

pub returns-then-not-branch : goal.returns-then-not-branch
returns-then-not-branch c =
    let tape = c.args.tape.now in
    let i = c.loop-program.program-index in
    let p = c.program-item.result in
    let at = slice_get_read tape (length tape) i p refl c.loop-program-test.true c.program-item.is in
    let has : contains nat_eq c.loop-program.numbers p.number ≡ true =
    not_false _ (sym c.in_ok-insert.ensures.added ∙ c.if-not-branch.true) in
    twice-first tape i p c.requires at c.loop-program.invariant.clear
    (any-contains p.number _ (sym (c.loop-program.invariant.known p.number) ∙ has))

pub mismatch_line-requires : goal.mismatch_line-requires
mismatch_line-requires c =
    let tape = c.args.tape.now in
    let at = slice_get_read tape (length tape) _ c.program-item.result refl c.loop-program-test.true c.program-item.is in
    omega (arith, blocks-few tape c.loop-program.program-index c.program-item.result at, c.requires.few)

pub returns-in-Some : goal.returns-in-Some
returns-in-Some c =
    let tape = c.args.tape.now in
    let i = c.loop-program.program-index in
    let p = c.program-item.result in
    let at = slice_get_read tape (length tape) i p refl c.loop-program-test.true c.program-item.is in
    let none : list_any (nat_eq p.number) (map (λ q. q.number) (take i tape)) ≡ false =
    sym (c.loop-program.invariant.known p.number) ∙ not_true _ (sym c.in_ok-insert.ensures.added ∙ c.if-not-branch.false) in
    apart-first tape i p c.in-Some.line c.requires at c.loop-program.invariant.clear
    (λ (w : Contains (map (λ q. q.number) (take i tape)) p.number). contains-any p.number w.0 _ w.1 w.2 none)
    (subst (IsMismatchLine p.blocks) c.in-Some.is c.in_ok-line.ensures)

pub loop-program-preserved : goal.loop-program-preserved
loop-program-preserved c =
    let tape = c.args.tape.now in
    let i = c.loop-program.program-index in
    let p = c.program-item.result in
    let at = slice_get_read tape (length tape) i p refl c.loop-program-test.true c.program-item.is in
    let none : list_any (nat_eq p.number) (map (λ q. q.number) (take i tape)) ≡ false =
    sym (c.loop-program.invariant.known p.number) ∙ not_true _ (sym c.in_ok-insert.ensures.added ∙ c.if-not-branch.false) in
    record {
      known = λ q. grind (arith, common_steps, c.loop-program.invariant.known q);
      clear = clear-more tape i p at
          (λ (w : Contains (map (λ q. q.number) (take i tape)) p.number). contains-any p.number w.0 _ w.1 w.2 none)
          (no-line p.blocks c.in_ok-line.field-0 c.in_ok-line.ensures c.in_default.is)
          c.loop-program.invariant.clear;
    }

pub returns : goal.returns
returns c = clear-all c.args.tape.now c.loop-program.program-index (omega arith) c.loop-program.invariant.clear
