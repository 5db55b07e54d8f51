-- The two ways without a stack answer what the code of a macro expression means (`evaluate`,
-- src/running.rt).
use Rattle.std.proofs.Common.{◌≡◌, ◌∷◌, [], get_or, sym, ◌∙◌, ap}
use Rattle.macro_eval.specs.Postfix.{run}
use Rattle.macro_eval.proofs.Compiled.{run_is_meaning}
use Rattle.macro_eval.proofs.Short.{one_is, three_are, alone_runs}
use Rattle.macro_eval.proofs.running.evaluate.Goals as goal

-- the code is an operand alone
pub returns-in-len1 : goal.returns-in-len1
returns-in-len1 g c =
    let table = g.S.Scope.table c.args.scope.now in
    let reads = c.args.reads.now in
    let code = c.instrs.result.now in
    let only = c.only-item.result in
    let apart : code ≡ only ∷ [] =
    one_is code only c.in-len1.len_at_least c.in-len1.len_below ∙ ap (λ i. i ∷ []) (sym c.only-item.is) in
    sym (alone_runs table only reads _ (c.operand_value.ensures []))
    ∙ ap (λ instrs. run table instrs [] reads) (sym apart ∙ c.instrs.ensures.all)
    ∙ run_is_meaning table c.args.code.now reads

-- the code is two operands and their operator
pub returns-in-len3 : goal.returns-in-len3
returns-in-len3 g c =
    let table = g.S.Scope.table c.args.scope.now in
    let reads = c.args.reads.now in
    let code = c.instrs.result.now in
    let left = c.left-item.result in
    let right = c.right-item.result in
    let join = c.join-item.result in
    let apart : code ≡ left ∷ right ∷ join ∷ [] =
    three_are code left right join c.in-len3.len_at_least c.in-len3.len_below
    ∙ ap (λ i. i ∷ get_or code 1 right ∷ get_or code 2 join ∷ []) (sym c.left-item.is)
    ∙ ap (λ i. left ∷ i ∷ get_or code 2 join ∷ []) (sym c.right-item.is)
    ∙ ap (λ i. left ∷ right ∷ i ∷ []) (sym c.join-item.is) in
    c.pair_value.ensures ∙ ap (λ instrs. run table instrs [] reads) (sym apart ∙ c.instrs.ensures.all)
    ∙ run_is_meaning table c.args.code.now reads
