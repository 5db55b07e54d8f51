-- A jump leads where the search leads, if the block is in reach; else it fails with 50 or 53. For
-- the contract of `target` (src/tables.rt).
use Rattle.std.proofs.Common.{◌≡◌, Some, None, false, true, refl, sym, ap, ◌∙◌, arith}
use Rattle.nc_number.proofs.Bools.{only_false}
use Rattle.block_order.specs.Order.{seek, permits, permitted_target}
use Rattle.block_order.proofs.Findable.{seek-within}
use Rattle.block_order.proofs.tables.ProgramTables.target.Goals as goal

pub returns-in_default : goal.returns-in_default
returns-in_default c = λ bs t.
    let none : seek bs c.args.block c.args.number ≡ None = sym (c.seek.ensures bs t.index) ∙ c.in_default.is in
    sym (ap (permitted_target bs c.args.block) none)

pub returns-then-holds : goal.returns-then-holds
returns-then-holds c = λ bs t.
    let at : seek bs c.args.block c.args.number ≡ Some c.in-Some.target = sym (c.seek.ensures bs t.index) ∙ c.in-Some.is in
    let within = seek-within bs c.args.block c.args.number c.in-Some.target at in
    let reach = c.reach-reach.ensures bs t.loops within c.args.block (omega arith) in
    let may : permits bs c.args.block c.in-Some.target ≡ true = reach.1 (c.if-holds.ensures.0 refl) in
    rw (at, may) refl

pub returns-else-holds : goal.returns-else-holds
returns-else-holds c = λ bs t.
    let at : seek bs c.args.block c.args.number ≡ Some c.in-Some.target = sym (c.seek.ensures bs t.index) ∙ c.in-Some.is in
    let within = seek-within bs c.args.block c.args.number c.in-Some.target at in
    let reach = c.reach-reach.ensures bs t.loops within c.args.block (omega arith) in
    let not_so : permits bs c.args.block c.in-Some.target ≡ false =
    only_false (permits bs c.args.block c.in-Some.target)
    (λ p. let e : false ≡ true = c.if-holds.ensures.1 (reach.0 p) in absurd cc) in
    rw (at, not_so) refl
