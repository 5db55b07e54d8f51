-- One program more is looked at, and the line so far is the least ninth call's; after the last it
-- is the tape's. For the contract of `deep_line` (src/deep.rt).
use Rattle.std.proofs.Common.{◌≡◌, Some, slice_get, sym, ap, ◌∙◌, arith}
use Rattle.wait_order.proofs.Deepest.{deep_more, deep_all}
use Rattle.block_order.proofs.Programs.{stands}
use Rattle.wait_order.proofs.deep.deep_line.Goals as goal

pub loop-program-preserved : goal.loop-program-preserved
loop-program-preserved c =
    let tape = c.args.programs.now in
    let i = c.loop-program.program-index in
    let p = c.program-item.result in
    let at : slice_get tape i ≡ Some p = stands tape i p (omega arith) ∙ ap (λ x. Some x) (sym c.program-item.is) in
    rw c.lesser-first.ensures
    (deep_more tape c.args.reached.now i p c.loop-program.first c.reached_line-line.result at c.loop-program.invariant
    (c.reached_line-line.ensures tape c.requires.known (c.requires.own i p at).rising))

pub returns : goal.returns
returns c =
    deep_all c.args.programs.now c.args.reached.now c.loop-program.program-index c.loop-program.first (omega arith) c.requires.own
    c.requires.reached c.loop-program.invariant
