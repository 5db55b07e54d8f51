-- Stretches that differ in the list differ. For the contract of `are_apart` (src/ways.rt).
use Rattle.wait_order.proofs.Elsewhere.{apart_is}
use Rattle.wait_order.proofs.ways.ProgramWays.are_apart.Goals as goal

pub returns : goal.returns
returns c loud ways one other =
    apart_is loud c.args.self.now.blocks.now c.args.self.now.stretches.now c.args.one c.args.other c.stretch_at.result
    c.stretch_at-2.result ways.stretches one other c.stretch_at.ensures c.stretch_at-2.ensures
