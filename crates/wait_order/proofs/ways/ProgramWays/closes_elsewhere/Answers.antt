-- A loop leads elsewhere if its two ends lie apart; a block that ends no loop does not. For the
-- contract of `closes_elsewhere` (src/ways.rt).
use Rattle.wait_order.proofs.Elsewhere.{closes_where, closes_nowhere}
use Rattle.wait_order.proofs.ways.ProgramWays.closes_elsewhere.Goals as goal

pub returns-in-Some : goal.returns-in-Some
returns-in-Some c loud ways =
    let bs = c.args.self.now.blocks.now in
    closes_where loud bs c.in-Some.head c.args.close c.are_apart.result (c.in-Some.ensures bs ways.tables.loops)
    (c.are_apart.ensures loud ways)

pub returns-in-None : goal.returns-in-None
returns-in-None c loud ways =
    let bs = c.args.self.now.blocks.now in
    closes_nowhere loud bs c.args.close (c.in-None.ensures bs ways.tables.loops)
