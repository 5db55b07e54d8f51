-- A jump leads elsewhere if its target lies apart; one without a target does not. For the contract
-- of `leads_elsewhere` (src/ways.rt).
use Rattle.std.proofs.Common.{sym, ◌∙◌}
use Rattle.block_order.proofs.Searches.{led}
use Rattle.block_order.proofs.Targets.{seek_stands}
use Rattle.wait_order.proofs.Elsewhere.{leads_where, leads_nowhere}
use Rattle.wait_order.proofs.ways.ProgramWays.leads_elsewhere.Goals as goal

pub returns-in-Ok : goal.returns-in-Ok
returns-in-Ok c loud ways block =
    let bs = c.args.self.now.blocks.now in
    let leads = sym (c.target.ensures bs ways.tables) ∙ c.in-Ok.is in
    let found = (led bs c.args.block c.args.number c.in-Ok.target leads).0 in
    let within = (seek_stands bs c.args.block c.args.number c.in-Ok.target found).0 in
    leads_where loud bs c.args.block c.args.number c.in-Ok.target c.are_apart.result leads (c.are_apart.ensures loud ways block within)

pub returns-in-Err : goal.returns-in-Err
returns-in-Err c loud ways block =
    let bs = c.args.self.now.blocks.now in
    leads_nowhere loud bs c.args.block c.args.number c.in-Err.field-0 (sym (c.target.ensures bs ways.tables) ∙ c.in-Err.is)
