-- `block`: if the path stands on a block, there is a number for the one behind it
-- (src/decision.rt).
use Rattle.std.proofs.Common.{subst, sym, ap, ◌∙◌, rules}
use Rattle.block_order.specs.Frames.{MayPass, callers}
use Rattle.path_state.proofs.NextBlocks.{may_pass_at}
use Rattle.path_state.proofs.path.PathState.block.Goals as goal

pub returns-clause-next : goal.returns-clause-next
returns-clause-next c some =
    subst MayPass (sym c.running-running.ensures ∙ c.place.ensures ∙ ap (λ s. s.place) c.standing.ensures)
    (may_pass_at c.args.flow.now.order c.blocks_have_next.ensures c.running-running.result (callers c.place.result.now) c.block.result _ c.block.ensures.ordered some)
