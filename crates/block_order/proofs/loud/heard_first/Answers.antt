-- At first no program is flagged, so none that is not loud (a loud program has a wait or an end, or
-- calls one that has); to look on keeps this. For the contract of `heard_first` (src/loud.rt).
use Rattle.std.proofs.Common.{◌∙◌}
use Rattle.block_order.proofs.HeardFirst.{none_heard}
use Rattle.block_order.proofs.loud.heard_first.Goals as goal

pub hear_all-requires-clause-sound : goal.hear_all-requires-clause-sound
hear_all-requires-clause-sound c =
    none_heard c.args.programs.now c.deref_mut.result.now (c.deref_mut.ensures.value ∙ c.in_ok-flags.ensures)
