-- How far the tool draws back so far, and what the blocks that are left say, is what all say (loop of
-- `retreat_before`, src/groove.rt).
use Rattle.std.proofs.Common.{◌≡◌, drop}
use Rattle.peck_form.specs.Groove.{retreat_from}
use Rattle.peck_form.proofs.groove.retreat_before.Given as goal

abbrev pub invariant-loop-block : goal.invariant-loop-block
invariant-loop-block l =
    retreat_from l.retreat (drop l.block-index l.blocks) ≡ retreat_from l.settings.groove_retreat l.blocks
