-- For `some_block`: the blocks that the loop has passed do not do what is looked for, so the rest
-- decides (loop of src/meeting.rt).
use Rattle.std.proofs.Common.{◌≡◌, drop}
use Rattle.race_report.specs.Meeting.{some_block}
use Rattle.race_report.proofs.meeting.some_block.Given as goal

abbrev pub invariant-loop-block : goal.invariant-loop-block
invariant-loop-block l = some_block l.sought l.variable (drop l.block-index l.blocks) ≡ some_block l.sought l.variable l.blocks
