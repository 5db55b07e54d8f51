-- The level so far, and what the blocks that are left name, is what all name (loop of
-- `level_before`, src/kind.rt).
use Rattle.std.proofs.Common.{◌≡◌, drop}
use Rattle.peck_cycle.specs.declared.drill.ReturnLevel.TheVariants.{Start}
use Rattle.peck_form.specs.Kinds.{level_from}
use Rattle.peck_form.proofs.kind.level_before.Given as goal

abbrev pub invariant-loop-block : goal.invariant-loop-block
invariant-loop-block l = level_from l.system l.level (drop l.block-index l.blocks) ≡ level_from l.system Start l.blocks
