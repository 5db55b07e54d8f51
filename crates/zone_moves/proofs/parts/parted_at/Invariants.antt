-- The parts have the stretches so far (loop of `parted_at`, src/parts.rt).
use Rattle.std.proofs.Common.{take}
use Rattle.zone_moves.specs.Parts.{ArePartsOf}
use Rattle.zone_moves.proofs.parts.parted_at.Given as goal

abbrev pub invariant-loop-stretch : goal.invariant-loop-stretch
invariant-loop-stretch l = ArePartsOf l.parts (take l.stretch-index l.stretches)
