-- The edits so far are those of the parts so far (loop of `edits_of`, src/part_text.rt).
use Rattle.std.proofs.Common.{◌≡◌, take}
use Rattle.std.specs.List.{flat_map}
use Rattle.tape_expand.specs.Replaced.{edits_of}
use Rattle.tape_expand.proofs.part_text.edits_of.Given as goal

abbrev pub invariant-loop-part : goal.invariant-loop-part
invariant-loop-part l = l.edits.items ≡ flat_map edits_of (take l.part-index l.parts)
