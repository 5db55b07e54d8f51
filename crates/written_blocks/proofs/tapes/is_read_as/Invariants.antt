-- The programs that are left say so exactly if all do (loop of `is_read_as`, src/tapes.rt).
use Rattle.std.proofs.Common.{◌≡◌, drop}
use Rattle.written_blocks.specs.Tapes.{are_programs}
use Rattle.written_blocks.proofs.tapes.is_read_as.Given as goal

abbrev pub invariant-loop-place : goal.invariant-loop-place
invariant-loop-place l = are_programs l.again l.tape l.place (drop l.place l.all) ≡ are_programs l.again l.tape 0 l.all
