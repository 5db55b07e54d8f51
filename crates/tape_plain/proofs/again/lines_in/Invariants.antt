-- The count so far, with the lines of the bytes that are left, is that of all (loop of `lines_in`,
-- src/again.rt).
use Rattle.std.proofs.Common.{◌≡◌, drop}
use Rattle.tape_plain.specs.Again.{lines_from}
use Rattle.tape_plain.proofs.again.lines_in.Given as goal

abbrev pub invariant-loop-byte : goal.invariant-loop-byte
invariant-loop-byte l = lines_from l.count (drop l.byte-index l.bytes) ≡ lines_from 0 l.bytes
