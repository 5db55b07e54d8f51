-- The marks so far, and those of the bytes that are left, are those of all (loop of `skips_of`, src/noting.rt).
use Rattle.std.proofs.Common.{◌≡◌, ◌++◌, take, drop}
use Rattle.tape_plain.specs.Skips.{opening, skips_from}
use Rattle.tape_plain.proofs.noting.skips_of.Given as goal

abbrev pub invariant-loop-byte : goal.invariant-loop-byte
invariant-loop-byte l = l.skips.items ++ skips_from l.sight (drop l.byte-index l.text) ≡ skips_from opening l.text
