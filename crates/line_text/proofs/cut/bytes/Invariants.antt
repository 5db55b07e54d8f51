-- The bytes so far are those of the signs of a line so far (loop of `bytes`, src/cut.rt).
use Rattle.std.proofs.Common.{◌≡◌, ◌++◌, drop}
use Rattle.line_text.specs.Pieces.{bytes_of}
use Rattle.line_text.proofs.cut.bytes.Given as goal

abbrev pub invariant-loop-sign : goal.invariant-loop-sign
invariant-loop-sign l = l.bytes.items ++ bytes_of (drop l.sign-index l.signs) ≡ bytes_of l.signs
