-- The letters so far are those of the text, and the rest decides (loop of `begins`, src/bytes.rt).
use Rattle.std.proofs.Common.{◌≡◌, drop}
use Rattle.open_text.specs.Bytes.{begins}
use Rattle.open_text.proofs.bytes.begins.Given as goal

abbrev pub invariant-loop-letter : goal.invariant-loop-letter
invariant-loop-letter l = begins (drop l.letter-index l.word) l.rest ≡ begins l.word l.text
