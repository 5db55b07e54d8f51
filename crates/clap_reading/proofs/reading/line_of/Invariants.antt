-- The line so far is the program's name and the words so far (loop of `line_of`,
-- src/reading.rt).
use Rattle.std.proofs.Common.{◌≡◌, take, map}
use Rattle.std.specs.Prelude.{string_bytes}
use Rattle.clap_reading.specs.ClapReading.{line_of}
use Rattle.clap_reading.proofs.reading.line_of.Given as goal

abbrev pub invariant-loop-word : goal.invariant-loop-word
invariant-loop-word l = map (λ s. s.now) l.line.items ≡ line_of (map string_bytes (take l.word-index l.words))
