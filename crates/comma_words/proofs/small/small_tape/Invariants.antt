-- The programs so far are those that were looked at, with small letters (loop of `small_tape`, src/small.rt).
use Rattle.std.proofs.Common.{◌≡◌, map, take}
use Rattle.comma_words.specs.Small.{small_program}
use Rattle.comma_words.proofs.small.small_tape.Given as goal

abbrev pub invariant-loop-program : goal.invariant-loop-program
invariant-loop-program l = l.small.items ≡ map (small_program l.places) (take l.program-index l.tape)
