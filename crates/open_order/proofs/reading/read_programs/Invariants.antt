-- The programs read so far, and the rest as it reads after them, are the tape (loop of
-- src/reading.rt).
use Rattle.std.proofs.Common.{◌≡◌, [], drop}
use Rattle.open_order.specs.Basis.{basis}
use Rattle.open_order.specs.Reading.{programs_from}
use Rattle.open_order.proofs.reading.read_programs.Given as goal

abbrev pub invariant-loop-program : goal.invariant-loop-program
invariant-loop-program l =
    programs_from (basis l.reading) [] l.reading.tape.now
    ≡ programs_from (basis l.reading) l.read.items (drop l.program-index l.reading.tape.now)
