-- The programs that are read, with the rest as it reads after them, are the whole (loop of
-- src/reading.rt).
use Rattle.std.proofs.Common.{◌≡◌, [], map, drop}
use Rattle.tape_flow.specs.Forms.{program_form, programs_from}
use Rattle.tape_flow.proofs.reading.read_programs.Given as goal

abbrev pub invariant-loop-program : goal.invariant-loop-program
invariant-loop-program l =
    programs_from l.dialect [] l.programs
    ≡ programs_from l.dialect (map program_form l.read.items) (drop l.program-index l.programs)
