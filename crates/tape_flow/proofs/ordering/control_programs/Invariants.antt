-- The programs so far are those of the flow, without what their blocks say (loop of
-- src/ordering.rt).
use Rattle.std.proofs.Common.{◌≡◌, map, take}
use Rattle.tape_flow.specs.Forms.{program_form}
use Rattle.tape_flow.specs.Controls.{control_program}
use Rattle.tape_flow.proofs.ordering.control_programs.Given as goal

abbrev pub invariant-loop-program : goal.invariant-loop-program
invariant-loop-program l =
    l.controls.items ≡ map (λ program. control_program (program_form program)) (take l.program-index l.programs)
