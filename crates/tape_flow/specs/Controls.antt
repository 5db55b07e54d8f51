-- The programs of a tape as block_order takes them: each block with its line, its sequence number
-- and its control, without what else it says. Where control may go from there is defined in
-- block_order.
use Rattle.std.specs.Prelude.{List, map}
use Rattle.block_order.specs.declared.program.ControlBlock.{ControlBlock}
use Rattle.block_order.specs.declared.program.ControlProgram.{ControlProgram}
use Rattle.block_forms.specs.Forms.{BlockForm}
use Rattle.tape_flow.specs.Forms.{ProgramForm}

-- a block as block_order takes it: its line, its sequence number and its control
abbrev pub control_block : BlockForm → ControlBlock
control_block block = record { line = block.line; sequence = block.sequence; control = block.control }

-- a program as block_order takes it
abbrev pub control_program : ProgramForm → ControlProgram
control_program program =
    record { number = program.number; line = program.line; blocks = map control_block program.blocks }

-- all programs of a tape as block_order takes them
abbrev pub controls : List ProgramForm → List ControlProgram
controls programs = map control_program programs
