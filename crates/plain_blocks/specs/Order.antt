-- The order of a tape's blocks, read for that alone, those of forms too. src/order.rt computes it.
use Rattle.std.specs.Prelude.{ℕ, ◌≤◌, List, map, Result, Ok, Err, Option}
use Rattle.line_text.specs.declared.body.Body.{Body}
use Rattle.line_text.specs.declared.body.Body.TheVariants.{Words, Statement}
use Rattle.nc_text.specs.declared.tape.Block.{Block}
use Rattle.nc_text.specs.declared.tape.Program.{Program}
use Rattle.block_order.specs.declared.control.Control.{Control}
use Rattle.block_order.specs.declared.control.Control.TheVariants.{Next, Goto, End}
use Rattle.block_order.specs.declared.program.ControlBlock.{ControlBlock}
use Rattle.block_order.specs.declared.program.ControlProgram.{ControlProgram}
use Rattle.block_words.specs.declared.dialect.Dialect.{Dialect}
use Rattle.block_forms.specs.declared.fault.FormFault.{FormFault}
use Rattle.open_forms.specs.Controls.{open_control, control_or_number}

-- what a block of words does, if it is written out: a roughing cycle, which may lead to the end of
-- its contour, goes on
abbrev pub words_control : Control → Control
words_control (Goto number) = Next
words_control other = other

-- the control of a body that was read for it; one whose control can't be told counts as an end, so no
-- form may take it
abbrev pub plain_control : Body → Result Control FormFault → Control
plain_control body (Err fault) = End
plain_control (Words words) (Ok control) = words_control control
plain_control (Statement text) (Ok control) = control

-- what a block of the tape does to the order of blocks
abbrev pub tape_control : Dialect → Body → Control
tape_control dialect body = plain_control body (control_or_number (open_control dialect body))

-- a block as far as its order goes
abbrev pub order_block : Dialect → Block → ControlBlock
order_block dialect block =
    record { line = block.line; sequence = block.sequence; control = tape_control dialect block.body }

-- a program as far as its order goes
abbrev pub order_program : Dialect → Program → ControlProgram
order_program dialect program =
    record { number = program.number; line = program.line; blocks = map (order_block dialect) program.blocks }

-- a tape as far as its order goes
abbrev pub order_tape : Dialect → List Program → List ControlProgram
order_tape dialect tape = map (order_program dialect) tape

-- a program's number has at most four digits
abbrev pub HasNumber : Program → Type 0
HasNumber program = program.number ≤ 9999
