-- What a flow tells of a place (the open programs of a path): its block, its line, the label that a
-- path comes to there; and the mark of a block, at which the labels of a program go on, end or turn
-- to another program. The definitions of marks are those of `Flow::mark`, which tests alone call.
use Rattle.std.specs.Prelude.{ℕ, ◌-◌, ◌==◌, ◌||◌, List, [], ◌∷◌, length, find, Option, Some, None, slice_get, if◌then◌else◌}
use Rattle.block_order.specs.declared.control.Control.{Control}
use Rattle.block_order.specs.declared.control.Control.TheVariants.{Wait, End, Back}
use Rattle.block_order.specs.declared.frame.Frame.{Frame}
use Rattle.block_order.specs.declared.label.Label.{Label}
use Rattle.block_order.specs.declared.label.Label.TheVariants as label
use Rattle.block_order.specs.declared.label.Mark.{Mark}
use Rattle.block_order.specs.declared.label.Mark.TheVariants.{Past}
use Rattle.block_order.specs.declared.program.ControlBlock.{ControlBlock}
use Rattle.block_order.specs.declared.program.ControlProgram.{ControlProgram}
use Rattle.block_order.specs.Order.{program_of, main_number, control_at}
use Rattle.block_order.specs.Loud.{loud, mark_of}
use Rattle.block_order.specs.Steps.{control_of_place}
use Rattle.block_forms.specs.declared.block.FlowBlock.{FlowBlock}
use Rattle.tape_flow.specs.declared.program.FlowProgram.{FlowProgram}

-- the program of that O number, if the flow has one
abbrev pub flow_program : List FlowProgram → ℕ → Option FlowProgram
flow_program programs number = find (λ program. program.number == number) programs

-- the blocks of a program, and none of no program
abbrev pub flow_blocks : Option FlowProgram → List FlowBlock
flow_blocks None = []
flow_blocks (Some program) = program.blocks

-- the block at a place of a program, which is its index from 0, if there is one
abbrev pub flow_block : List FlowProgram → ℕ → ℕ → Option FlowBlock
flow_block programs number block = slice_get (flow_blocks (flow_program programs number)) block

-- the line of the block, or `line` if there is no block
abbrev pub line_or : Option ControlBlock → ℕ → ℕ
line_or None line = line
line_or (Some block) line = block.line

-- the line of a program's last block, or of its O number where it has none
abbrev pub last_line : ControlProgram → ℕ
last_line program = line_or (slice_get program.blocks (length program.blocks - 1)) program.line

-- the line of a block of the program; past its last block `last_line`, and 0 if there is no program
abbrev pub line_in : Option ControlProgram → ℕ → ℕ
line_in None block = 0
line_in (Some program) block = line_or (slice_get program.blocks block) (last_line program)

-- the line at which a path with these open programs stands, the running program first; 0 if none is
-- open
abbrev pub line_at : List ControlProgram → List Frame → ℕ
line_at tape [] = 0
line_at tape (f ∷ stack) = line_in (program_of tape f.program) f.block

-- The label of a block of this control, in a program with this caller. Past the last block there is
-- no control, and M99 begins the main program again, which has no caller.
abbrev pub label_of : Option Frame → Option Control → Option Label
label_of caller None = Some label.Off
label_of caller (Some (Wait code)) = Some (label.Wait code)
label_of caller (Some End) = Some label.End
label_of None (Some Back) = Some label.Again
label_of caller (Some other) = None

-- the label that a path comes to at a place, if it comes to one there
abbrev pub label_at : List ControlProgram → List Frame → Option Label
label_at tape place = label_of (slice_get place 1) (control_of_place tape place)

-- the first mark of a list; a block has at most one
abbrev pub first_mark : List Mark → Option Mark
first_mark [] = None
first_mark (mark ∷ marks) = Some mark

-- the mark of a block of this control, in the program of this O number; none without a control.
-- Only the main program and loud programs, which reach a wait or an end themselves or by their
-- calls, have marks.
abbrev pub mark_of_block : List ControlProgram → ℕ → Option Control → Option Mark
mark_of_block tape number None = None
mark_of_block tape number (Some control) =
    if (number == main_number tape) || loud tape number then first_mark (mark_of (loud tape) control) else None

-- the mark at a place of a program, which is `Past` behind its last block; none if there is no
-- program
abbrev pub mark_in : List ControlProgram → ℕ → Option ControlProgram → ℕ → Option Mark
mark_in tape number None block = None
mark_in tape number (Some program) block =
    if block == length program.blocks then Some Past else mark_of_block tape number (control_at program.blocks block)

-- the mark at a place of the program with this O number
abbrev pub mark_at : List ControlProgram → ℕ → ℕ → Option Mark
mark_at tape number block = mark_in tape number (program_of tape number) block
