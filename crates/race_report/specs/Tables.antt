-- The lines that were found: those of each program in a table (src/table.rt), and the least ones of
-- each part of a path, which are the blocks that it may run behind so many waits (src/racing.rt).
-- The place of a block is its number in its program, from 0.
-- For this crate alone.
use Rattle.std.specs.Prelude.{◌≡◌, ℕ, List, map, Option, Some, None, slice_get}
use Rattle.nc_number.specs.declared.both.Both.{Both}
use Rattle.block_forms.specs.declared.block.FlowBlock.{FlowBlock}
use Rattle.tape_flow.specs.declared.flow.Flow.{Flow}
use Rattle.tape_flow.specs.declared.program.FlowProgram.{FlowProgram}
use Rattle.tape_flow.specs.Places.{flow_program, flow_blocks}
use Rattle.part_lines.specs.PartLines.{AreLeastLines}
use Rattle.race_report.specs.declared.racing.PathLines.{PathLines}
use Rattle.race_report.specs.declared.sought.Sought.{Sought}
use Rattle.race_report.specs.declared.sought.Sought.TheVariants.{Writes, Names}
use Rattle.race_report.specs.declared.table.LineTable.{LineTable}
use Rattle.race_report.specs.declared.table.ProgramLines.{ProgramLines}
use Rattle.race_report.specs.Lines.{does, line_if, block_line, sought_line}

-- an option of an option as one option
abbrev pub flat : {A : Type 0} → Option (Option A) → Option A
flat None = None
flat (Some found) = found

-- the line that a list of lines has at a place, if it has one
abbrev pub line_at : List (Option ℕ) → ℕ → Option ℕ
line_at lines place = flat (slice_get lines place)

-- the line at a place of a program, if the program's lines are kept and have one there
abbrev pub program_line : Option ProgramLines → ℕ → Option ℕ
program_line None place = None
program_line (Some program) place = line_at program.lines.items place

-- the lines of the program with this O number, if they are kept
abbrev pub kept_lines : LineTable → ℕ → Option ProgramLines
kept_lines table program = flat (slice_get table.programs.items program)

-- the line that the table has for the block at a place of a program
abbrev pub table_line : LineTable → ℕ → ℕ → Option ℕ
table_line table program place = program_line (kept_lines table program) place

-- for each block of a program its line, if it does what is looked for
abbrev pub lines_of : Sought → ℕ → List FlowBlock → List (Option ℕ)
lines_of sought v blocks = map (λ block. line_if (does sought v block) block.line) blocks

-- the line at a place of a program: by its lines if they are kept, else by the program itself
abbrev pub told_or : Sought → ℕ → Option ProgramLines → Option FlowProgram → ℕ → Option ℕ
told_or sought v (Some program) found place = line_at program.lines.items place
told_or sought v None found place = block_line sought v (slice_get (flow_blocks found) place)

-- the table and the programs that are not in it yet together tell all lines of the flow
abbrev pub IsToldWith : Flow → Sought → ℕ → LineTable → List FlowProgram → Type 0
IsToldWith flow sought v table rest =
    (q place : ℕ) → told_or sought v (kept_lines table q) (flow_program rest q) place ≡ sought_line flow sought v q place

-- these are the least lines of the parts of a path, for one variable: among the blocks that may
-- write it, and among those that name it
pub record ArePathLines (flow : Flow) (v : ℕ) (lines : PathLines) : Type 0 where
  pub writes : AreLeastLines flow.order (sought_line flow Writes v) lines.writes.items
  pub names : AreLeastLines flow.order (sought_line flow Names v) lines.names.items

-- these are the least lines of the parts of both paths, for one variable
pub record ArePairLines (left right : Flow) (v : ℕ) (lines : Both PathLines) : Type 0 where
  pub one : ArePathLines left v lines.one
  pub two : ArePathLines right v lines.two
