-- The blocks of a tape as they read one by one, or the first of them that is refused. What one
-- block says, and its refusal, is defined in block_forms. `ProgramForm` is how the crates above
-- write what a checked tape says.
use Rattle.std.specs.Prelude.{ℕ, List, [], ◌∷◌, ◌++◌, map, Result, Ok, Err}
use Rattle.nc_number.specs.Results.{◌>>=◌}
use Rattle.nc_text.specs.declared.tape.Block.{Block}
use Rattle.nc_text.specs.declared.tape.Program.{Program}
use Rattle.block_words.specs.declared.dialect.Dialect.{Dialect}
use Rattle.block_forms.specs.Forms.{BlockForm, block_or_refusal}
use Rattle.block_forms.specs.Blocks.{block_form}
use Rattle.tape_flow.specs.declared.fault.FlowFault.{FlowFault}
use Rattle.tape_flow.specs.declared.program.FlowProgram.{FlowProgram}

-- a program of a tape that was read
pub record ProgramForm : Type 0 where
  -- the O number
  pub number : ℕ
  -- the line of the O number, from 1
  pub line : ℕ
  -- what its blocks say, in the order of the text
  pub blocks : List BlockForm

-- what contracts see of a program of the code's flow
abbrev pub program_form : FlowProgram → ProgramForm
program_form program = record { number = program.number; line = program.line; blocks = map block_form program.blocks }

-- the refusal of a block is told at its line
abbrev pub at_line : ℕ → Result BlockForm ℕ → Result BlockForm FlowFault
at_line line (Ok form) = Ok form
at_line line (Err number) = Err (record { number = number; line = line })

-- a block as it reads, or its refusal
abbrev pub block_read : Dialect → Block → Result BlockForm FlowFault
block_read dialect block = at_line block.line (block_or_refusal dialect block)

-- the blocks that are read, and then these ones, or the first refusal among these
abbrev pub blocks_from : Dialect → List BlockForm → List Block → Result (List BlockForm) FlowFault
blocks_from dialect done [] = Ok done
blocks_from dialect done (block ∷ blocks) = do
  form ← block_read dialect block
  blocks_from dialect (done ++ form ∷ []) blocks

-- a program as it reads, or its first refusal
abbrev pub program_read : Dialect → Program → Result ProgramForm FlowFault
program_read dialect program = do
  blocks ← blocks_from dialect [] program.blocks
  Ok (record { number = program.number; line = program.line; blocks = blocks })

-- the programs that are read, and then these ones, or the first refusal among these
abbrev pub programs_from : Dialect → List ProgramForm → List Program → Result (List ProgramForm) FlowFault
programs_from dialect done [] = Ok done
programs_from dialect done (program ∷ programs) = do
  form ← program_read dialect program
  programs_from dialect (done ++ form ∷ []) programs

-- all programs of a tape, or the first refusal of a block
abbrev pub programs_read : Dialect → List Program → Result (List ProgramForm) FlowFault
programs_read dialect tape = programs_from dialect [] tape
