-- The blocks of a tape, each read for its control alone, or the first of them that is refused. What
-- one block does to the order is defined in open_forms.
use Rattle.std.specs.Prelude.{ℕ, Bool, List, [], ◌∷◌, ◌++◌, Result, Ok, Err, if◌then◌else◌}
use Rattle.nc_number.specs.Results.{◌>>=◌}
use Rattle.nc_text.specs.declared.tape.Block.{Block}
use Rattle.nc_text.specs.declared.tape.Program.{Program}
use Rattle.block_order.specs.declared.control.Control.{Control}
use Rattle.block_order.specs.declared.control.Control.TheVariants.{Next, Call}
use Rattle.block_order.specs.declared.program.ControlBlock.{ControlBlock}
use Rattle.block_order.specs.declared.program.ControlProgram.{ControlProgram}
use Rattle.block_forms.specs.declared.fault.FormFault.{FormFault}
use Rattle.open_forms.specs.Controls.{open_control, control_or_number}
use Rattle.tape_flow.specs.declared.fault.FlowFault.{FlowFault}
use Rattle.open_order.specs.declared.premises.Premises.{Premises}
use Rattle.open_order.specs.Gone.{is_gone}

-- the control of a block on its tape: a call of a program that the tape lacks (`gone`) goes on to
-- the next block, however often it is repeated
abbrev pub settled_control : (ℕ → Bool) → Control → Control
settled_control gone (Call program repeats) = if gone program then Next else Call program repeats
settled_control gone other = other

-- a block with its line, its sequence number and its control; or its refusal, told at its line
abbrev pub at_line : (ℕ → Bool) → Block → Result Control FormFault → Result ControlBlock FlowFault
at_line gone block (Ok control) =
    Ok (record { line = block.line; sequence = block.sequence; control = settled_control gone control })
at_line gone block (Err fault) = Err (record { number = fault.number; line = block.line })

-- what a block is read over
pub record Basis : Type 0 where
  -- how words are read, and which programs may be missing
  pub premises : Premises
  -- all programs of the block's tape
  pub tape : List Program

-- the tape lacks the program of this number, as it may
abbrev pub gone_from : Basis → ℕ → Bool
gone_from basis number = is_gone basis.premises.outside basis.tape number

-- a block as far as the order of blocks goes, or its refusal
abbrev pub block_read : Basis → Block → Result ControlBlock FlowFault
block_read basis block =
    at_line (gone_from basis) block (control_or_number (open_control basis.premises.dialect block.body))

-- the blocks that are read, and then these ones, or the first refusal among these
abbrev pub blocks_from : Basis → List ControlBlock → List Block → Result (List ControlBlock) FlowFault
blocks_from basis done [] = Ok done
blocks_from basis done (block ∷ blocks) = do
  read ← block_read basis block
  blocks_from basis (done ++ read ∷ []) blocks

-- a program with its blocks read, or the first refusal
abbrev pub program_read : Basis → Program → Result ControlProgram FlowFault
program_read basis program = do
  blocks ← blocks_from basis [] program.blocks
  Ok (record { number = program.number; line = program.line; blocks = blocks })

-- the programs that are read, and then these ones, or the first refusal among these
abbrev pub programs_from : Basis → List ControlProgram → List Program → Result (List ControlProgram) FlowFault
programs_from basis done [] = Ok done
programs_from basis done (program ∷ programs) = do
  read ← program_read basis program
  programs_from basis (done ++ read ∷ []) programs

-- all programs of a tape, or the refusal of the first block that has one
abbrev pub programs_read : Premises → List Program → Result (List ControlProgram) FlowFault
programs_read premises tape = programs_from (record { premises = premises; tape = tape }) [] tape
