-- What holds of the programs of every tape that was read: where they stand in the text, and how
-- many blocks there are. The readers of tapes keep this of what they read.
use Rattle.std.specs.Prelude.{ℕ, ◌<◌, ◌≤◌, List, ◌∷◌, length, map}
use Rattle.std.specs.List.{flat_map}
use Rattle.nc_number.specs.declared.limits.TheConstants.{MOST_BLOCKS}
use Rattle.nc_number.specs.Rising.{RiseFrom}
use Rattle.block_order.specs.declared.program.ControlBlock.{ControlBlock}
use Rattle.block_order.specs.declared.program.ControlProgram.{ControlProgram}

-- The lines of a program's O number and of its blocks.
abbrev pub lines_of_program : ControlProgram → List ℕ
lines_of_program program = program.line ∷ map (λ block. block.line) program.blocks

-- The lines of all programs, in the order of the text.
abbrev pub lines_in : List ControlProgram → List ℕ
lines_in tape = flat_map lines_of_program tape

-- The blocks of all programs, in the order of the text.
abbrev pub blocks_in : List ControlProgram → List ControlBlock
blocks_in tape = flat_map (λ program. program.blocks) tape

-- What every tape that was read has: at least one program, lines that rise through the whole tape,
-- and at most MOST_BLOCKS blocks.
pub record IsReadTape (tape : List ControlProgram) : Type 0 where
  -- There is a program.
  pub some : 0 < length tape
  -- The lines rise from one to the next, and the first is 1 or more.
  pub lines : RiseFrom 0 (lines_in tape)
  -- There are at most MOST_BLOCKS blocks.
  pub few : length (blocks_in tape) ≤ MOST_BLOCKS
