-- The shape of every tape that was read: the type `Tape` (src/tape.rt) keeps it, so nobody asks
-- again.
use Rattle.std.specs.Prelude.{ℕ, ◌<◌, ◌≤◌, List, ◌∷◌, length, map, All}
use Rattle.std.specs.List.{flat_map}
use Rattle.nc_number.specs.declared.limits.TheConstants.{LONGEST_LINE, MOST_BLOCKS}
use Rattle.nc_number.specs.Rising.{RiseFrom}
use Rattle.line_text.specs.LineShape.{IsSaidShape}
use Rattle.nc_text.specs.declared.tape.Block.{Block}
use Rattle.nc_text.specs.declared.tape.Program.{Program}

-- the lines of a program's O number and of its blocks
abbrev pub lines_of_program : Program → List ℕ
lines_of_program program = program.line ∷ map (λ block. block.line) program.blocks

-- the lines of all programs, in the order of the text
abbrev pub lines_in : List Program → List ℕ
lines_in tape = flat_map lines_of_program tape

-- the blocks of all programs, in the order of the text
abbrev pub blocks_in : List Program → List Block
blocks_in tape = flat_map (λ program. program.blocks) tape

-- a block with a sequence number of at most 99,999 or none, and with words of their shape or the
-- text of a statement, each no longer than a line of 512 bytes
abbrev pub IsBlockShape : Block → Type 0
IsBlockShape block = IsSaidShape LONGEST_LINE block.sequence block.body

-- an O number from 1 to 9,999
abbrev pub IsProgramShape : Program → Type 0
IsProgramShape program = (1 ≤ program.number) × (program.number ≤ 9999)

-- the shape of a whole tape
pub record IsTapeShape (tape : List Program) : Type 0 where
  -- there is at least one program
  pub some : 0 < length tape
  -- each O number is from 1 to 9,999
  pub numbers : All IsProgramShape tape
  -- the lines of O numbers and blocks rise, in the order of the text
  pub lines : RiseFrom 0 (lines_in tape)
  -- at most 20,000 blocks
  pub few : length (blocks_in tape) ≤ MOST_BLOCKS
  -- each block has its shape
  pub blocks : All IsBlockShape (blocks_in tape)
