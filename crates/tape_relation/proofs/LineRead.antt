-- What the reader takes from a line: short names for parts of nc_text's and line_text's
-- definitions. LineSays and LongNumbers show that they are what the relation says; Steps,
-- FirstFault, Ends, ProgramsSay, OneAnswer and Agrees speak in them.
use Rattle.std.proofs.Common.{◌≡◌, ℕ, ◌+◌, Bool, true, false, cond, ◌||◌, List, [], ◌∷◌, ◌++◌, length, Some}
use Rattle.std.specs.List.{list_any}
use Rattle.line_text.specs.declared.said.Said.{Said}
use Rattle.line_text.specs.declared.said.Said.TheVariants as said
use Rattle.line_text.specs.declared.said.Reading.{Reading}
use Rattle.nc_text.specs.declared.tape.Block.{Block}
use Rattle.nc_text.specs.declared.tape.Program.{Program}
use Rattle.nc_text.specs.Lines.{Line}
use Rattle.line_text.specs.Signs.{Scan, signs_of}
use Rattle.line_text.specs.Front.{behind_comments}
use Rattle.line_text.specs.Said.{is_skipped, read_head}
use Rattle.tape_relation.specs.Edited.{line_switch}
use Rattle.nc_text.specs.Tape.{is_block, is_said_in_range}

-- the signs of a line, and whether it ends in a comment
abbrev pub scan : Line → Scan
scan line = signs_of line.bytes line.ended

-- how the signs of a line read after its first comments
abbrev pub reading : Line → Reading
reading line = read_head (behind_comments (scan line).list)

-- whether the line's block has a skip sign whose switch is set
abbrev pub is_off : ℕ → Line → Bool
is_off skips line = is_skipped skips (line_switch line.bytes line.ended)

-- what the line says; a line that cannot be read, or is skipped, says nothing
abbrev pub says : ℕ → Line → Said
says skips line = cond (is_off skips line || (reading line).broken) said.Nothing (reading line).said

-- whether the line says a block
abbrev pub says_block : ℕ → Line → Bool
says_block skips line = is_block (says skips line)

-- whether what is said is an O number
abbrev pub is_program : Said → Bool
is_program said.Nothing = false
is_program (said.Program number) = true
is_program (said.Block block) = false

-- whether the line says an O number
abbrev pub says_program : ℕ → Line → Bool
says_program skips line = is_program (says skips line)

-- whether what is said is a block or an O number
abbrev pub is_something : Said → Bool
is_something said.Nothing = false
is_something (said.Program number) = true
is_something (said.Block block) = true

-- whether the line says a block or an O number
abbrev pub says_something : ℕ → Line → Bool
says_something skips line = is_something (says skips line)

-- whether the numbers that the line says are in range
abbrev pub says_in_range : ℕ → Line → Bool
says_in_range skips line = is_said_in_range (says skips line)

-- the block that is said on the line of this number, or none
abbrev pub block_on : ℕ → Said → List Block
block_on line said.Nothing = []
block_on line (said.Program number) = []
block_on line (said.Block block) = record { line = line; sequence = block.sequence; body = block.body } ∷ []

-- the blocks that these lines say, if so many lines stand before them
abbrev pub blocks_on : ℕ → ℕ → List Line → List Block
blocks_on skips before [] = []
blocks_on skips before (line ∷ lines) = block_on (before + 1) (says skips line) ++ blocks_on skips (before + 1) lines

-- these lines, of which the first stands behind so many, say these programs
abbrev pub SayPrograms : ℕ → ℕ → List Line → List Program → Type 0
SayPrograms skips before lines [] = lines ≡ []
SayPrograms skips before lines (program ∷ programs) = (head : Line) × (own : List Line) × (others : List Line) × (lines ≡ head ∷ (own ++ others))
    × (says skips head ≡ said.Program (Some program.number)) × (program.line ≡ before + 1)
    × (list_any (says_program skips) own ≡ false) × (program.blocks ≡ blocks_on skips (before + 1) own) × SayPrograms skips (before + 1 + length own) others programs
