-- What was read of a tape up to a mark, the moment of the reading to which the reader goes back if
-- memory runs out in a piece, and what was read since. The contracts of src/going_back.rt,
-- progress.rt, step.rt and feed.rt speak of it.
use Rattle.std.specs.Prelude.{◌≡◌, ℕ, List, [], ◌∷◌, ◌++◌, length, take, Option, Some, None}
use Rattle.std.specs.Option.{option_to_list}
use Rattle.nc_text.specs.declared.tape.Block.{Block}
use Rattle.nc_text.specs.declared.tape.Program.{Program}
use Rattle.nc_text.specs.declared.mark.Mark.{Mark}
use Rattle.nc_text.specs.Tape.{Before}
use Rattle.nc_text.specs.ReadShape.{IsShaped}

-- how many blocks the program that is being read has, or none if no program is being read
abbrev pub block_count : Option Program → Option ℕ
block_count None = None
block_count (Some program) = Some (length program.blocks)

-- The mark has the sizes of what was read at it: all that is needed to go back there. A new field
-- of `Mark` needs its line here.
pub record IsMarkOf (mark : Mark) (start : Before) : Type 0 where
  -- how many lines were read
  pub lines_are : mark.lines ≡ start.lines
  -- how many bytes these lines had, with their line feeds
  pub bytes_are : mark.bytes ≡ start.bytes
  -- the number of the first `%` line, or 0 before it
  pub percent_is : mark.percent ≡ start.percent
  -- how many blocks there were, of all programs
  pub blocks_are : mark.blocks ≡ start.blocks
  -- how many programs stood before the one that was being read
  pub done_are : mark.done ≡ length start.done
  -- how many blocks that program had, if there was one
  pub current_is : mark.current ≡ block_count start.current

-- the program, if there is one, with so many of its first blocks
abbrev pub first_blocks : ℕ → Option Program → Option Program
first_blocks count None = None
first_blocks count (Some program) = Some (record program { blocks = take count program.blocks })

-- the program, if there is one, with this many of its first blocks; without a number, no program
abbrev pub cut_program : Option ℕ → Option Program → Option Program
cut_program None program = None
cut_program (Some count) program = first_blocks count program

-- the first of these programs, if there is one
abbrev pub first_of : List Program → Option Program
first_of [] = None
first_of (program ∷ programs) = Some program

-- a program with further blocks after its own
abbrev pub with_blocks : Program → List Block → Program
with_blocks program more = record program { blocks = program.blocks ++ more }

-- the program that was being read, if there was one, is the first of these, with further blocks
-- after its own or none
abbrev pub GoesOn : Option Program → List Program → Type 0
GoesOn None programs = Unit {0}
GoesOn (Some program) programs = (more : List Block) × (others : List Program) × (programs ≡ with_blocks program more ∷ others)

-- What is read now begins with the programs that were read at the start: those that were done
-- stand, and the one that was being read, if any, has its blocks and perhaps more.
abbrev pub Follows : Before → Before → Type 0
Follows start now = (programs : List Program) × (now.done ≡ start.done ++ programs) × GoesOn start.current (programs ++ option_to_list now.current)

-- whatever still stood at the first of two moments still stands at the second
abbrev pub Grows : Before → Before → Type 0
Grows old new = (start : Before) → Follows start old → Follows start new

-- what was read at the mark still stands, and had the shape of what is read
pub record StoodAt (mark : Mark) (now : Before) : Type 0 where
  -- what was read at the mark
  pub start : Before
  -- the mark is of what was read there
  pub mark_is : IsMarkOf mark start
  -- what was read there still stands
  pub follows : Follows start now
  -- what was read there had its shape
  pub shaped : IsShaped start
