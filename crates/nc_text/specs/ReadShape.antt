-- The shape of what was read so far of a tape: an invariant of `Progress` (src/progress.rt). At the
-- end it makes the shape of a whole tape, which is in Shape.
use Rattle.std.specs.Prelude.{ℕ, ◌<◌, ◌≤◌, List, [], ◌∷◌, ◌++◌, length, All, Option}
use Rattle.std.specs.Coded.{×_prop, le_prop}
use Rattle.std.proofs.Props.{props}
use Rattle.line_text.specs.declared.body.Body.{Body}
use Rattle.line_text.specs.declared.body.Body.TheVariants.{Words, Statement}
use Rattle.nc_text.specs.declared.tape.Program.{Program}
use Rattle.std.specs.Option.{option_to_list}
use Rattle.nc_text.specs.Tape.{Before}
use Rattle.line_text.specs.LineShape.{IsBodyShape}
use Rattle.nc_text.specs.Shape.{lines_in, blocks_in, IsProgramShape, IsBlockShape}

-- each number is above the one before it, the first above low, and the last is at most high
abbrev pub RiseTo : ℕ → List ℕ → ℕ → Type 0
RiseTo low [] high = low ≤ high
RiseTo low (n ∷ ns) high = (low < n) × RiseTo n ns high

-- programs that stand on the first so many lines and have at most so many blocks
pub record IsReadShape (lines blocks : ℕ) (programs : List Program) : Type 0 where
  -- each O number is from 1 to 9,999
  pub numbers : All IsProgramShape programs
  -- the lines of O numbers and blocks rise, up to the lines that were read
  pub rise : RiseTo 0 (lines_in programs) lines
  -- all programs have at most so many blocks
  pub count : length (blocks_in programs) ≤ blocks
  -- each block has its shape
  pub shaped : All IsBlockShape (blocks_in programs)

-- what was read so far has this shape
abbrev pub IsShaped : Before → Type 0
IsShaped before = IsReadShape before.lines before.blocks (before.done ++ option_to_list before.current)

-- That facts of a shape have one proof at most: a ghost field of a type must have that.

-- that numbers rise has one proof at most
RiseTo-prop : (low : ℕ) (ns : List ℕ) (high : ℕ) → IsProp (RiseTo low ns high)
RiseTo-prop low [] high = le_prop
RiseTo-prop low (n ∷ ns) high = ×_prop le_prop (RiseTo-prop n ns high)

-- the shape of a block's body has one proof at most
IsBodyShape-prop : (most : ℕ) (sequence : Option ℕ) (body : Body) → IsProp (IsBodyShape most sequence body)
IsBodyShape-prop most sequence (Words words) = hlevel props
IsBodyShape-prop most sequence (Statement text) = hlevel props

-- the shape of what was read has one proof at most
pub IsReadShape-prop : (lines blocks : ℕ) (programs : List Program) → IsProp (IsReadShape lines blocks programs)
IsReadShape-prop lines blocks programs = hlevel (props, RiseTo-prop, IsBodyShape-prop)
