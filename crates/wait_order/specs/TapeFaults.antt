-- What is known of each program of a tape, and the lines of the tape whose block may pass a wait:
-- the fault 65. For this crate alone: src/waiting.rt asks for these; src/deep.rt, src/depth.rt and
-- src/searches.rt lean on what is known of each program.
use Rattle.std.specs.Prelude.{◌≡◌, ℕ, ◌<◌, ◌≤◌, List, length, Some, slice_get}
use Rattle.nc_number.specs.declared.limits.TheConstants.{MOST_BLOCKS}
use Rattle.block_order.specs.declared.program.ControlProgram.{ControlProgram}
use Rattle.block_order.specs.Order.{blocks}
use Rattle.block_order.specs.Fitting.{Fits}
use Rattle.wait_order.specs.Waiting.{IsStrayLine, HasRisingLines}

-- The number of the program finds its blocks on the tape. It has at most 20,000 blocks, loops that
-- fit together, and lines that rise.
pub record IsProgramOf (tape : List ControlProgram) (program : ControlProgram) : Type 0 where
  -- The blocks that its number finds are its own, as of the first program of that number.
  pub own : blocks tape program.number ≡ program.blocks
  -- It has at most 20,000 blocks.
  pub few : length program.blocks ≤ MOST_BLOCKS
  -- Its loops fit together.
  pub fits : Fits program.blocks
  -- Its lines rise.
  pub rising : HasRisingLines program.blocks

-- Each program of the tape has the blocks that its number finds, at most 20,000, loops that fit
-- together, and lines that rise.
abbrev pub AreProgramsOf : List ControlProgram → Type 0
AreProgramsOf tape = (place : ℕ) (program : ControlProgram) → slice_get tape place ≡ Some program → IsProgramOf tape program

-- This is the line of a block of the tape that may pass a wait.
abbrev pub IsTapeStrayLine : List ControlProgram → ℕ → Type 0
IsTapeStrayLine tape line = (program : ℕ) × IsStrayLine tape program line

-- This is the line of a block that may pass a wait, in one of the first n programs.
abbrev pub IsStrayLineBelow : List ControlProgram → ℕ → ℕ → Type 0
IsStrayLineBelow tape n line =
    (place : ℕ) × (program : ControlProgram) × (place < n) × (slice_get tape place ≡ Some program)
    × IsStrayLine tape program.number line
