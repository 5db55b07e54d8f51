-- What src/loud.rt keeps of a tape: the place of each O number, and which programs are loud. A loud
-- program comes to a wait or an end, itself or by its calls (Loud).
use Rattle.std.specs.Prelude.{◌≡◌, ℕ, Bool, true, List}
use Rattle.block_order.specs.declared.loud.LoudPrograms.{LoudPrograms}
use Rattle.block_order.specs.declared.numbers.ProgramNumbers.{ProgramNumbers}
use Rattle.block_order.specs.declared.program.ControlProgram.{ControlProgram}
use Rattle.block_order.specs.Loud.{loud}
use Rattle.block_order.specs.Numbers.{place_known, KnowsPlaces}
use Rattle.block_order.specs.ProgramPlaces.{flag_at, is_flagged}

-- The flag that is kept of an O number's program.
abbrev pub flag_known : ProgramNumbers → List Bool → ℕ → Bool
flag_known numbers flags number = flag_at flags (place_known numbers number)

-- Whether the program of this O number is flagged as loud in what is kept.
abbrev pub is_kept_loud : LoudPrograms → ℕ → Bool
is_kept_loud known number = flag_known known.numbers known.flags.items number

-- No program is flagged that is not loud.
abbrev pub AreOnlyLoud : List ControlProgram → List Bool → Type 0
AreOnlyLoud tape flags = (q : ℕ) → is_flagged tape flags q ≡ true → loud tape q ≡ true

-- The places and the flags that are kept are those of this tape.
pub record AreFlagsOf (tape : List ControlProgram) (known : LoudPrograms) : Type 0 where
  -- The place of each O number is that of its program.
  pub places : KnowsPlaces tape known.numbers
  -- The flag of each O number says whether its program is loud.
  pub loud_is : is_kept_loud known ≡ loud tape
