-- What src/numbers.rt keeps of a tape's O numbers: the place of each number's program.
use Rattle.std.specs.Prelude.{◌≡◌, ℕ, List, Option, slice_get}
use Rattle.std.specs.Option.{option_flatten}
use Rattle.block_order.specs.declared.numbers.ProgramNumbers.{ProgramNumbers}
use Rattle.block_order.specs.declared.program.ControlProgram.{ControlProgram}
use Rattle.block_order.specs.ProgramPlaces.{place_of}

-- The place that these places keep of an O number.
abbrev pub place_kept : List (Option ℕ) → ℕ → Option ℕ
place_kept places number = option_flatten (slice_get places number)

-- The place that is kept of an O number, if one is.
abbrev pub place_known : ProgramNumbers → ℕ → Option ℕ
place_known numbers number = place_kept numbers.places.items number

-- What is kept of each O number is the place of its program on the tape.
abbrev pub KnowsPlaces : List ControlProgram → ProgramNumbers → Type 0
KnowsPlaces tape numbers = (number : ℕ) → place_known numbers number ≡ place_of tape number
