-- A text with words after commas, read. src/reading.rt reads it.
use Rattle.std.specs.Prelude.{ℕ, ◌≤◌, List, Result, Ok, Err}
use Rattle.nc_text.specs.declared.fault.TextFault.{TextFault}
use Rattle.nc_text.specs.declared.tape.Program.{Program}
use Rattle.nc_text.specs.Tape.{tape_of}
use Rattle.comma_words.specs.declared.places.CommaPlace.{CommaPlace}
use Rattle.comma_words.specs.Places.{front, comma_places, without_commas}
use Rattle.comma_words.specs.Small.{small_tape}

-- a program's number has at most four digits
abbrev pub HasNumber : Program → Type 0
HasNumber program = program.number ≤ 9999

-- the tape that was read with small letters at these places
abbrev pub with_small : List CommaPlace → Result (List Program) TextFault → Result (List Program) TextFault
with_small places (Ok tape) = Ok (small_tape places tape)
with_small places (Err fault) = Err fault

-- the programs of a text in which words may stand after commas
abbrev pub comma_tape : List ℕ → Result (List Program) TextFault
comma_tape text = with_small (comma_places front text) (tape_of 0 (without_commas text))
