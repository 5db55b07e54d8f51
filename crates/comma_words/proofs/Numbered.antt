-- The numbers of programs stay in their range where words get small letters. For `with_commas` (src/reading.rt).
use Rattle.std.proofs.Common.{List, All}
use Rattle.std.proofs.lemmas.List.Elements.{All-map}
use Rattle.nc_text.specs.declared.tape.Program.{Program}
use Rattle.nc_text.specs.Shape.{IsTapeShape}
use Rattle.comma_words.specs.declared.places.CommaPlace.{CommaPlace}
use Rattle.comma_words.specs.Reading.{HasNumber}
use Rattle.comma_words.specs.Small.{small_program, small_tape}

pub numbered : (places : List CommaPlace) (tape : List Program) → IsTapeShape tape → All HasNumber (small_tape places tape)
numbered places tape shape =
    All-map HasNumber (small_program places) tape (λ k d within. (shape.numbers k d within).1)
