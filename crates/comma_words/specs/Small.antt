-- A tape in which the words at some places have small letters. src/small.rt makes it. 65, 67 and 82
-- are the letters A, C and R, and 97, 99 and 114 the small ones.
use Rattle.std.specs.Prelude.{ℕ, Bool, ◌&&◌, ◌==◌, List, map, if◌then◌else◌}
use Rattle.std.specs.List.{list_any}
use Rattle.line_text.specs.declared.body.Word.{Word}
use Rattle.line_text.specs.declared.body.Body.{Body}
use Rattle.line_text.specs.declared.body.Body.TheVariants.{Words, Statement}
use Rattle.nc_text.specs.declared.tape.Block.{Block}
use Rattle.nc_text.specs.declared.tape.Program.{Program}
use Rattle.comma_words.specs.declared.places.CommaPlace.{CommaPlace}

-- the small letter that stands for one after a comma
abbrev pub small_letter : ℕ → ℕ
small_letter letter = if letter == 67 then 99 else if letter == 82 then 114 else if letter == 65 then 97 else letter

-- the word stands after a comma: its letter ends at one of these places
abbrev pub is_at_comma : List CommaPlace → ℕ → Word → Bool
is_at_comma places line word = list_any (λ place. place.line == line && place.place == word.start) places

-- the letter of a word of this line
abbrev pub letter_at : List CommaPlace → ℕ → Word → ℕ
letter_at places line word = if is_at_comma places line word then small_letter word.letter else word.letter

-- a word of this line
abbrev pub small_word : List CommaPlace → ℕ → Word → Word
small_word places line word =
    record { letter = letter_at places line word; start = word.start; end = word.end; text = word.text }

-- what the block of this line says
abbrev pub small_body : List CommaPlace → ℕ → Body → Body
small_body places line (Words words) = Words (map (small_word places line) words)
small_body places line (Statement text) = Statement text

-- a block, a program, and the tape
abbrev pub small_block : List CommaPlace → Block → Block
small_block places block =
    record { line = block.line; sequence = block.sequence; body = small_body places block.line block.body }

abbrev pub small_program : List CommaPlace → Program → Program
small_program places program =
    record { number = program.number; line = program.line; blocks = map (small_block places) program.blocks }

abbrev pub small_tape : List CommaPlace → List Program → List Program
small_tape places tape = map (small_program places) tape
