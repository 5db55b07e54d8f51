-- Whether a block says what is due, in any line and at any places of it. src/saying.rt computes it.
use Rattle.std.specs.Prelude.{ℕ, ◌+◌, Bool, true, false, ◌&&◌, ◌==◌, List, [], ◌∷◌, length, Option, Some, None, slice_get, if◌then◌else◌}
use Rattle.std.specs.Str.{bytes_eq}
use Rattle.line_text.specs.declared.body.Word.{Word}
use Rattle.line_text.specs.declared.body.Body.{Body}
use Rattle.line_text.specs.declared.body.Body.TheVariants.{Words, Statement}
use Rattle.nc_text.specs.declared.tape.Block.{Block}

-- two texts are the same
abbrev pub is_same_text : List ℕ → List ℕ → Bool
is_same_text own other = bytes_eq own other

-- two words say the same
abbrev pub is_same_word : Word → Word → Bool
is_same_word own other = own.letter == other.letter && is_same_text own.text other.text

-- the word that was found says the same as this one
abbrev pub is_found_word : Option Word → Word → Bool
is_found_word None other = false
is_found_word (Some own) other = is_same_word own other

-- the words from this place on say the same as these
abbrev pub are_at : List Word → ℕ → List Word → Bool
are_at words place [] = true
are_at words place (other ∷ others) =
    if is_found_word (slice_get words place) other then are_at words (place + 1) others else false

-- words say the same, one after the other
abbrev pub are_same_words : List Word → List Word → Bool
are_same_words own others = if length own == length others then are_at own 0 others else false

-- bodies say the same
abbrev pub is_same_body : Body → Body → Bool
is_same_body (Words words) (Words others) = are_same_words words others
is_same_body (Words words) (Statement others) = false
is_same_body (Statement text) (Words others) = false
is_same_body (Statement text) (Statement others) = is_same_text text others

-- sequence numbers are the same
abbrev pub is_same_number : Option ℕ → Option ℕ → Bool
is_same_number (Some number) (Some other) = number == other
is_same_number (Some number) None = false
is_same_number None (Some other) = false
is_same_number None None = true

-- a block has this sequence number and says this
abbrev pub says : Block → Option ℕ → Body → Bool
says block sequence body = is_same_number block.sequence sequence && is_same_body block.body body
