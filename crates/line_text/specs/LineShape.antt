-- The shape of what a line of a tape says. Proofs/ShapeOfLine shows it of each line that is not
-- refused by itself.
use Rattle.std.specs.Prelude.{◌≡◌, ℕ, ◌≤◌, ◌==◌, true, false, List, length, All, Option, None, Some, IfSome}
use Rattle.std.specs.Char.{is_ascii_uppercase}
use Rattle.std.specs.List.{list_any}
use Rattle.nc_number.specs.declared.limits.TheConstants.{LAST_SEQUENCE}
use Rattle.nc_number.specs.Literals.{is_literal}
use Rattle.line_text.specs.declared.body.Word.{Word}
use Rattle.line_text.specs.declared.body.Body.{Body}
use Rattle.line_text.specs.declared.body.Body.TheVariants.{Words, Statement}
use Rattle.line_text.specs.declared.said.Said.{Said}
use Rattle.line_text.specs.declared.said.Said.TheVariants as said
use Rattle.line_text.specs.Front.{is_statement}
use Rattle.line_text.specs.Values.{is_value}

-- A letter and a whole value, on a line of at most `most` bytes. N and O among the words are
-- computed: an N with a literal is the block's sequence number, and an O with a literal begins a
-- program.
pub record IsWordShape (most : ℕ) (word : Word) : Type 0 where
  -- it begins with a letter, in upper case
  pub letter : is_ascii_uppercase word.letter ≡ true
  -- a whole value follows
  pub value : is_value word.text ≡ true
  -- it is no longer than the line
  pub short : length word.text ≤ most
  -- a word N (78) has no literal
  pub sequence : word.letter ≡ 78 → is_literal word.text ≡ false
  -- a word O (79) has no literal
  pub program : word.letter ≡ 79 → is_literal word.text ≡ false

-- if the words have an O (79), it is the only word, and the block has no sequence number
abbrev pub IsAlone : Option ℕ → List Word → Type 0
IsAlone sequence words = list_any (λ word. word.letter == 79) words ≡ true → (length words ≡ 1) × (sequence ≡ None)

-- The body of a block on a line of at most so many bytes, with this sequence number: words, each of
-- its shape, or a text that begins as a statement does.
abbrev pub IsBodyShape : ℕ → Option ℕ → Body → Type 0
IsBodyShape most sequence (Words words) = All (IsWordShape most) words × IsAlone sequence words
IsBodyShape most sequence (Statement text) = (is_statement text ≡ true) × (length text ≤ most)

-- a block on a line of at most so many bytes: its sequence number and its body
pub record IsSaidShape (most : ℕ) (sequence : Option ℕ) (body : Body) : Type 0 where
  -- a sequence number is at most 99,999
  pub sequence_is : IfSome sequence (λ n. n ≤ LAST_SEQUENCE)
  -- the words or the statement have their shape
  pub body_is : IsBodyShape most sequence body

-- what a line of at most so many bytes may say: nothing, an O number from 1 to 9,999, an O number
-- out of that range (`Program None`), or a block of its shape
abbrev pub IsSaid : ℕ → Said → Type 0
IsSaid most said.Nothing = Unit {0}
IsSaid most (said.Program None) = Unit {0}
IsSaid most (said.Program (Some number)) = (1 ≤ number) × (number ≤ 9999)
IsSaid most (said.Block block) = IsSaidShape most block.sequence block.body
