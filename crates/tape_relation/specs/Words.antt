-- The words of a line of a tape as a grammar, apart from the way in which the reader cuts them.
-- LineGrammar takes it for blocks of words, LineAlone for the words before a long number; the law
-- `a_line_is_cut_into_its_words` (src/law.rt) says that it is what the reader cuts.
use Rattle.std.specs.Prelude.{◌≡◌, ℕ, ◌+◌, true, false, List, [], ◌∷◌, ◌++◌}
use Rattle.std.specs.Char.{is_ascii_uppercase}
use Rattle.std.specs.List.{list_all, list_any}
use Rattle.line_text.specs.declared.sign.Sign.{Sign}
use Rattle.line_text.specs.declared.piece.Piece.{Piece}
use Rattle.tape_relation.specs.Characters.{is_comment, bytes_of}
use Rattle.tape_relation.specs.Value.{IsValue}

-- a letter and its value as a word that ends before this place
abbrev pub word_at : Sign → ℕ → List Sign → Piece
word_at letter end value = record {
  letter = letter.byte;
  start = letter.place + 1;
  end = end;
  text = bytes_of value;
  whole = true;
}

-- the word has this letter and this value, and ends after the value's last sign
pub record IsWord (letter : Sign) (value : List Sign) (word : Piece) : Type 0 where
  -- the value without its last sign
  pub front : List Sign
  -- the last sign of the value
  pub last : Sign
  -- the value is these two
  pub value_is : value ≡ front ++ last ∷ []
  -- the word is this letter and this value, and ends after the last sign
  pub word_is : word ≡ word_at letter (last.place + 1) value

-- Signs spell words, one behind the other: each is a letter, its whole value without a comment in
-- it, and comments.
abbrev pub AreWords : List Sign → List Piece → Type 0
AreWords signs [] = signs ≡ []
AreWords signs (word ∷ words) = (letter : Sign) × (value : List Sign) × (comments : List Sign)
    × (others : List Sign) × (signs ≡ letter ∷ (value ++ (comments ++ others)))
    × (is_ascii_uppercase letter.byte ≡ true) × IsValue (bytes_of value) × (list_any is_comment value ≡ false)
    × (list_all is_comment comments ≡ true)
    × IsWord letter value word × AreWords others words
