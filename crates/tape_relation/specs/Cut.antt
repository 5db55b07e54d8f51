-- The words into which the reader cuts a line of a tape: what the law
-- `a_line_is_cut_into_its_words` (src/law.rt) compares with the words of the grammar. For this
-- crate alone.
use Rattle.std.specs.Prelude.{◌≡◌, true, List}
use Rattle.std.specs.List.{list_all}
use Rattle.line_text.specs.declared.sign.Sign.{Sign}
use Rattle.line_text.specs.declared.piece.Piece.{Piece}
use Rattle.line_text.specs.Pieces.{value_len, pieces_of}
use Rattle.line_text.specs.Said.{is_sound}

-- the reader cuts the signs into these words: nothing stands before the first one, and each has a
-- whole value
pub record IsCut (signs : List Sign) (words : List Piece) : Type 0 where
  -- no sign stands before the first word
  pub at_letter : value_len signs 0 ≡ 0
  -- the reader's pieces are these words
  pub words_are : pieces_of signs ≡ words
  -- each word has a whole value
  pub whole : list_all is_sound words ≡ true
