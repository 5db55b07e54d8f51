-- What a line between the `%` lines of a tape says, and what is wrong with it, whatever stands
-- before it. Conditions and Programs put it into the relation; no other crate cites it.
-- Bytes: 78 is the letter N, 79 the letter O.
use Rattle.std.specs.Prelude.{◌≡◌, ℕ, ◌/◌, ◌%◌, ◌^◌, ◌⊎◌, ◌==◌, Bool, true, false, List, ◌∷◌, ◌++◌, Option, Some, None}
use Rattle.std.specs.List.{list_all}
use Rattle.line_text.specs.declared.sign.Sign.{Sign}
use Rattle.line_text.specs.declared.piece.Piece.{Piece}
use Rattle.nc_text.specs.Lines.{Line}
use Rattle.tape_relation.specs.Characters.{is_comment, bytes_of, AreSigns}
use Rattle.tape_relation.specs.Words.{AreWords}
use Rattle.tape_relation.specs.Numbers.{IsLiteral, IsSequenceNumber, IsProgramNumber, BeginsLong}
use Rattle.tape_relation.specs.LineGrammar.{Sentence, NoBlock, ProgramNumber, WordBlock, StatementBlock, IsSkip, IsLine}

-- whether the switch of a skip sign is set: bit n of skips is switch n. None is no skip sign.
abbrev pub is_off : ℕ → Option ℕ → Bool
is_off skips None = false
is_off skips (Some switch) = (skips / 2 ^ switch) % 2 == 1

-- the line is this sentence, and its block is not skipped
abbrev pub Says : ℕ → Line → Sentence → Type 0
Says skips line sentence = (skip : Option ℕ) × IsLine line skip sentence × (is_off skips skip ≡ false)

-- the sentence is a block: words or a statement
abbrev pub is_block : Sentence → Bool
is_block NoBlock = false
is_block (ProgramNumber text) = false
is_block (WordBlock words) = true
is_block (StatementBlock number text) = true

-- the line says a block
abbrev pub SaysBlock : ℕ → Line → Type 0
SaysBlock skips line = (sentence : Sentence) × Says skips line sentence × (is_block sentence ≡ true)

-- the line says an O number, in its range or out of it
abbrev pub SaysProgram : ℕ → Line → Type 0
SaysProgram skips line = (text : List ℕ) × Says skips line (ProgramNumber text)

-- the line says a block or an O number
abbrev pub SaysSomething : ℕ → Line → Type 0
SaysSomething skips line = SaysBlock skips line ⊎ SaysProgram skips line

-- in a block that is not skipped, an N or an O whose value begins with a literal of too many digits
-- stands after words or at the beginning; what follows need not be readable
pub record IsLong (skips : ℕ) (signs : List Sign) : Type 0 where
  -- the comments that the line begins with
  pub before : List Sign
  -- the skip sign with its digit, or nothing
  pub head : List Sign
  -- the comments after the skip sign
  pub between : List Sign
  -- the signs of the words before the letter
  pub front : List Sign
  -- the letter, N or O
  pub letter : Sign
  -- what stands after the letter
  pub rest : List Sign
  -- the switch of the skip sign, or none
  pub skip : Option ℕ
  -- the words before the letter
  pub words : List Piece
  -- the signs are these parts, one after the other
  pub signs_are : signs ≡ before ++ (head ++ (between ++ (front ++ letter ∷ rest)))
  -- the signs at the beginning are comments
  pub before_are : list_all is_comment before ≡ true
  -- the skip sign names this switch
  pub head_is : IsSkip head skip
  -- the block is not skipped
  pub on : is_off skips skip ≡ false
  -- the signs after the skip sign are comments
  pub between_are : list_all is_comment between ≡ true
  -- the signs before the letter spell these words
  pub words_are : AreWords front words
  -- the letter is N (78) or O (79)
  pub letter_is : (letter.byte ≡ 78) ⊎ (letter.byte ≡ 79)
  -- what stands after the letter begins with a literal of too many digits
  pub long : BeginsLong (bytes_of rest)

-- on the line, a sequence number or an O number of a block that is not skipped has too many digits
abbrev pub HasLongNumber : ℕ → Line → Type 0
HasLongNumber skips line = (signs : List Sign) × AreSigns line.ended 0 line.bytes signs × IsLong skips signs

-- the line is no sentence of the grammar: something stands where no word can, or an O word does not
-- stand alone in its block
abbrev pub IsBroken : Line → Type 0
IsBroken line = (skip : Option ℕ) (sentence : Sentence) → IsLine line skip sentence → ⊥

-- the word is a sequence number of its block: an N with a literal
abbrev pub IsNumbering : Piece → Type 0
IsNumbering word = (word.letter ≡ 78) × IsLiteral word.text

-- the literal writes no number from 0 to 99,999
abbrev pub LacksSequenceNumber : List ℕ → Type 0
LacksSequenceNumber text = (n : ℕ) → IsSequenceNumber text n → ⊥

-- the sentence is an O number out of its range, or has a sequence number out of its range
abbrev pub LeavesRange : Sentence → Type 0
LeavesRange NoBlock = ⊥
LeavesRange (ProgramNumber text) = (n : ℕ) → IsProgramNumber text n → ⊥
LeavesRange (WordBlock words) = (front : List Piece) × (word : Piece) × (back : List Piece)
    × (words ≡ front ++ word ∷ back) × IsNumbering word × LacksSequenceNumber word.text
LeavesRange (StatementBlock None text) = ⊥
LeavesRange (StatementBlock (Some number) text) = LacksSequenceNumber number

-- the line says a sequence number or an O number out of its range
abbrev pub IsOutOfRange : ℕ → Line → Type 0
IsOutOfRange skips line = (sentence : Sentence) × Says skips line sentence × LeavesRange sentence
