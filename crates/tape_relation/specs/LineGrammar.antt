-- What a line of a tape is, as a grammar over its signs: comments, the skip sign, comments, and a
-- statement or words. LineAlone and Programs say by it what a line says; no other crate cites it.
-- Bytes: 47 is `/`, 48 the digit 0, 78 the letter N, 79 the letter O.
use Rattle.std.specs.Prelude.{◌≡◌, ℕ, ◌+◌, ◌<◌, ◌≤◌, ◌==◌, ◌⊎◌, Bool, true, false, not, List, [], ◌∷◌, ◌++◌, length, filter, codes, Option, Some, None}
use Rattle.std.specs.List.{list_all, list_any}
use Rattle.line_text.specs.declared.sign.Sign.{Sign}
use Rattle.line_text.specs.declared.piece.Piece.{Piece}
use Rattle.nc_text.specs.Lines.{Line}
use Rattle.tape_relation.specs.Characters.{is_comment, bytes_of, AreSigns}
use Rattle.tape_relation.specs.Numbers.{IsLiteral}
use Rattle.tape_relation.specs.Words.{AreWords}

-- a line holds no block, an O number by its literal, words, or a statement behind the literal of
-- its N
pub data Sentence : Type 0 where
  -- no block: the line has nothing but comments and ignored bytes
  NoBlock : Sentence
  -- an O number: its literal
  ProgramNumber : List ℕ → Sentence
  -- a block of words, its sequence numbers among them
  WordBlock : List Piece → Sentence
  -- a statement: the literal of its N, if it has one, and its text
  StatementBlock : Option (List ℕ) → List ℕ → Sentence

-- a skip sign and its switch, or none: `/` alone names switch 1
pub data IsSkip : List Sign → Option ℕ → Type 0 where
  -- no skip sign
  none : IsSkip [] None
  -- a `/` (47) without a digit, which names switch 1
  alone : (slash : Sign) → slash.byte ≡ 47 → IsSkip (slash ∷ []) (Some 1)
  -- a `/` (47) and a digit from 1 to 9, which names the switch; 48 is the digit 0
  named : (slash digit : Sign) (switch : ℕ) → slash.byte ≡ 47 → digit.byte ≡ 48 + switch → 1 ≤ switch
      → switch ≤ 9 → IsSkip (slash ∷ (digit ∷ [])) (Some switch)

-- the bytes of the signs that are no comments
abbrev pub text_of : List Sign → List ℕ
text_of signs = bytes_of (filter (λ sign. not (is_comment sign)) signs)

-- the text begins with this word
abbrev pub Begins : List ℕ → List ℕ → Type 0
Begins word text = (rest : List ℕ) × (text ≡ word ++ rest)

-- the text begins as a statement does: with `#` or one of five words
abbrev pub IsStatement : List ℕ → Type 0
IsStatement text =
    Begins (codes "#") text ⊎ (Begins (codes "IF") text ⊎ (Begins (codes "WHILE") text
    ⊎ (Begins (codes "GOTO") text ⊎ (Begins (codes "DO") text ⊎ Begins (codes "END") text))))

-- whether one of the words is an O word, with whatever value
abbrev pub has_program_word : List Piece → Bool
has_program_word words = list_any (λ word. word.letter == 79) words

-- A block behind its skip sign. An O word has no other beside it, and no skip sign: with a literal
-- it is an O number.
pub data IsBlock : Option ℕ → List Sign → Sentence → Type 0 where
  -- an O word with a literal, alone: an O number
  program : (signs : List Sign) (word : Piece) → AreWords signs (word ∷ []) → (word.letter == 79) ≡ true
      → IsLiteral word.text → IsBlock None signs (ProgramNumber word.text)
  -- an O word with a variable or an expression, alone: a block of one word
  computed : (signs : List Sign) (word : Piece) → AreWords signs (word ∷ []) → (word.letter == 79) ≡ true
      → (IsLiteral word.text → ⊥) → IsBlock None signs (WordBlock (word ∷ []))
  -- words without O
  worded : (skip : Option ℕ) (signs : List Sign) (words : List Piece) → AreWords signs words
      → has_program_word words ≡ false → IsBlock skip signs (WordBlock words)
  -- a statement without a sequence number
  stated : (skip : Option ℕ) (signs : List Sign) → IsStatement (text_of signs)
      → IsBlock skip signs (StatementBlock None (text_of signs))
  -- a statement after N (78) and a literal
  numbered : (skip : Option ℕ) (letter : Sign) (number signs : List Sign) → (letter.byte == 78) ≡ true
      → IsLiteral (bytes_of number) → IsStatement (text_of signs)
      → IsBlock skip (letter ∷ (number ++ signs)) (StatementBlock (Some (bytes_of number)) (text_of signs))

-- the signs of a line are this sentence, behind a skip sign of this switch or none
pub data IsSentence : List Sign → Option ℕ → Sentence → Type 0 where
  -- comments alone: no block
  blank : (comments : List Sign) → list_all is_comment comments ≡ true → IsSentence comments None NoBlock
  -- comments, the skip sign if there is one, comments, and a block
  block : (before head between rest : List Sign) (skip : Option ℕ) (sentence : Sentence)
      → list_all is_comment before ≡ true → IsSkip head skip → list_all is_comment between ≡ true
      → 0 < length (head ++ rest) → IsBlock skip rest sentence
      → IsSentence (before ++ (head ++ (between ++ rest))) skip sentence

-- the line is this sentence, behind a skip sign of this switch or none
abbrev pub IsLine : Line → Option ℕ → Sentence → Type 0
IsLine line skip sentence = (signs : List Sign) × AreSigns line.ended 0 line.bytes signs
    × IsSentence signs skip sentence
