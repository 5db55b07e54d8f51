-- What a line says by the grammar is what the reader takes from it. Lemmas in `_read` go from the
-- relation to the reader, those in `_found` from the reader to the relation. For Steps, Ends,
-- ProgramsSay, OneAnswer and Agrees, which go through the lines, and for LongNumbers.
use Rattle.std.proofs.Common.{◌≡◌, ◌==◌, ℕ, Bool, true, false, not, ◌&&◌, ◌||◌, List, [], ◌∷◌, ◌++◌, length, filter, Option, Some, None, ◌⊎◌, inl, inr, refl, sym, ap, subst, ◌∙◌, arith}
use Rattle.std.specs.Prelude.{All, is_some}
use Rattle.std.specs.List.{list_all, list_any}
use Rattle.std.proofs.lemmas.Bool.{eqb-true, eq-eqb, or_parts}
use Rattle.std.proofs.lemmas.List.Elements.{All-nil, All-cons, All-head, All-tail}
use Rattle.nc_number.specs.Literals.{is_literal}
use Rattle.nc_number.proofs.Bools.{both}
use Rattle.line_text.specs.declared.sign.Sign.{Sign}
use Rattle.line_text.specs.declared.piece.Piece.{Piece}
use Rattle.line_text.specs.declared.said.Said.{Said}
use Rattle.line_text.specs.declared.said.Said.TheVariants as said
use Rattle.nc_text.specs.Lines.{Line}
use Rattle.line_text.specs.Values.{number_in}
use Rattle.line_text.specs.Front.{behind_comments}
use Rattle.line_text.specs.Said.{is_sequence, is_in_range, is_skipped}
use Rattle.nc_text.specs.Tape as tape
use Rattle.tape_relation.specs.LineGrammar.{Sentence, NoBlock, ProgramNumber, WordBlock, StatementBlock, IsLine}
use Rattle.tape_relation.specs.LineAlone as own
use Rattle.tape_relation.specs.LineAlone.{Says, is_block, SaysBlock, SaysProgram, SaysSomething, IsBroken, IsNumbering, LacksSequenceNumber, LeavesRange, IsOutOfRange}
use Rattle.tape_relation.specs.Conditions.{SayNothing, SayBlocks}
use Rattle.tape_relation.proofs.LiteralParts.{literal_read, literal_found}
use Rattle.tape_relation.proofs.Remarks.{the_signs, signs_same}
use Rattle.tape_relation.proofs.Sentences.{said_of, HasLiterals, sentence_literals, IsRead, sentence_read}
use Rattle.tape_relation.proofs.Found.{sentence_found}
use Rattle.tape_relation.proofs.Ranges.{lacks_read, lacks_found, sequence_number, lacks_sequence}
use Rattle.tape_relation.proofs.LineRead.{scan, reading, is_off, says, says_block, is_program, says_program, is_something, says_something, says_in_range}

-- A line that is a sentence is read as it, and a line that is read is one.

-- whether a switch is set is the same to the reader and to the relation
pub same_off : (skips : ℕ) (skip : Option ℕ) → is_skipped skips skip ≡ own.is_off skips skip
same_off skips None = refl
same_off skips (Some switch) = refl

-- a line of the grammar is read as its sentence
line_read : (line : Line) (skip : Option ℕ) (sentence : Sentence) → IsLine line skip sentence → IsRead (behind_comments (scan line).list) skip sentence
line_read line skip sentence (signs, are, is) =
    let P : List Sign → Type 0 = λ ss. IsRead (behind_comments ss) skip sentence in subst P (sym (signs_same line signs are)) (sentence_read signs skip sentence is)

-- a line that is not broken has a sentence
line_found : (line : Line) → (reading line).broken ≡ false → (skip : Option ℕ) × (sentence : Sentence) × IsLine line skip sentence
line_found line e = let found = sentence_found (scan line).list e in (found.0, found.1, ((scan line).list, the_signs line, found.2))

-- a line that is no sentence is broken to the reader
pub broken_read : (line : Line) → IsBroken line → (reading line).broken ≡ true
broken_read line broken = go (reading line).broken refl
  where
    go : (t : Bool) → (reading line).broken ≡ t → (reading line).broken ≡ true
    go true e = e
    go false e = let found = line_found line e in absurd (broken found.0 found.1 found.2)

-- a line that is broken to the reader is no sentence
pub broken_found : (line : Line) → (reading line).broken ≡ true → IsBroken line
broken_found line e skip sentence is = let bad : true ≡ false = sym e ∙ (line_read line skip sentence is).reads.sound in absurd cc

-- what a line says by the relation the reader takes from it
pub says_read : (skips : ℕ) (line : Line) (sentence : Sentence) → Says skips line sentence → says skips line ≡ said_of sentence
says_read skips line sentence (skip, is, on) =
    let r = line_read line skip sentence is in
    let off : is_off skips line ≡ false = ap (is_skipped skips) r.switch_is ∙ same_off skips skip ∙ on in
    rw (off, r.reads.sound) r.reads.says

-- the line says nothing to the reader, or it says a sentence by the relation
abbrev pub Told : ℕ → Line → Type 0
Told skips line = (says skips line ≡ said.Nothing) ⊎ ((sentence : Sentence) × Says skips line sentence)

-- each line says nothing to the reader, or says a sentence by the relation
pub told : (skips : ℕ) (line : Line) → Told skips line
told skips line = go (is_off skips line) refl (reading line).broken refl
  where
    go : (o : Bool) → is_off skips line ≡ o → (b : Bool) → (reading line).broken ≡ b → Told skips line
    go true e b f = inl (rw e refl)
    go false e true f = inl (rw (e, f) refl)
    go false e false f =
        let found = line_found line f in
        let r = line_read line found.0 found.1 found.2 in
        inr (found.1, (found.0, found.2, sym (ap (is_skipped skips) r.switch_is ∙ same_off skips found.0) ∙ e))

-- the numbers of a sentence that is said are literals
pub says_literals : (skips : ℕ) (line : Line) (sentence : Sentence) → Says skips line sentence → HasLiterals sentence
says_literals skips line sentence (skip, (signs, are, is), on) = sentence_literals signs skip sentence is

-- A block, an O number, or one of both.

-- a sentence is a block exactly if the reader says so
same_block : (sentence : Sentence) → tape.is_block (said_of sentence) ≡ is_block sentence
same_block NoBlock = refl
same_block (ProgramNumber text) = refl
same_block (WordBlock words) = refl
same_block (StatementBlock None text) = refl
same_block (StatementBlock (Some number) text) = refl

-- a line that says a block by the relation says one to the reader
pub block_read : (skips : ℕ) (line : Line) → SaysBlock skips line → says_block skips line ≡ true
block_read skips line (sentence, is, e) = ap tape.is_block (says_read skips line sentence is) ∙ same_block sentence ∙ e

-- a line that says a block to the reader says one by the relation
pub block_found : (skips : ℕ) (line : Line) → says_block skips line ≡ true → SaysBlock skips line
block_found skips line e = go (told skips line)
  where
    go : Told skips line → SaysBlock skips line
    go (inl none) = let bad : true ≡ false = sym e ∙ ap tape.is_block none in absurd cc
    go (inr (sentence, is)) = (sentence, is, sym (same_block sentence) ∙ sym (ap tape.is_block (says_read skips line sentence is)) ∙ e)

-- a line that says an O number by the relation says one to the reader
program_read : (skips : ℕ) (line : Line) → SaysProgram skips line → says_program skips line ≡ true
program_read skips line (text, is) = ap is_program (says_read skips line (ProgramNumber text) is)

-- a line that says an O number to the reader says one by the relation
program_found : (skips : ℕ) (line : Line) → says_program skips line ≡ true → SaysProgram skips line
program_found skips line e = go (told skips line)
  where
    go : Told skips line → SaysProgram skips line
    go (inl none) = let bad : true ≡ false = sym e ∙ ap is_program none in absurd cc
    go (inr (sentence, is)) = by sentence is (sym (ap is_program (says_read skips line sentence is)) ∙ e)
      where
        by : (s : Sentence) → Says skips line s → is_program (said_of s) ≡ true → SaysProgram skips line
        by NoBlock is h = absurd cc
        by (ProgramNumber text) is h = (text, is)
        by (WordBlock words) is h = absurd cc
        by (StatementBlock None text) is h = absurd cc
        by (StatementBlock (Some number) text) is h = absurd cc

-- The next three: a line says a block or an O number to the reader exactly if it does by the
-- relation.
something_of : (s : Said) → is_something s ≡ (tape.is_block s || is_program s)
something_of said.Nothing = refl
something_of (said.Program number) = refl
something_of (said.Block block) = refl

something_read : (skips : ℕ) (line : Line) → SaysSomething skips line → says_something skips line ≡ true
something_read skips line (inl is) = something_of (says skips line) ∙ rw (block_read skips line is) refl
something_read skips line (inr is) = something_of (says skips line) ∙ right (says_block skips line) (says_program skips line) (program_read skips line is)
  where
    right : (a b : Bool) → b ≡ true → (a || b) ≡ true
    right true b e = refl
    right false b e = e

something_found : (skips : ℕ) (line : Line) → says_something skips line ≡ true → SaysSomething skips line
something_found skips line e = go (says_block skips line) refl (says_program skips line) refl (sym (something_of (says skips line)) ∙ e)
  where
    go : (a : Bool) → says_block skips line ≡ a → (b : Bool) → says_program skips line ≡ b → (a || b) ≡ true → SaysSomething skips line
    go true p b q h = inl (block_found skips line p)
    go false p true q h = inr (program_found skips line q)
    go false p false q h = absurd cc

-- Of none of some lines it is so.

-- The next two: of no line of a list it is so, by a test or by a statement.
none_of : (P : Line → Type 0) (test : Line → Bool) → ((line : Line) → test line ≡ true → P line) → (lines : List Line) → All (λ line. P line → ⊥) lines → list_any test lines ≡ false
none_of P test found [] all = refl
none_of P test found (line ∷ lines) all =
    let here = All-head (λ (l : Line). P l → ⊥) line lines all in
    let later = none_of P test found lines (All-tail (λ (l : Line). P l → ⊥) line lines all) in
    go (test line) refl here later
  where
    go : (t : Bool) → test line ≡ t → (P line → ⊥) → list_any test lines ≡ false → (test line || list_any test lines) ≡ false
    go true e here later = absurd (here (found line e))
    go false e here later = rw e later

of_none : (P : Line → Type 0) (test : Line → Bool) → ((line : Line) → P line → test line ≡ true) → (lines : List Line) → list_any test lines ≡ false → All (λ line. P line → ⊥) lines
of_none P test read [] e = All-nil (λ (l : Line). P l → ⊥)
of_none P test read (line ∷ lines) e =
    let p = or_parts (test line) (list_any test lines) e in
    All-cons (λ (l : Line). P l → ⊥) line lines (λ is. let bad : true ≡ false = sym (read line is) ∙ p.0 in absurd cc) (of_none P test read lines p.1)

-- lines that say nothing by the relation say nothing to the reader
pub silent_read : (skips : ℕ) (lines : List Line) → SayNothing skips lines → list_any (says_something skips) lines ≡ false
silent_read skips lines all = none_of (SaysSomething skips) (says_something skips) (something_found skips) lines all

-- lines that say nothing to the reader say nothing by the relation
pub silent_found : (skips : ℕ) (lines : List Line) → list_any (says_something skips) lines ≡ false → SayNothing skips lines
silent_found skips lines e = of_none (SaysSomething skips) (says_something skips) (something_read skips) lines e

-- lines without an O number by the relation have none to the reader
pub no_program_read : (skips : ℕ) (lines : List Line) → All (λ line. SaysProgram skips line → ⊥) lines → list_any (says_program skips) lines ≡ false
no_program_read skips lines all = none_of (SaysProgram skips) (says_program skips) (program_found skips) lines all

-- lines without an O number to the reader have none by the relation
pub no_program_found : (skips : ℕ) (lines : List Line) → list_any (says_program skips) lines ≡ false → All (λ line. SaysProgram skips line → ⊥) lines
no_program_found skips lines e = of_none (SaysProgram skips) (says_program skips) (program_read skips) lines e

-- The next two: a line says no block to the reader exactly if it says none by the relation.
no_block : (skips : ℕ) (line : Line) → says_block skips line ≡ false → SaysBlock skips line → ⊥
no_block skips line e is = let bad : true ≡ false = sym (block_read skips line is) ∙ e in absurd cc

not_block : (skips : ℕ) (line : Line) → (SaysBlock skips line → ⊥) → says_block skips line ≡ false
not_block skips line out = go (says_block skips line) refl
  where
    go : (t : Bool) → says_block skips line ≡ t → says_block skips line ≡ false
    go true e = absurd (out (block_found skips line e))
    go false e = e

-- as many lines say a block to the reader as by the relation
pub blocks_read : (skips : ℕ) (lines : List Line) (n : ℕ) → SayBlocks skips lines n → n ≡ length (filter (says_block skips) lines)
blocks_read skips [] n e = e
blocks_read skips (line ∷ lines) n (inl (is, (m, e, later))) = let count = blocks_read skips lines m later in rw (block_read skips line is) (omega arith)
blocks_read skips (line ∷ lines) n (inr (out, later)) = rw (not_block skips line out) (blocks_read skips lines n later)

-- the relation counts as many blocks as the reader
pub blocks_found : (skips : ℕ) (lines : List Line) → SayBlocks skips lines (length (filter (says_block skips) lines))
blocks_found skips [] = refl
blocks_found skips (line ∷ lines) = go (says_block skips line) refl (blocks_found skips lines)
  where
    go : (t : Bool) → says_block skips line ≡ t → SayBlocks skips lines (length (filter (says_block skips) lines)) → SayBlocks skips (line ∷ lines) (length (filter (says_block skips) (line ∷ lines)))
    go true e later = inl (block_found skips line e, (length (filter (says_block skips) lines), rw e (omega arith), later))
    go false e later = inr (no_block skips line e, rw e later)

-- The ranges.

-- a word that is a sequence number by the relation is one to the reader
pub numbering_read : (word : Piece) → IsNumbering word → is_sequence word ≡ true
numbering_read word (n, lit) = rw (eq-eqb word.letter 78 n, literal_read word.text lit) refl

-- a word that is a sequence number to the reader is one by the relation
pub numbering_found : (word : Piece) → is_sequence word ≡ true → IsNumbering word
numbering_found word e = let p = both (word.letter == 78) (is_literal word.text) e in (eqb-true word.letter 78 p.0, literal_found word.text p.1)

-- The next four: a sentence has a number out of its range to the reader exactly if it has one by
-- the relation; the first two speak of words.
lacks_word : (words : List Piece) → list_all is_in_range words ≡ false → LeavesRange (WordBlock words)
lacks_word [] e = absurd cc
lacks_word (word ∷ words) e = go (is_sequence word) refl (is_some (number_in 0 99999 word.text)) refl e (lacks_word words)
  where
    go : (s : Bool) → is_sequence word ≡ s → (n : Bool) → is_some (number_in 0 99999 word.text) ≡ n → ((not s || n) && list_all is_in_range words) ≡ false → (list_all is_in_range words ≡ false → LeavesRange (WordBlock words)) → LeavesRange (WordBlock (word ∷ words))
    go true f false g h later = ([], word, words, refl, numbering_found word f, λ n is. lacks_found 0 99999 word.text g n (sequence_number word.text n is))
    go true f true g h later = let (front, other, back, is, numbering, lacks) = later h in (word ∷ front, other, back, ap (λ (ws : List Piece). word ∷ ws) is, numbering, lacks)
    go false f n g h later = let (front, other, back, is, numbering, lacks) = later h in (word ∷ front, other, back, ap (λ (ws : List Piece). word ∷ ws) is, numbering, lacks)

word_lacks : (front : List Piece) (word : Piece) (back : List Piece) → IsNumbering word → LacksSequenceNumber word.text → list_all is_in_range (front ++ word ∷ back) ≡ false
word_lacks [] word back numbering lacks = rw (numbering_read word numbering, lacks_read 0 99999 word.text (literal_read word.text numbering.1) (lacks_sequence word.text lacks)) refl
word_lacks (first ∷ front) word back numbering lacks = right (is_in_range first) (list_all is_in_range (front ++ word ∷ back)) (word_lacks front word back numbering lacks)
  where
    right : (a b : Bool) → b ≡ false → (a && b) ≡ false
    right true b e = e
    right false b e = refl

leaves_read : (sentence : Sentence) → HasLiterals sentence → LeavesRange sentence → tape.is_said_in_range (said_of sentence) ≡ false
leaves_read NoBlock lit leaves = absurd leaves
leaves_read (ProgramNumber text) lit leaves = lacks_read 1 9999 text lit leaves
leaves_read (WordBlock words) lit (front, word, back, is, numbering, lacks) = ap (list_all is_in_range) is ∙ word_lacks front word back numbering lacks
leaves_read (StatementBlock None text) lit leaves = absurd leaves
leaves_read (StatementBlock (Some number) text) lit leaves = lacks_read 0 99999 number lit (lacks_sequence number leaves)

leaves_found : (sentence : Sentence) → tape.is_said_in_range (said_of sentence) ≡ false → LeavesRange sentence
leaves_found NoBlock e = absurd cc
leaves_found (ProgramNumber text) e = lacks_found 1 9999 text e
leaves_found (WordBlock words) e = lacks_word words e
leaves_found (StatementBlock None text) e = absurd cc
leaves_found (StatementBlock (Some number) text) e = λ n is. lacks_found 0 99999 number e n (sequence_number number n is)

-- a line with a number out of its range by the relation is out of range to the reader
pub range_read : (skips : ℕ) (line : Line) → IsOutOfRange skips line → says_in_range skips line ≡ false
range_read skips line (sentence, is, leaves) = ap tape.is_said_in_range (says_read skips line sentence is) ∙ leaves_read sentence (says_literals skips line sentence is) leaves

-- a line that is out of range to the reader has a number out of its range by the relation
pub range_found : (skips : ℕ) (line : Line) → says_in_range skips line ≡ false → IsOutOfRange skips line
range_found skips line e = go (told skips line)
  where
    go : Told skips line → IsOutOfRange skips line
    go (inl none) = let bad : true ≡ false = sym (ap tape.is_said_in_range none) ∙ e in absurd cc
    go (inr (sentence, is)) = (sentence, is, leaves_found sentence (sym (ap tape.is_said_in_range (says_read skips line sentence is)) ∙ e))
