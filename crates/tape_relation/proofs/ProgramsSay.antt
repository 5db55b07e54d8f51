-- The programs of the relation are those that the reader's lines say. Lemmas in `_read` go from the
-- relation to the reader, those in `_found` from the reader to the relation. For Agrees and
-- OneAnswer.
use Rattle.std.proofs.Common.{◌≡◌, ◌==◌, ℕ, ◌+◌, Bool, true, false, cond, List, [], ◌∷◌, ◌++◌, length, Option, Some, None, ◌⊎◌, inl, inr, refl, sym, ap, subst, ◌∙◌}
use Rattle.std.specs.Prelude.{is_some}
use Rattle.std.specs.List.{list_all, list_any}
use Rattle.std.proofs.lemmas.Bool.{or_parts}
use Rattle.std.proofs.lemmas.List.Folds.{list_all-append}
use Rattle.std.proofs.lemmas.List.Elements.{All-nil, All-cons, All-head, All-tail}
use Rattle.nc_number.proofs.Bools.{both}
use Rattle.line_text.specs.declared.piece.Piece.{Piece}
use Rattle.line_text.specs.declared.said.Said.{Said}
use Rattle.line_text.specs.declared.said.Said.TheVariants as said
use Rattle.nc_text.specs.declared.tape.Block.{Block}
use Rattle.line_text.specs.declared.body.Body.{Body}
use Rattle.line_text.specs.declared.body.Body.TheVariants.{Words, Statement}
use Rattle.nc_text.specs.declared.tape.Program.{Program}
use Rattle.line_text.specs.declared.body.Word.{Word}
use Rattle.nc_text.specs.Lines.{Line}
use Rattle.line_text.specs.Values.{number_in}
use Rattle.line_text.specs.Said.{is_sequence, is_in_range, sequence_from, words_of}
use Rattle.nc_text.specs.Tape.{is_said_in_range}
use Rattle.nc_text.specs.Tape as tape
use Rattle.nc_number.specs.Literals.{is_literal}
use Rattle.tape_relation.specs.Numbers.{IsSequenceNumber}
use Rattle.tape_relation.specs.LineGrammar.{Sentence, NoBlock, ProgramNumber, WordBlock, StatementBlock}
use Rattle.tape_relation.specs.LineAlone.{Says, SaysBlock, IsNumbering}
use Rattle.tape_relation.specs.Programs.{HasNoNumber, IsLastNumber, IsSequence, word_of, AreOthers, HasBody, IsBlockOn, AreBlocks, SaysNumber, ArePrograms}
use Rattle.tape_relation.proofs.Sentences.{said_of, HasLiterals}
use Rattle.tape_relation.proofs.Ranges.{number_read, number_found, has_found, sequence_number}
use Rattle.tape_relation.proofs.LineRead.{says, says_in_range, block_on, blocks_on, SayPrograms}
use Rattle.tape_relation.proofs.LineSays.{numbering_read, numbering_found, says_read, says_literals, Told, told, block_read, block_found, no_program_read, no_program_found}

-- The sequence number of a block.

-- These two: a word is no sequence number to the reader exactly if it is none by the relation.
no_numbering : (word : Piece) → is_sequence word ≡ false → IsNumbering word → ⊥
no_numbering word e is = let bad : true ≡ false = sym (numbering_read word is) ∙ e in absurd cc

not_numbering : (word : Piece) → (IsNumbering word → ⊥) → is_sequence word ≡ false
not_numbering word out = go (is_sequence word) refl
  where
    go : (t : Bool) → is_sequence word ≡ t → is_sequence word ≡ false
    go true e = absurd (out (numbering_found word e))
    go false e = e

-- words without a sequence number by the relation have none to the reader
no_number_read : (words : List Piece) → HasNoNumber words → list_any is_sequence words ≡ false
no_number_read [] all = refl
no_number_read (word ∷ words) all =
    rw (not_numbering word (All-head (λ (w : Piece). IsNumbering w → ⊥) word words all)) (no_number_read words (All-tail (λ (w : Piece). IsNumbering w → ⊥) word words all))

-- words without a sequence number to the reader have none by the relation
no_number_found : (words : List Piece) → list_any is_sequence words ≡ false → HasNoNumber words
no_number_found [] off = All-nil (λ (w : Piece). IsNumbering w → ⊥)
no_number_found (word ∷ words) off =
    let p = or_parts (is_sequence word) (list_any is_sequence words) off in All-cons (λ (w : Piece). IsNumbering w → ⊥) word words (no_numbering word p.0) (no_number_found words p.1)

-- The next two: the last sequence number of a front and a rest, and of words without one.
sequence_front : (front rest : List Piece) (before : Option ℕ) → sequence_from before (front ++ rest) ≡ sequence_from (sequence_from before front) rest
sequence_front [] rest before = refl
sequence_front (word ∷ front) rest before = sequence_front front rest (cond (is_sequence word) (number_in 0 99999 word.text) before)

sequence_none : (words : List Piece) (before : Option ℕ) → list_any is_sequence words ≡ false → sequence_from before words ≡ before
sequence_none [] before off = refl
sequence_none (word ∷ words) before off = let p = or_parts (is_sequence word) (list_any is_sequence words) off in rw p.0 (sequence_none words before p.1)

-- the last sequence number by the relation is the one that the reader takes
sequence_read : (words : List Piece) (number : Option (List ℕ)) (sequence : Option ℕ) → IsLastNumber words number → IsSequence number sequence → sequence_from None words ≡ sequence
sequence_read words None sequence off is = sequence_none words None (no_number_read words off) ∙ sym is
sequence_read words (Some text) sequence (front, word, back, is, numbering, text-is, off) (n, sequence-is, number) =
    let last : sequence_from (cond (is_sequence word) (number_in 0 99999 word.text) (sequence_from None front)) back ≡ number_in 0 99999 word.text = rw (numbering_read word numbering) (sequence_none back (number_in 0 99999 word.text) (no_number_read back off)) in
    ap (sequence_from None) is ∙ sequence_front front (word ∷ back) None ∙ last ∙ ap (number_in 0 99999) (sym text-is) ∙ number_read 0 99999 text n (sequence_number text n number) ∙ sym sequence-is

-- The next two: the words of a block without its sequence numbers are the same by the relation and
-- to the reader.
others_read : (words : List Piece) (others : List Word) → AreOthers words others → others ≡ words_of words
others_read [] others is = is
others_read (word ∷ words) others (inl (numbering, rest)) = rw (numbering_read word numbering) (others_read words others rest)
others_read (word ∷ words) others (inr (other, (later, is, rest))) = rw (not_numbering word other) (is ∙ ap (λ (ws : List Word). word_of word ∷ ws) (others_read words later rest))

others_found : (words : List Piece) → AreOthers words (words_of words)
others_found [] = refl
others_found (word ∷ words) = go (is_sequence word) refl (others_found words)
  where
    go : (t : Bool) → is_sequence word ≡ t → AreOthers words (words_of words) → AreOthers (word ∷ words) (words_of (word ∷ words))
    go true e later = inl (numbering_found word e, rw e later)
    go false e later = inr (no_numbering word e, (words_of words, rw e refl, later))

-- the last sequence number of words whose numbers are in range, or the one from before if there is
-- none
abbrev LastOr : Option ℕ → List Piece → Type 0
LastOr before words = ((list_any is_sequence words ≡ false) × (sequence_from before words ≡ before))
    ⊎ ((front : List Piece) × (word : Piece) × (back : List Piece) × (words ≡ front ++ word ∷ back) × (is_sequence word ≡ true) × (list_any is_sequence back ≡ false) × ((n : ℕ) × (sequence_from before words ≡ Some n) × IsSequenceNumber word.text n))

-- each list of words whose numbers are in range has such a number
last_or : (words : List Piece) (before : Option ℕ) → list_all is_in_range words ≡ true → LastOr before words
last_or [] before all = inl (refl, refl)
last_or (word ∷ words) before all =
    let p = both (is_in_range word) (list_all is_in_range words) all in
    go (is_sequence word) refl p.0 (last_or words (cond (is_sequence word) (number_in 0 99999 word.text) before) p.1)
  where
    go : (t : Bool) → is_sequence word ≡ t → is_in_range word ≡ true → LastOr (cond (is_sequence word) (number_in 0 99999 word.text) before) words → LastOr before (word ∷ words)
    go t e range (inr (front, other, back, is, numbering, off, number)) = inr (word ∷ front, other, back, ap (λ (ws : List Piece). word ∷ ws) is, numbering, off, number)
    go false e range (inl (off, same)) = inl (rw e off, same ∙ rw e refl)
    go true e range (inl (off, same)) =
        let inside : is_some (number_in 0 99999 word.text) ≡ true = rw e at range in
        let found = has_found 0 99999 word.text (both (word.letter == 78) (is_literal word.text) e).1 inside in inr ([], word, words, refl, e, off, (found.0, same ∙ rw e found.1, (found.2.0, found.2.2)))

-- the sequence number that the reader takes is the last one by the relation, if all are in range
sequence_found : (words : List Piece) → list_all is_in_range words ≡ true → (number : Option (List ℕ)) × IsLastNumber words number × IsSequence number (sequence_from None words)
sequence_found words all = go (last_or words None all)
  where
    go : LastOr None words → (number : Option (List ℕ)) × IsLastNumber words number × IsSequence number (sequence_from None words)
    go (inl (off, same)) = (None, no_number_found words off, same)
    go (inr (front, word, back, is, numbering, off, number)) = (Some word.text, (front, word, back, is, numbering_found word numbering, refl, no_number_found back off), number)

-- The block of a line.

-- what is said is a block with this sequence number and this body
abbrev SaidAs : Said → Block → Type 0
SaidAs s block = (in_range : Bool) × (s ≡ said.Block (record { sequence = block.sequence; in_range = in_range; body = block.body }))

-- The next three: a sentence that is a block by the relation is what the reader takes; a line
-- without a block has none.
body_read : (sentence : Sentence) (block : Block) → HasBody sentence block.sequence block.body → SaidAs (said_of sentence) block
body_read NoBlock block has = absurd has
body_read (ProgramNumber text) block has = absurd has
body_read (WordBlock words) block (number, last, is, (others, others-are, body-is)) =
    let body : block.body ≡ Words (words_of words) = body-is ∙ ap Words (others_read words others others-are) in
    let sequence = sequence_read words number block.sequence last is in (
      list_all is_in_range words,
      ap (λ (s : Option ℕ). said.Block (record { sequence = s; in_range = list_all is_in_range words; body = Words (words_of words) })) sequence
          ∙ ap (λ (b : Body). said.Block (record { sequence = block.sequence; in_range = list_all is_in_range words; body = b })) (sym body),
    )
body_read (StatementBlock None text) block (is, body) =
    (true, ap (λ (s : Option ℕ). said.Block (record { sequence = s; in_range = true; body = Statement text })) (sym is) ∙ ap (λ (b : Body). said.Block (record { sequence = block.sequence; in_range = true; body = b })) (sym body))
body_read (StatementBlock (Some number) text) block ((n, is, number-is), body) =
    let sequence : number_in 0 99999 number ≡ block.sequence = number_read 0 99999 number n (sequence_number number n number-is) ∙ sym is in (
      is_some (number_in 0 99999 number),
      ap (λ (s : Option ℕ). said.Block (record { sequence = s; in_range = is_some (number_in 0 99999 number); body = Statement text })) sequence
          ∙ ap (λ (b : Body). said.Block (record { sequence = block.sequence; in_range = is_some (number_in 0 99999 number); body = b })) (sym body),
    )

block_on_read : (skips number : ℕ) (line : Line) (block : Block) → IsBlockOn skips number line block → block_on number (says skips line) ≡ block ∷ []
block_on_read skips number line block (sentence, is, has, line-is) =
    let s = body_read sentence block has in
    let here : block_on number (says skips line) ≡ record { line = number; sequence = block.sequence; body = block.body } ∷ [] = ap (block_on number) (says_read skips line sentence is ∙ s.1) in
    here ∙ ap (λ (n : ℕ). record { line = n; sequence = block.sequence; body = block.body } ∷ []) (sym line-is)

no_block_on : (skips number : ℕ) (line : Line) → (SaysBlock skips line → ⊥) → block_on number (says skips line) ≡ []
no_block_on skips number line out = go (says skips line) refl
  where
    go : (s : Said) → says skips line ≡ s → block_on number s ≡ []
    go said.Nothing e = refl
    go (said.Program n) e = refl
    go (said.Block block) e = absurd (out (block_found skips line (ap tape.is_block e)))

-- the blocks of lines by the relation are those that the reader has
blocks_are : (skips before : ℕ) (lines : List Line) (blocks : List Block) → AreBlocks skips before lines blocks → blocks ≡ blocks_on skips before lines
blocks_are skips before [] blocks is = is
blocks_are skips before (line ∷ lines) blocks (inl (block, later, is, here, rest)) =
    rw (block_on_read skips (before + 1) line block here) (is ∙ ap (λ (bs : List Block). block ∷ bs) (blocks_are skips (before + 1) lines later rest))
blocks_are skips before (line ∷ lines) blocks (inr (out, rest)) = rw (no_block_on skips (before + 1) line out) (blocks_are skips (before + 1) lines blocks rest)

-- by the relation, the line says the one block of this list, or the list is empty and it says none
abbrev Here : ℕ → ℕ → Line → List Block → Type 0
Here skips number line blocks = ((block : Block) × (blocks ≡ block ∷ []) × IsBlockOn skips number line block) ⊎ ((SaysBlock skips line → ⊥) × (blocks ≡ []))

-- The next two: each line says its block, or none, by the relation.
nothing_here : (skips number : ℕ) (line : Line) (s : Said) → says skips line ≡ s → tape.is_block s ≡ false → SaysBlock skips line → ⊥
nothing_here skips number line s e off is = let bad : true ≡ false = sym (block_read skips line is) ∙ ap tape.is_block e ∙ off in absurd cc

here_found : (skips number : ℕ) (line : Line) → says_in_range skips line ≡ true → Here skips number line (block_on number (says skips line))
here_found skips number line range = go (told skips line)
  where
    go : Told skips line → Here skips number line (block_on number (says skips line))
    go (inl none) = inr (nothing_here skips number line said.Nothing none refl, ap (block_on number) none)
    go (inr (sentence, is)) = by sentence is (says_literals skips line sentence is) (says_read skips line sentence is) (sym (ap is_said_in_range (says_read skips line sentence is)) ∙ range)
      where
        by : (s : Sentence) → Says skips line s → HasLiterals s → says skips line ≡ said_of s → is_said_in_range (said_of s) ≡ true → Here skips number line (block_on number (says skips line))
        by NoBlock is lit e inside = inr (nothing_here skips number line said.Nothing e refl, ap (block_on number) e)
        by (ProgramNumber text) is lit e inside = inr (nothing_here skips number line (said_of (ProgramNumber text)) e refl, ap (block_on number) e)
        by (WordBlock words) is lit e inside =
            let found = sequence_found words inside in
            inl (record { line = number; sequence = sequence_from None words; body = Words (words_of words) }, ap (block_on number) e, (WordBlock words, is, (found.0, found.1, found.2, (words_of words, others_found words, refl)), refl))
        by (StatementBlock None text) is lit e inside = inl (record { line = number; sequence = None; body = Statement text }, ap (block_on number) e, (StatementBlock None text, is, (refl, refl), refl))
        by (StatementBlock (Some digits) text) is lit e inside =
            let found = has_found 0 99999 digits lit inside in
            inl (record { line = number; sequence = number_in 0 99999 digits; body = Statement text }, ap (block_on number) e, (StatementBlock (Some digits) text, is, ((found.0, found.1, (found.2.0, found.2.2)), refl), refl))

-- the blocks that the reader has are those of the lines by the relation
blocks_made : (skips before : ℕ) (lines : List Line) → list_all (says_in_range skips) lines ≡ true → AreBlocks skips before lines (blocks_on skips before lines)
blocks_made skips before [] all = refl
blocks_made skips before (line ∷ lines) all =
    let p = both (says_in_range skips line) (list_all (says_in_range skips) lines) all in go (here_found skips (before + 1) line p.0) (blocks_made skips (before + 1) lines p.1)
  where
    go : Here skips (before + 1) line (block_on (before + 1) (says skips line)) → AreBlocks skips (before + 1) lines (blocks_on skips (before + 1) lines) → AreBlocks skips before (line ∷ lines) (blocks_on skips before (line ∷ lines))
    go (inl (block, is, here)) rest = inl (block, blocks_on skips (before + 1) lines, ap (λ (bs : List Block). bs ++ blocks_on skips (before + 1) lines) is, here, rest)
    go (inr (out, is)) rest = let P : List Block → Type 0 = AreBlocks skips (before + 1) lines in inr (out, subst P (sym (ap (λ (bs : List Block). bs ++ blocks_on skips (before + 1) lines) is)) rest)

-- The programs.

-- The next two: a line says this O number to the reader exactly if it does by the relation.
number_said : (skips : ℕ) (line : Line) (n : ℕ) → SaysNumber skips line n → says skips line ≡ said.Program (Some n)
number_said skips line n (text, is, number) = says_read skips line (ProgramNumber text) is ∙ ap said.Program (number_read 1 9999 text n number)

number_says : (skips : ℕ) (line : Line) (n : ℕ) → says skips line ≡ said.Program (Some n) → SaysNumber skips line n
number_says skips line n e = go (told skips line)
  where
    go : Told skips line → SaysNumber skips line n
    go (inl none) = let bad : said.Nothing ≡ said.Program (Some n) = sym none ∙ e in absurd cc
    go (inr (sentence, is)) = by sentence is (says_literals skips line sentence is) (sym (says_read skips line sentence is) ∙ e)
      where
        by : (s : Sentence) → Says skips line s → HasLiterals s → said_of s ≡ said.Program (Some n) → SaysNumber skips line n
        by NoBlock is lit h = absurd cc
        by (ProgramNumber text) is lit h = let number : number_in 1 9999 text ≡ Some n = cc in (text, is, number_found 1 9999 text n lit number)
        by (WordBlock words) is lit h = absurd cc
        by (StatementBlock None text) is lit h = absurd cc
        by (StatementBlock (Some digits) text) is lit h = absurd cc

-- programs of the relation are what the lines say to the reader
pub programs_read : (skips before : ℕ) (lines : List Line) (programs : List Program) → ArePrograms skips before lines programs → SayPrograms skips before lines programs
programs_read skips before lines [] is = is
programs_read skips before lines (program ∷ programs) (head, own, others, is, number, line-is, off, blocks, rest) =
    (head, own, others, is, number_said skips head program.number number, line-is, no_program_read skips own off, blocks_are skips (before + 1) own program.blocks blocks, programs_read skips (before + 1 + length own) others programs rest)

-- programs that the lines say to the reader are programs of the relation, if all numbers are in
-- range
pub programs_found : (skips before : ℕ) (lines : List Line) (programs : List Program) → list_all (says_in_range skips) lines ≡ true → SayPrograms skips before lines programs → ArePrograms skips before lines programs
programs_found skips before lines [] range is = is
programs_found skips before lines (program ∷ programs) range (head, own, others, is, number, line-is, off, blocks, rest) =
    let P : List Block → Type 0 = AreBlocks skips (before + 1) own in
    let all = both (says_in_range skips head) (list_all (says_in_range skips) (own ++ others)) (sym (ap (list_all (says_in_range skips)) is) ∙ range) in
    let parts = both (list_all (says_in_range skips) own) (list_all (says_in_range skips) others) (sym (list_all-append (says_in_range skips) own others) ∙ all.1) in (
      head,
      own,
      others,
      is,
      number_says skips head program.number number,
      line-is,
      no_program_found skips own off,
      subst P (sym blocks) (blocks_made skips (before + 1) own parts.0),
      programs_found skips (before + 1 + length own) others programs parts.1 rest,
    )
