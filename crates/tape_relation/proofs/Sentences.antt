-- A sentence of the grammar is read as what it is: the reader finds its switch, no fault, and what
-- it says. For LineSays, Found, LongNumbers and ProgramsSay.
use Rattle.std.proofs.Common.{◌≡◌, ◌==◌, ℕ, suc, ◌+◌, ◌-◌, ◌<◌, ◌≤◌, Bool, true, false, cond, not, ◌&&◌, List, [], ◌∷◌, ◌++◌, length, Option, Some, None, refl, sym, ap, subst, ◌∙◌, append-nil, arith}
use Rattle.std.specs.Prelude.{nat_lt, is_some}
use Rattle.std.specs.Char.{is_ascii_uppercase}
use Rattle.std.specs.List.{list_all, prefix_len}
use Rattle.std.proofs.lemmas.Bool.{eqb-true, eq-eqb, or_parts}
use Rattle.std.proofs.lemmas.Bool.Decides.{nat_tests}
use Rattle.nc_number.specs.Literals.{is_literal}
use Rattle.nc_number.proofs.Bools.{both}
use Rattle.line_text.specs.declared.sign.Sign.{Sign}
use Rattle.line_text.specs.declared.piece.Piece.{Piece}
use Rattle.line_text.specs.declared.body.Body.TheVariants.{Words, Statement}
use Rattle.line_text.specs.declared.said.Said.{Said}
use Rattle.line_text.specs.declared.said.Said.TheVariants as said
use Rattle.line_text.specs.declared.said.Reading.{Reading}
use Rattle.line_text.specs.Pieces.{is_comment, bytes_of}
use Rattle.line_text.specs.Values.{number_in}
use Rattle.line_text.specs.Front.{is_switch, switch_behind, behind_digit, switch_of, behind_comments, is_statement, sentence_of}
use Rattle.line_text.specs.Said.{is_sound, stands_alone, sequence_from, is_in_range, words_of, is_program, read_pieces, read_words, read_numbered, read_statement, read_block, read_head}
use Rattle.tape_relation.specs.Words.{AreWords}
use Rattle.tape_relation.specs.Cut.{IsCut}
use Rattle.tape_relation.specs.LineGrammar.{Sentence, NoBlock, ProgramNumber, WordBlock, StatementBlock, IsSkip, none, alone, named, text_of, IsStatement, has_program_word, IsBlock, program, computed, worded, stated, numbered, IsSentence, blank, block}
use Rattle.tape_relation.proofs.LiteralParts.{literal_read, no_literal_read}
use Rattle.tape_relation.proofs.Cuts.{words_cut}
use Rattle.tape_relation.proofs.Statements.{first_is, no_statement, letter_no_comment, words_unlike, statement_read}
use Rattle.tape_relation.proofs.Heads.{behind_other, behind_more, behind_first, sentence_behind, part_is, behind_is, literal_signs, statement_stops, numbered_unlike, numbered_read, stated_read}

-- what the reader says of a sentence
abbrev pub said_of : Sentence → Said
said_of NoBlock = said.Nothing
said_of (ProgramNumber text) = said.Program (number_in 1 9999 text)
said_of (WordBlock words) = said.Block (record { sequence = sequence_from None words; in_range = list_all is_in_range words; body = Words (words_of words) })
said_of (StatementBlock None text) = said.Block (record { sequence = None; in_range = true; body = Statement text })
said_of (StatementBlock (Some number) text) = said.Block (record { sequence = number_in 0 99999 number; in_range = is_some (number_in 0 99999 number); body = Statement text })

-- the reading is not broken, and says this sentence
pub record ReadsAs (reading : Reading) (sentence : Sentence) : Type 0 where
  -- nothing stands where no word can
  pub sound : reading.broken ≡ false
  -- it says what the sentence says
  pub says : reading.said ≡ said_of sentence

-- Words.

-- if all words are sound, as many are sound at the front as there are
prefix_all : (words : List Piece) → list_all is_sound words ≡ true → prefix_len is_sound words ≡ length words
prefix_all [] all = refl
prefix_all (word ∷ words) all =
    let p = both (is_sound word) (list_all is_sound words) all in
    let later = prefix_all words p.1 in rw p.0 (let z : 1 + prefix_len is_sound words ≡ length (word ∷ words) = omega arith in z)

-- if no word stands behind the first broken one, all are sound
pub all_prefix : (words : List Piece) → nat_lt (prefix_len is_sound words) (length words) ≡ false → list_all is_sound words ≡ true
all_prefix [] e = refl
all_prefix (word ∷ words) e = go (is_sound word) refl e (all_prefix words)
  where
    go : (t : Bool) → is_sound word ≡ t → nat_lt (cond t (1 + prefix_len is_sound words) 0) (length (word ∷ words)) ≡ false → (nat_lt (prefix_len is_sound words) (length words) ≡ false → list_all is_sound words ≡ true) → list_all is_sound (word ∷ words) ≡ true
    go true f h later = rw f (later (less (prefix_len is_sound words) (length words) h))
      where
        less : (n m : ℕ) → nat_lt (1 + n) (suc m) ≡ false → nat_lt n m ≡ false
        less n m h = grind (arith, nat_tests)
    go false f h later = let bad : true ≡ false = sym (some (length words)) ∙ h in absurd cc
      where
        some : (m : ℕ) → nat_lt 0 (suc m) ≡ true
        some m = grind (arith, nat_tests)

-- that equal numbers are not less is a small fact. The lemmas after it are on words: they have no
-- comment in front, are read as the words that they spell, are not broken if each is sound, and are
-- no O number without an O.
not_less : (n m : ℕ) → n ≡ m → nat_lt n m ≡ false
not_less n m e = grind (arith, nat_tests)

words_behind : (signs : List Sign) (words : List Piece) → AreWords signs words → behind_comments signs ≡ signs
words_behind signs [] is = ap behind_comments is ∙ sym is
words_behind signs (word ∷ words) (letter, value, comments, others, is, up, val, no_remark, all, word-is, rest) =
    ap behind_comments is ∙ behind_other letter (value ++ (comments ++ others)) (letter_no_comment letter.byte up) ∙ sym is

words_read : (slash : Bool) (signs : List Sign) (words : List Piece) → AreWords signs words → read_block slash (behind_comments signs) ≡ read_pieces slash words
unfolding read_block read_words
words_read slash signs words are =
    let cut : IsCut signs words = words_cut signs words are in
    ap (read_block slash) (words_behind signs words are) ∙ rw (numbered_unlike signs words are, words_unlike signs words are, cut.at_letter) (ap (read_pieces slash) cut.words_are)

pieces_sound : (slash : Bool) (words : List Piece) → list_all is_sound words ≡ true → stands_alone slash words ≡ true → (read_pieces slash words).broken ≡ false
pieces_sound slash words all is-alone = rw (not_less (prefix_len is_sound words) (length words) (prefix_all words all), is-alone) refl

no_program : (slash : Bool) (words : List Piece) → has_program_word words ≡ false → (stands_alone slash words ≡ true) × (is_program slash words ≡ false)
no_program slash [] off = (refl, refl)
no_program slash (word ∷ words) off =
    let p = or_parts (word.letter == 79) (has_program_word words) off in (rw off refl, rw p.0 (unused (not slash && length words == 0) (is_literal word.text)))
  where
    unused : (a b : Bool) → ((a && false) && b) ≡ false
    unused true b = refl
    unused false b = refl

-- A block.

-- a block of the grammar is read as what it says
block_read : (skip : Option ℕ) (signs : List Sign) (sentence : Sentence) → IsBlock skip signs sentence → ReadsAs (read_block (is_some skip) (behind_comments signs)) sentence
unfolding read_block read_numbered read_statement
block_read _ _ _ (program signs word are o lit) =
    let P : Reading → Type 0 = λ r. ReadsAs r (ProgramNumber word.text) in
    let cut : IsCut signs (word ∷ []) = words_cut signs (word ∷ []) are in
    let here : ReadsAs (read_pieces false (word ∷ [])) (ProgramNumber word.text) = record { sound = pieces_sound false (word ∷ []) cut.whole (rw o refl); says = rw (o, literal_read word.text lit) refl } in
    subst P (sym (words_read false signs (word ∷ []) are)) here
block_read _ _ _ (computed signs word are o lit) =
    let P : Reading → Type 0 = λ r. ReadsAs r (WordBlock (word ∷ [])) in
    let cut : IsCut signs (word ∷ []) = words_cut signs (word ∷ []) are in
    let here : ReadsAs (read_pieces false (word ∷ [])) (WordBlock (word ∷ [])) = record { sound = pieces_sound false (word ∷ []) cut.whole (rw o refl); says = rw (o, no_literal_read word.text lit) refl } in
    subst P (sym (words_read false signs (word ∷ []) are)) here
block_read _ _ _ (worded skip signs words are off) =
    let P : Reading → Type 0 = λ r. ReadsAs r (WordBlock words) in
    let cut : IsCut signs words = words_cut signs words are in
    let p = no_program (is_some skip) words off in
    let here : ReadsAs (read_pieces (is_some skip) words) (WordBlock words) = record { sound = pieces_sound (is_some skip) words cut.whole p.0; says = rw p.1 refl } in
    subst P (sym (words_read (is_some skip) signs words are)) here
block_read _ _ _ (stated skip signs is) =
    let same : sentence_of (behind_comments signs) ≡ text_of signs = sentence_behind signs in
    let statement : is_statement (sentence_of (behind_comments signs)) ≡ true = ap is_statement same ∙ statement_read (text_of signs) is in
    let body : read_block (is_some skip) (behind_comments signs) ≡ read_statement (behind_comments signs) = rw (stated_read signs is, statement) refl in
    let P : Reading → Type 0 = λ r. ReadsAs r (StatementBlock None (text_of signs)) in
    let here : ReadsAs (read_statement (behind_comments signs)) (StatementBlock None (text_of signs)) = record { sound = refl; says = ap (λ (text : List ℕ). said.Block (record { sequence = None; in_range = true; body = Statement text })) same } in
    subst P (sym body) here
block_read _ _ _ (numbered skip letter number signs n lit is) =
    let all = literal_signs number (literal_read (bytes_of number) lit) in
    let stops = statement_stops signs is in
    let P : ℕ → Type 0 = λ b. (b == 40) ≡ false in
    let letter-is : (letter.byte == 40) ≡ false = subst P (sym (eqb-true letter.byte 78 n)) refl in
    let body : read_block (is_some skip) (behind_comments (letter ∷ (number ++ signs))) ≡ read_numbered (letter ∷ (number ++ signs)) =
    ap (read_block (is_some skip)) (behind_other letter (number ++ signs) letter-is) ∙ rw (numbered_read letter number signs n (literal_read (bytes_of number) lit) is) refl
    in
    let Q : Reading → Type 0 = λ r. ReadsAs r (StatementBlock (Some (bytes_of number)) (text_of signs)) in
    let here : ReadsAs (read_numbered (letter ∷ (number ++ signs))) (StatementBlock (Some (bytes_of number)) (text_of signs)) = record { sound = refl; says = rw (part_is number signs all stops, behind_is number signs all stops) refl } in
    subst Q (sym body) here

-- the signs begin with one that is no slash, no digit from 1 to 9 and no comment
pub record First (signs : List Sign) : Type 0 where
  -- the first sign
  pub sign : Sign
  -- the signs after it
  pub rest : List Sign
  -- the signs are the first and those after it
  pub signs_are : signs ≡ sign ∷ rest
  -- it is no slash (47)
  pub no_slash : (sign.byte == 47) ≡ false
  -- it is no digit from 1 to 9
  pub no_switch : is_switch sign.byte ≡ false
  -- it is no comment (40)
  pub no_comment : (sign.byte == 40) ≡ false

-- a letter is no slash
letter_no_slash : (b : ℕ) → is_ascii_uppercase b ≡ true → (b == 47) ≡ false
letter_no_slash b is = grind (arith, nat_tests)

-- a letter is no switch
pub letter_no_switch : (b : ℕ) → is_ascii_uppercase b ≡ true → is_switch b ≡ false
letter_no_switch b is = grind (arith, nat_tests)

-- signs that begin with a letter begin with no comment and no skip sign
pub first_letter : (sign : Sign) (rest : List Sign) → is_ascii_uppercase sign.byte ≡ true → First (sign ∷ rest)
first_letter sign rest up = record { sign = sign; rest = rest; signs_are = refl; no_slash = letter_no_slash sign.byte up; no_switch = letter_no_switch sign.byte up; no_comment = letter_no_comment sign.byte up }

-- The next three: words, statements and any block begin with such a sign, after their comments.
first_word : (signs : List Sign) (words : List Piece) → AreWords signs words → 0 < length signs → First (behind_comments signs)
first_word signs [] is some = let bad : length signs ≡ 0 = ap length is in absurd (omega arith)
first_word signs (word ∷ words) (letter, value, comments, others, is, up, val, no_remark, all, word-is, rest) some =
    let same : behind_comments signs ≡ letter ∷ (value ++ (comments ++ others)) = ap behind_comments is ∙ behind_other letter (value ++ (comments ++ others)) (letter_no_comment letter.byte up) in
    subst First (sym same) (first_letter letter (value ++ (comments ++ others)) up)

first_stated : (signs : List Sign) → IsStatement (text_of signs) → First (behind_comments signs)
first_stated signs is = go (behind_comments signs) refl
  where
    P : List ℕ → Type 0
    P = IsStatement

    go : (behind : List Sign) → behind_comments signs ≡ behind → First behind
    go [] e = absurd (no_statement (let text : text_of signs ≡ [] = sym (sentence_behind signs) ∙ ap sentence_of e in let Q : List ℕ → Type 0 = IsStatement in subst Q text is))
    go (sign ∷ rest) e =
        let other = behind_first signs sign rest e in
        let Q : List ℕ → Type 0 = IsStatement in
        let text : text_of signs ≡ sign.byte ∷ text_of rest = sym (sentence_behind signs) ∙ ap sentence_of e ∙ rw other refl in
        let N : ℕ → Type 0 = λ b. ((b == 47) ≡ false) × (is_switch b ≡ false) in
        let p = first_is N sign.byte (text_of rest) (refl, refl) (refl, refl) (refl, refl) (refl, refl) (refl, refl) (refl, refl) (subst Q text is) in
        record { sign = sign; rest = rest; signs_are = refl; no_slash = p.0; no_switch = p.1; no_comment = other }

block_first : (skip : Option ℕ) (signs : List Sign) (sentence : Sentence) → IsBlock skip signs sentence → 0 < length signs → First (behind_comments signs)
block_first _ _ _ (program signs word are o lit) some = first_word signs (word ∷ []) are some
block_first _ _ _ (computed signs word are o lit) some = first_word signs (word ∷ []) are some
block_first _ _ _ (worded skip signs words are off) some = first_word signs words are some
block_first _ _ _ (stated skip signs is) some = first_stated signs is
block_first _ _ _ (numbered skip letter number signs n lit is) some =
    let P : ℕ → Type 0 = λ b. is_ascii_uppercase b ≡ true in
    let up : is_ascii_uppercase letter.byte ≡ true = subst P (sym (eqb-true letter.byte 78 n)) refl in
    subst First (sym (behind_other letter (number ++ signs) (letter_no_comment letter.byte up))) (first_letter letter (number ++ signs) up)

-- the signs do not begin with a digit from 1 to 9
abbrev pub NoDigit : List Sign → Type 0
NoDigit [] = Unit {0}
NoDigit (sign ∷ signs) = is_switch sign.byte ≡ false

-- The next three: comments and blocks do not begin with a digit that could name a switch.
comment_no_digit : (sign : Sign) → is_comment sign ≡ true → is_switch sign.byte ≡ false
comment_no_digit sign is = let P : ℕ → Type 0 = λ b. is_switch b ≡ false in subst P (sym (eqb-true sign.byte 40 is)) refl

block_no_digit : (skip : Option ℕ) (signs : List Sign) (sentence : Sentence) → IsBlock skip signs sentence → NoDigit signs
block_no_digit skip [] sentence is = tt
block_no_digit skip (sign ∷ signs) sentence is = go (is_comment sign) refl (block_first skip (sign ∷ signs) sentence is (omega arith))
  where
    go : (t : Bool) → is_comment sign ≡ t → First (behind_comments (sign ∷ signs)) → is_switch sign.byte ≡ false
    go true e f = comment_no_digit sign e
    go false e f =
        let same : sign ∷ signs ≡ f.sign ∷ f.rest = sym (behind_other sign signs e) ∙ f.signs_are in
        let first : sign ≡ f.sign = cc in ap (λ (s : Sign). is_switch s.byte) first ∙ f.no_switch

no_digit_behind : (between signs : List Sign) → list_all is_comment between ≡ true → NoDigit signs → NoDigit (between ++ signs)
no_digit_behind [] signs all off = off
no_digit_behind (sign ∷ between) signs all off = comment_no_digit sign (both (is_comment sign) (list_all is_comment between) all).0

-- Behind the comments before it, a sentence is read as what it is.

-- from these signs the reader finds this switch, or none, and this sentence
pub record IsRead (signs : List Sign) (skip : Option ℕ) (sentence : Sentence) : Type 0 where
  -- the reader finds this switch
  pub switch_is : switch_of signs ≡ skip
  -- the reader finds this sentence
  pub reads : ReadsAs (read_head signs) sentence

-- The next four: what the reader finds without a skip sign, after one without a digit, and after
-- one with a digit.
behind_no_slash : (signs : List Sign) → First signs → (switch_of signs ≡ None) × (read_head signs ≡ read_block false (behind_comments signs))
unfolding read_head
behind_no_slash signs f =
    let P : List Sign → Type 0 = λ ss. (switch_of ss ≡ None) × (read_head ss ≡ read_block false (behind_comments ss)) in
    let here : (switch_of (f.sign ∷ f.rest) ≡ None) × (read_head (f.sign ∷ f.rest) ≡ read_block false (behind_comments (f.sign ∷ f.rest))) = (rw f.no_slash refl, rw f.no_slash refl) in
    subst P (sym f.signs_are) here

switch_one : (signs : List Sign) → NoDigit signs → (switch_behind signs ≡ 1) × (behind_digit signs ≡ signs)
switch_one [] off = (refl, refl)
switch_one (sign ∷ signs) off = (rw off refl, rw off refl)

behind_slash : (slash : Sign) (signs : List Sign) → slash.byte ≡ 47 → (switch_of (slash ∷ signs) ≡ Some (switch_behind signs)) × (read_head (slash ∷ signs) ≡ read_block true (behind_comments (behind_digit signs)))
unfolding read_head
behind_slash slash signs is = rw (eq-eqb slash.byte 47 is) (refl, refl)

is_digit : (n : ℕ) → 1 ≤ n → n ≤ 9 → is_switch (48 + n) ≡ true
is_digit n low high = grind (arith, nat_tests)

-- a skip sign or none, and comments, are passed: the reader finds the switch, and reads the block
-- after them
pub head_read : (head between rest : List Sign) (skip : Option ℕ) → IsSkip head skip → list_all is_comment between ≡ true → (skip ≡ None → First (behind_comments rest)) → NoDigit rest
    → (switch_of (behind_comments (head ++ (between ++ rest))) ≡ skip) × (read_head (behind_comments (head ++ (between ++ rest))) ≡ read_block (is_some skip) (behind_comments rest))
head_read _ between rest _ none all first off =
    let f = first refl in
    let p = behind_no_slash (behind_comments rest) f in
    let again : behind_comments (behind_comments rest) ≡ behind_comments rest = ap behind_comments f.signs_are ∙ behind_other f.sign f.rest f.no_comment ∙ sym f.signs_are in
    let more = behind_more between rest all in (ap switch_of more ∙ p.0, ap read_head more ∙ p.1 ∙ ap (read_block false) again)
head_read _ between rest _ (alone slash slash-is) all first off =
    let no_comment : (slash.byte == 40) ≡ false = let N : ℕ → Type 0 = λ b. (b == 40) ≡ false in subst N (sym slash-is) refl in
    let p = behind_slash slash (between ++ rest) slash-is in
    let q = switch_one (between ++ rest) (no_digit_behind between rest all off) in
    let whole = behind_other slash (between ++ rest) no_comment in
    (ap switch_of whole ∙ p.0 ∙ ap Some q.0, ap read_head whole ∙ p.1 ∙ ap (λ (ss : List Sign). read_block true (behind_comments ss)) q.1 ∙ ap (read_block true) (behind_more between rest all))
head_read _ between rest _ (named slash digit switch slash-is digit-is low high) all first off =
    let no_comment : (slash.byte == 40) ≡ false = let N : ℕ → Type 0 = λ b. (b == 40) ≡ false in subst N (sym slash-is) refl in
    let p = behind_slash slash (digit ∷ (between ++ rest)) slash-is in
    let S : ℕ → Type 0 = λ b. is_switch b ≡ true in
    let d : is_switch digit.byte ≡ true = subst S (sym digit-is) (is_digit switch low high) in
    let number : digit.byte - 48 ≡ switch = omega arith in
    let named-switch : switch_behind (digit ∷ (between ++ rest)) ≡ switch = rw d number in
    let behind : behind_digit (digit ∷ (between ++ rest)) ≡ between ++ rest = rw d refl in
    let whole = behind_other slash (digit ∷ (between ++ rest)) no_comment in
    (ap switch_of whole ∙ p.0 ∙ ap Some named-switch, ap read_head whole ∙ p.1 ∙ ap (λ (ss : List Sign). read_block true (behind_comments ss)) behind ∙ ap (read_block true) (behind_more between rest all))

-- without a switch there is no skip sign
no_head : (head : List Sign) (skip : Option ℕ) → IsSkip head skip → skip ≡ None → head ≡ []
no_head _ _ none e = refl
no_head _ _ (alone slash slash-is) e = absurd cc
no_head _ _ (named slash digit switch slash-is digit-is low high) e = absurd cc

-- after its first comments a sentence is read as what it is
sentence_behind_comments : (head between rest : List Sign) (skip : Option ℕ) (sentence : Sentence) → IsSkip head skip → list_all is_comment between ≡ true → 0 < length (head ++ rest) → IsBlock skip rest sentence
    → IsRead (behind_comments (head ++ (between ++ rest))) skip sentence
sentence_behind_comments head between rest skip sentence is-skip all some is =
    let p = head_read head between rest skip is-skip all (λ e. block_first skip rest sentence is (let P : List Sign → Type 0 = λ h. 0 < length (h ++ rest) in subst P (no_head head skip is-skip e) some)) (block_no_digit skip rest sentence is) in
    let P : Reading → Type 0 = λ r. ReadsAs r sentence in
    record { switch_is = p.0; reads = subst P (sym p.1) (block_read skip rest sentence is) }

-- a sentence of the grammar is read as what it is, behind its skip sign or none
pub sentence_read : (signs : List Sign) (skip : Option ℕ) (sentence : Sentence) → IsSentence signs skip sentence → IsRead (behind_comments signs) skip sentence
unfolding read_head
sentence_read _ _ _ (blank comments all) =
    let nothing : behind_comments comments ≡ [] = ap behind_comments (sym (append-nil comments)) ∙ behind_more comments [] all in
    let Q : List Sign → Type 0 = λ ss. IsRead ss None NoBlock in
    let here : IsRead [] None NoBlock = record { switch_is = refl; reads = record { sound = refl; says = refl } } in
    subst Q (sym nothing) here
sentence_read _ _ _ (block before head between rest skip sentence all-before is-skip all-between some is) =
    let Q : List Sign → Type 0 = λ ss. IsRead ss skip sentence in
    subst Q (sym (behind_more before (head ++ (between ++ rest)) all-before)) (sentence_behind_comments head between rest skip sentence is-skip all-between some is)

-- the numbers of a sentence are literals to the reader
abbrev pub HasLiterals : Sentence → Type 0
HasLiterals NoBlock = Unit {0}
HasLiterals (ProgramNumber text) = is_literal text ≡ true
HasLiterals (WordBlock words) = Unit {0}
HasLiterals (StatementBlock None text) = Unit {0}
HasLiterals (StatementBlock (Some number) text) = is_literal number ≡ true

-- the numbers of a block of the grammar are literals
block_literals : (skip : Option ℕ) (signs : List Sign) (sentence : Sentence) → IsBlock skip signs sentence → HasLiterals sentence
block_literals _ _ _ (program signs word are o lit) = literal_read word.text lit
block_literals _ _ _ (computed signs word are o lit) = tt
block_literals _ _ _ (worded skip signs words are off) = tt
block_literals _ _ _ (stated skip signs is) = tt
block_literals _ _ _ (numbered skip letter number signs n lit is) = literal_read (bytes_of number) lit

-- the numbers of a sentence of the grammar are literals
pub sentence_literals : (signs : List Sign) (skip : Option ℕ) (sentence : Sentence) → IsSentence signs skip sentence → HasLiterals sentence
sentence_literals _ _ _ (blank comments all) = tt
sentence_literals _ _ _ (block before head between rest skip sentence all-before is-skip all-between some is) = block_literals skip rest sentence is
