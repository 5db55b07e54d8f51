-- The statements of a tape that was read have no blanks, no comments and no lower case. For the law
-- `the_statements_of_a_tape_are_clean` (src/laws.rt).
use Rattle.std.proofs.Common.{◌≡◌, ℕ, zero, suc, ◌+◌, ◌-◌, ◌==◌, Bool, true, false, cond, not, ◌&&◌, List, [], ◌∷◌, ◌++◌, length, drop, filter, Option, Some, None, is_some, Result, Ok, Err, refl, sym, subst, arith}
use Rattle.std.specs.Prelude.{nat_lt}
use Rattle.std.specs.Char.{to_ascii_uppercase}
use Rattle.std.specs.Option.{option_to_list, is_none}
use Rattle.std.specs.List.{list_all, prefix_len}
use Rattle.std.proofs.lemmas.Bool.{and_parts, eqb-true}
use Rattle.std.proofs.lemmas.Bool.Decides.{nat_tests}
use Rattle.macro_expr.specs.Limits.{clean_text}
use Rattle.line_text.specs.declared.sign.Sign.{Sign}
use Rattle.line_text.specs.declared.piece.Piece.{Piece}
use Rattle.nc_text.specs.declared.tape.Block.{Block}
use Rattle.nc_text.specs.declared.tape.Program.{Program}
use Rattle.line_text.specs.declared.body.Body.TheVariants.{Words}
use Rattle.line_text.specs.declared.refusal.Refusal.{Refusal}
use Rattle.line_text.specs.declared.refusal.Refusal.TheVariants.{NoEnd}
use Rattle.line_text.specs.declared.said.Said.{Said}
use Rattle.line_text.specs.declared.said.Said.TheVariants as said
use Rattle.nc_text.specs.Lines.{Line, lines_of, is_percent}
use Rattle.line_text.specs.Signs.{Scan, is_blank, add_sign, inside_behind, scan_of, content_of, signs_of, are_allowed}
use Rattle.line_text.specs.Pieces.{is_comment, bytes_of, pieces_of, value_len}
use Rattle.line_text.specs.Front.{behind_comments, switch_of, behind_digit, behind_switch, sentence_of, is_statement, is_switch, is_number_sign, behind_number, is_numbered}
use Rattle.line_text.specs.Refusals.{refusal_number}
use Rattle.line_text.specs.Said.{sequence_from, is_in_range, words_of, said_by, is_program, program_number, read_pieces, read_words, broken_reading, read_numbered, read_statement, read_block, read_head, is_skipped, line_says, numbered_sentence}
use Rattle.nc_text.specs.Tape.{Before, nothing_read, programs_of, unless_refused, said_refusal, with_block, with_said, block_at, next, after_said, after_line, percent_refusal, after_percent, outer_refusal, after_outer, Answer, no_program, answer_at_end, answer_without_end, goes_on, in_rest, in_body, in_leader, tape_begun, tape_of}
use Rattle.line_text.proofs.Judged.{judged_ok}
use Rattle.open_forms.specs.Widening.{IsClean, AreClean, IsCleanTape}

-- The sign of a scan is no blank and in upper case.
abbrev is_plain : Sign → Bool
is_plain sign = not (is_blank sign.byte) && (to_ascii_uppercase sign.byte == sign.byte)

-- Each of these signs is no blank and in upper case.
abbrev ArePlain : List Sign → Type 0
ArePlain signs = list_all is_plain signs ≡ true

-- A byte in upper case is no blank, and stays as it is.
upper_twice : (b : ℕ) → is_blank b ≡ false → (not (is_blank (to_ascii_uppercase b)) && (to_ascii_uppercase (to_ascii_uppercase b) == to_ascii_uppercase b)) ≡ true
upper_twice b other = go (nat_lt b 97) (nat_lt b 123) refl refl
  where
    same : (c : ℕ) → is_blank c ≡ false → to_ascii_uppercase c ≡ c → (not (is_blank c) && (to_ascii_uppercase c == c)) ≡ true
    same c other upper = rw (other, upper) (grind (arith, nat_tests))

    go : (x y : Bool) → nat_lt b 97 ≡ x → nat_lt b 123 ≡ y
        → (not (is_blank (cond x b (cond y (b - 32) b))) && (to_ascii_uppercase (cond x b (cond y (b - 32) b)) == cond x b (cond y (b - 32) b))) ≡ true
    go true y low middle = same b other (rw low refl)
    go false true low middle =
        let below : nat_lt (b - 32) 97 ≡ true = grind (arith, nat_tests) in
        let no_blank : is_blank (b - 32) ≡ false = grind (arith, nat_tests) in
        same (b - 32) no_blank (rw below refl)
    go false false low middle = same b other (rw (low, middle) refl)

-- The signs that a scan gives are plain.
scan_plain : (bs : List ℕ) (inside : Bool) (place : ℕ) → ArePlain (scan_of bs inside place).list
scan_plain [] inside place = refl
scan_plain (b ∷ bs) inside place =
    go (not inside) (is_blank b) refl (scan_plain bs (inside_behind inside b) (place + 1))
  where
    rest : Scan
    rest = scan_of bs (inside_behind inside b) (place + 1)

    go : (x y : Bool) → is_blank b ≡ y → ArePlain rest.list → ArePlain (add_sign (x && not y) place b rest).list
    go true false other more = rw (upper_twice b other) more
    go true true other more = more
    go false y other more = more

-- Plain signs without the first n are plain.
drop_plain : (n : ℕ) (signs : List Sign) → ArePlain signs → ArePlain (drop n signs)
drop_plain zero signs all = all
drop_plain (suc n) [] all = refl
drop_plain (suc n) (sign ∷ signs) all = drop_plain n signs (and_parts (is_plain sign) (list_all is_plain signs) all).1

-- Plain signs behind a digit are plain.
digit_plain : (signs : List Sign) → ArePlain signs → ArePlain (behind_digit signs)
digit_plain [] all = refl
digit_plain (sign ∷ signs) all = go (is_switch sign.byte)
  where
    go : (b : Bool) → ArePlain (cond b signs (sign ∷ signs))
    go true = (and_parts (is_plain sign) (list_all is_plain signs) all).1
    go false = all

-- Plain signs behind a switch (/1 to /9) are plain.
switch_plain : (signs : List Sign) → ArePlain signs → ArePlain (behind_switch signs)
switch_plain [] all = refl
switch_plain (sign ∷ signs) all = go (sign.byte == 47)
  where
    go : (b : Bool) → ArePlain (cond b (behind_digit signs) (sign ∷ signs))
    go true = digit_plain signs (and_parts (is_plain sign) (list_all is_plain signs) all).1
    go false = all

-- The text of plain signs is clean: to leave out blanks and comments and to make it upper case
-- changes nothing.
sentence_clean : (signs : List Sign) → ArePlain signs → clean_text false (sentence_of signs) ≡ sentence_of signs
sentence_clean [] all = refl
sentence_clean (sign ∷ signs) all =
    let both = and_parts (is_plain sign) (list_all is_plain signs) all in
    let plain = and_parts (not (is_blank sign.byte)) (to_ascii_uppercase sign.byte == sign.byte) both.0 in
    go (sign.byte == 40) refl plain.0 (eqb-true _ _ plain.1) (sentence_clean signs both.1)
  where
    not_true : (b : Bool) → not b ≡ true → b ≡ false
    not_true true e = absurd (cc)
    not_true false e = refl

    go : (b : Bool) → (sign.byte == 40) ≡ b → not (is_blank sign.byte) ≡ true → to_ascii_uppercase sign.byte ≡ sign.byte
        → clean_text false (sentence_of signs) ≡ sentence_of signs
        → clean_text false (bytes_of (cond (not b) (sign ∷ filter (λ sign. not (is_comment sign)) signs) (filter (λ sign. not (is_comment sign)) signs)))
        ≡ bytes_of (cond (not b) (sign ∷ filter (λ sign. not (is_comment sign)) signs) (filter (λ sign. not (is_comment sign)) signs))
    go true is other upper rest = rest
    go false is other upper rest =
        let no_blank : is_blank sign.byte ≡ false = not_true (is_blank sign.byte) other in
        rw (is, no_blank, upper, rest) refl

-- The statement that a line says is clean, if it says one.
abbrev IsCleanSaid : Said → Type 0
IsCleanSaid said.Nothing = Unit {0}
IsCleanSaid (said.Program number) = Unit {0}
IsCleanSaid (said.Block block) = IsClean block.body

-- A line of words says no statement.
words_clean : (slash : Bool) (pieces : List Piece) → IsCleanSaid (said_by slash pieces)
words_clean slash pieces = go (is_program slash pieces)
  where
    go : (b : Bool) → IsCleanSaid (cond b (said.Program (program_number pieces))
        (said.Block (record { sequence = sequence_from None pieces; in_range = list_all is_in_range pieces; body = Words (words_of pieces) })))
    go true = tt
    go false = tt

-- The statement of a line that is a block is clean.
block_clean : (slash : Bool) (signs : List Sign) → ArePlain signs → IsCleanSaid (read_block slash signs).said
unfolding read_block read_numbered read_statement read_words
block_clean slash signs all = go (is_numbered signs) (is_statement (sentence_of signs)) (value_len signs 0 == 0)
  where
    numbered : (signs : List Sign) → ArePlain signs → clean_text false (numbered_sentence signs) ≡ numbered_sentence signs
    numbered [] all = refl
    numbered (sign ∷ signs) all =
        sentence_clean (behind_number signs) (drop_plain (prefix_len is_number_sign signs) signs (and_parts (is_plain sign) (list_all is_plain signs) all).1)

    go : (a b c : Bool) → IsCleanSaid (cond a (read_numbered signs) (cond b (read_statement signs) (cond c (read_pieces slash (pieces_of signs)) broken_reading))).said
    go true b c = numbered signs all
    go false true c = sentence_clean signs all
    go false false true = words_clean slash (pieces_of signs)
    go false false false = tt

-- The statement of a line that may begin a program is clean.
head_clean : (signs : List Sign) → ArePlain signs → IsCleanSaid (read_head signs).said
unfolding read_head
head_clean [] all = tt
head_clean (sign ∷ signs) all =
    block_clean (is_some (switch_of (sign ∷ signs))) (behind_comments (behind_switch (sign ∷ signs)))
    (drop_plain (prefix_len is_comment (behind_switch (sign ∷ signs))) (behind_switch (sign ∷ signs)) (switch_plain (sign ∷ signs) all))

-- Whatever a line says, its statement is clean.
line_clean : (skips : ℕ) (line : List ℕ) (ended : Bool) (says : Said) → line_says skips line ended ≡ Ok says → IsCleanSaid says
unfolding line_says signs_of
line_clean skips line ended says e =
    let scan : Scan = scan_of (content_of line ended) false 0 in
    let signs : List Sign = behind_comments scan.list in
    let plain : ArePlain signs = drop_plain (prefix_len is_comment scan.list) scan.list (scan_plain (content_of line ended) false 0) in
    let read = judged_ok (is_skipped skips (switch_of signs)) (are_allowed scan.list) scan.unclosed (read_head signs) says e in
    subst IsCleanSaid (sym read.says_is) (go (is_skipped skips (switch_of signs)) (read_head signs).said (head_clean signs plain))
  where
    go : (b : Bool) (what : Said) → IsCleanSaid what → IsCleanSaid (cond b said.Nothing what)
    go true what clean = tt
    go false what clean = clean

-- Clean blocks with one clean block more are clean.
more_clean : (blocks : List Block) (block : Block) → AreClean blocks → IsClean block.body → AreClean (blocks ++ block ∷ [])
more_clean [] block all own = (own, tt)
more_clean (b ∷ blocks) block all own = (all.0, more_clean blocks block all.1 own)

-- Clean programs and clean programs behind them are clean.
joined_clean : (done more : List Program) → IsCleanTape done → IsCleanTape more → IsCleanTape (done ++ more)
joined_clean [] more first second = second
joined_clean (p ∷ done) more first second = (first.0, joined_clean done more first.1 second)

-- The programs that were read so far are clean: those that are done and the current one.
record IsCleanBefore (before : Before) : Type 0 where
  -- The programs that are done are clean.
  done : IsCleanTape before.done
  -- The current program is clean, if there is one.
  current : IsCleanTape (option_to_list before.current)

-- All programs that were read so far are clean.
programs_clean : (before : Before) → IsCleanBefore before → IsCleanTape (programs_of before)
programs_clean before clean = joined_clean before.done (option_to_list before.current) clean.done clean.current

-- With what one line more says, the programs so far are clean.
said_clean : (before : Before) (what : Said) → IsCleanBefore before → IsCleanSaid what → IsCleanBefore (with_said before what)
said_clean before said.Nothing clean own = clean
said_clean before (said.Program None) clean own = clean
said_clean before (said.Program (Some number)) clean own = record { done = programs_clean before clean; current = (tt, tt) }
said_clean before (said.Block block) clean own =
    record { done = clean.done; current = go before.current clean.current }
  where
    go : (current : Option Program) → IsCleanTape (option_to_list current)
        → IsCleanTape (option_to_list (with_block (block_at (before.lines + 1) block) current))
    go None all = tt
    go (Some program) all = (more_clean program.blocks (block_at (before.lines + 1) block) all.0 own, tt)

-- If the reading goes on unless it is refused, the programs so far are clean when it does.
unless_clean : (refusal : Option Refusal) (after now : Before) → IsCleanBefore after → unless_refused refusal after ≡ Ok now → IsCleanBefore now
unless_clean (Some refusal) after now clean e = absurd (cc)
unless_clean None after now clean e = let same : after ≡ now = cc in subst IsCleanBefore same clean

-- After one line more the programs so far are clean.
line_after : (skips : ℕ) (before now : Before) (bytes : List ℕ) (ended : Bool) → IsCleanBefore before → after_line skips before bytes ended ≡ Ok now → IsCleanBefore now
line_after skips before now bytes ended clean e = go (line_says skips bytes ended) refl e
  where
    go : (says : Result Said Refusal) → line_says skips bytes ended ≡ says → after_said before (length bytes) ended says ≡ Ok now → IsCleanBefore now
    go (Err refusal) at e = absurd (cc)
    go (Ok what) at e =
        let told = said_clean before what clean (line_clean skips bytes ended what at) in
        unless_clean (said_refusal before (length bytes) ended what) (next (with_said before what) (length bytes) ended) now
        (record { done = told.done; current = told.current }) e

-- After a line that says nothing the programs so far are clean.
same_after : (refusal : Option Refusal) (before now : Before) (len : ℕ) (ended : Bool) → IsCleanBefore before → unless_refused refusal (next before len ended) ≡ Ok now → IsCleanBefore now
same_after refusal before now len ended clean e =
    unless_clean refusal (next before len ended) now (record { done = clean.done; current = clean.current }) e

-- The tape that is answered in the end is clean, if one is.
abbrev IsCleanAnswer : Answer → Type 0
IsCleanAnswer (Ok tape) = IsCleanTape tape
IsCleanAnswer (Err fault) = Unit {0}

-- If what goes on behind a line answers a clean tape, so does the reading from that line on.
goes_clean : (before : Before) (after : Result Before Refusal) (rest : Before → Answer)
    → ((now : Before) → after ≡ Ok now → IsCleanBefore now) → ((now : Before) → IsCleanBefore now → IsCleanAnswer (rest now)) → IsCleanAnswer (goes_on before after rest)
goes_clean before (Ok now) rest clean further = further now (clean now refl)
goes_clean before (Err refusal) rest clean further = tt

-- The tape that is answered at the end of the text is clean.
finished_clean : (before : Before) → IsCleanBefore before → IsCleanAnswer (answer_at_end before)
finished_clean before clean = go (is_none before.current)
  where
    go : (b : Bool) → IsCleanAnswer (cond b (Err (no_program before)) (Ok (programs_of before)))
    go true = tt
    go false = programs_clean before clean

-- What is answered for a text without the second `%` is clean.
unfinished_clean : (before : Before) → IsCleanAnswer (answer_without_end before)
unfinished_clean before = go (is_none before.current)
  where
    go : (b : Bool) → IsCleanAnswer (cond b (Err (no_program before)) (Err (record { number = refusal_number NoEnd; line = before.lines })))
    go true = tt
    go false = tt

-- What is read behind the second `%` gives a clean tape.
rest_clean : (lines : List Line) (before : Before) → IsCleanBefore before → IsCleanAnswer (in_rest lines before)
rest_clean [] before clean = finished_clean before clean
rest_clean (line ∷ lines) before clean =
    goes_clean before (after_outer before (length line.bytes) line.ended) (in_rest lines)
    (λ now e. same_after (outer_refusal before (length line.bytes) line.ended) before now (length line.bytes) line.ended clean e)
    (λ now more. rest_clean lines now more)

-- What is read between the two `%`, and behind them, gives a clean tape.
body_clean : (skips : ℕ) (lines : List Line) (before : Before) → IsCleanBefore before → IsCleanAnswer (in_body skips lines before)
body_clean skips [] before clean = unfinished_clean before
body_clean skips (line ∷ lines) before clean = go (is_percent line.bytes) (λ now more. body_clean skips lines now more)
  where
    go : (b : Bool) → ((now : Before) → IsCleanBefore now → IsCleanAnswer (in_body skips lines now))
        → IsCleanAnswer (cond b (goes_on before (after_percent before (length line.bytes) line.ended) (in_rest lines))
        (goes_on before (after_line skips before line.bytes line.ended) (in_body skips lines)))
    go true further =
        goes_clean before (after_percent before (length line.bytes) line.ended) (in_rest lines)
        (λ now e. same_after (percent_refusal before (length line.bytes) line.ended) before now (length line.bytes) line.ended clean e)
        (λ now more. rest_clean lines now more)
    go false further =
        goes_clean before (after_line skips before line.bytes line.ended) (in_body skips lines)
        (λ now e. line_after skips before now line.bytes line.ended clean e) further

-- What is read from before the first `%` on gives a clean tape.
leader_clean : (skips : ℕ) (lines : List Line) (before : Before) → IsCleanBefore before → IsCleanAnswer (in_leader skips lines before)
leader_clean skips [] before clean = tt
leader_clean skips (line ∷ lines) before clean = go (is_percent line.bytes) (λ now more. leader_clean skips lines now more)
  where
    go : (b : Bool) → ((now : Before) → IsCleanBefore now → IsCleanAnswer (in_leader skips lines now))
        → IsCleanAnswer (cond b (goes_on before (after_percent before (length line.bytes) line.ended) (λ after. in_body skips lines (tape_begun after)))
        (goes_on before (after_outer before (length line.bytes) line.ended) (in_leader skips lines)))
    go true further =
        goes_clean before (after_percent before (length line.bytes) line.ended) (λ after. in_body skips lines (tape_begun after))
        (λ now e. same_after (percent_refusal before (length line.bytes) line.ended) before now (length line.bytes) line.ended clean e)
        (λ now more. body_clean skips lines (tape_begun now) (record { done = more.done; current = more.current }))
    go false further =
        goes_clean before (after_outer before (length line.bytes) line.ended) (in_leader skips lines)
        (λ now e. same_after (outer_refusal before (length line.bytes) line.ended) before now (length line.bytes) line.ended clean e) further

-- Each tape that reads has clean statements.
pub tape_clean : (skips : ℕ) (text : List ℕ) (tape : List Program) → tape_of skips text ≡ Ok tape → IsCleanTape tape
unfolding tape_of
tape_clean skips text tape e =
    subst IsCleanAnswer e (leader_clean skips (lines_of text) nothing_read (record { done = tt; current = tt }))
