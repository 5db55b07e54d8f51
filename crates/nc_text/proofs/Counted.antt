-- A line may be counted up to one byte more than a tape may have: its refusals are the same.
-- For Standing, which shows that a reader that counts so reads the text.
use Rattle.std.proofs.Common.{◌≡◌, ◌==◌, ℕ, ◌+◌, ◌<◌, ◌≤◌, Bool, true, false, cond, ltb, List, [], ◌∷◌, length, Option, Some, None, Result, Ok, Err, refl, sym, ap, ◌∙◌, arith}
use Rattle.std.proofs.lemmas.Bool.{lt-ltb, le-ltb, ltb-true, ltb-false}
use Rattle.nc_number.specs.declared.limits.TheConstants.{LONGEST_LINE, LONGEST_TAPE}
use Rattle.line_text.specs.declared.refusal.Refusal.{Refusal}
use Rattle.line_text.specs.declared.refusal.Refusal.TheVariants.{NoProgramNumber, LineTooLong, TooManyBlocks, TapeTooLong, WordRange}
use Rattle.line_text.specs.declared.said.Said.{Said}
use Rattle.nc_text.specs.declared.stage.Stage.{Stage}
use Rattle.nc_text.specs.declared.stage.Stage.TheVariants as stages
use Rattle.nc_text.specs.Lines.{Line}
use Rattle.line_text.specs.Said.{line_says}
use Rattle.nc_text.specs.Tape.{Before, is_past_end, next, percent_refusal, outer_refusal, said_refusal, unless_refused, with_said, after_said, after_percent, after_outer, tape_begun, goes_on, in_leader, in_body, in_rest}
use Rattle.nc_text.specs.Reading.{counted_length, kept_of, answer_from, line_continued}

-- a length that is counted, and counted again with more bytes, is the whole length counted
pub counted_more : (len more : ℕ) → counted_length (counted_length len + more) ≡ counted_length (len + more)
counted_more len more = omega arith

-- two numbers on the same side of a bound compare with it in the same way
ltb_same : (k a b : ℕ) → (k < b → k < a) → (b ≤ k → a ≤ k) → ltb k a ≡ ltb k b
ltb_same k a b above below = go (ltb k b) refl
  where
    go : (test : Bool) → ltb k b ≡ test → ltb k a ≡ test
    go true e = lt-ltb k a (above (ltb-true k b e))
    go false e = le-ltb k a (below (ltb-false k b e))

-- a counted line is too long exactly if the line is
long_counted : (len : ℕ) → ltb LONGEST_LINE (counted_length len) ≡ ltb LONGEST_LINE len
long_counted len = ltb_same LONGEST_LINE (counted_length len) len (λ (h : LONGEST_LINE < len). omega arith) (λ (h : len ≤ LONGEST_LINE). omega arith)

-- a counted line passes the end of a tape exactly if the line does
past_counted : (before : Before) (len : ℕ) (ended : Bool) → is_past_end before (counted_length len) ended ≡ is_past_end before len ended
past_counted before len true =
    let bytes = before.bytes in
    ltb_same LONGEST_TAPE (bytes + (counted_length len + 1)) (bytes + (len + 1)) (λ (h : LONGEST_TAPE < bytes + (len + 1)). omega arith) (λ (h : bytes + (len + 1) ≤ LONGEST_TAPE). omega arith)
past_counted before len false =
    let bytes = before.bytes in
    ltb_same LONGEST_TAPE (bytes + counted_length len) (bytes + len) (λ (h : LONGEST_TAPE < bytes + len). omega arith) (λ (h : bytes + len ≤ LONGEST_TAPE). omega arith)

-- a line within the tape is counted exactly
within_counted : (before : Before) (len : ℕ) (ended : Bool) → is_past_end before len ended ≡ false → counted_length len ≡ len
within_counted before len true e = let bytes = before.bytes in let h = ltb-false LONGEST_TAPE (bytes + (len + 1)) e in omega arith
within_counted before len false e = let bytes = before.bytes in let h = ltb-false LONGEST_TAPE (bytes + len) e in omega arith

-- a line that is within the tape unless it is refused gives the same, whether its length is counted
-- or not
unless_counted : (at before : Before) (refusal : ℕ → Option Refusal) (len : ℕ) (ended : Bool) → refusal (counted_length len) ≡ refusal len → (refusal len ≡ None → is_past_end before len ended ≡ false)
    → unless_refused (refusal (counted_length len)) (next at (counted_length len) ended) ≡ unless_refused (refusal len) (next at len ended)
unless_counted at before refusal len ended same within = ap (λ (r : Option Refusal). unless_refused r (next at (counted_length len) ended)) same ∙ go (refusal len) within
  where
    go : (r : Option Refusal) → (r ≡ None → is_past_end before len ended ≡ false) → unless_refused r (next at (counted_length len) ended) ≡ unless_refused r (next at len ended)
    go None fits = ap (λ (n : ℕ). Ok (next at n ended)) (within_counted before len ended (fits refl))
    go (Some r) fits = refl

-- a line outside the programs that is not refused is within the tape
outer_within : (past : Bool) → ◌≡◌ {A = Option Refusal} (cond past (Some TapeTooLong) None) None → past ≡ false
outer_within true e = absurd cc
outer_within false e = refl

-- the counted length of a line outside the programs is enough to judge it
outer_counted : (before : Before) (len : ℕ) (ended : Bool) → after_outer before (counted_length len) ended ≡ after_outer before len ended
outer_counted before len ended =
    unless_counted before before (λ n. outer_refusal before n ended) len ended (rw (past_counted before len ended) refl) (outer_within (is_past_end before len ended))

-- a `%` line that is not refused is within the tape
percent_within : (long past : Bool) → ◌≡◌ {A = Option Refusal} (cond long (Some LineTooLong) (cond past (Some TapeTooLong) None)) None → past ≡ false
percent_within true past e = absurd cc
percent_within false true e = absurd cc
percent_within false false e = refl

-- the counted length of a `%` line is enough to judge it
percent_counted : (before : Before) (len : ℕ) (ended : Bool) → after_percent before (counted_length len) ended ≡ after_percent before len ended
percent_counted before len ended =
    unless_counted before before (λ n. percent_refusal before n ended) len ended (rw (long_counted len, past_counted before len ended) refl) (percent_within (ltb LONGEST_LINE len) (is_past_end before len ended))

-- a line of the programs that is not refused is within the tape
said_within : (early long many past range : Bool)
    → ◌≡◌ {A = Option Refusal} (cond early (Some NoProgramNumber) (cond long (Some LineTooLong) (cond many (Some TooManyBlocks) (cond past (Some TapeTooLong) (cond range (Some WordRange) None))))) None → past ≡ false
said_within true long many past range e = absurd cc
said_within false true many past range e = absurd cc
said_within false false true past range e = absurd cc
said_within false false false true range e = absurd cc
said_within false false false false range e = refl

-- the counted length of a line of the programs is enough to judge it
said_counted : (before : Before) (len : ℕ) (ended : Bool) (says : Result Said Refusal) → after_said before (counted_length len) ended says ≡ after_said before len ended says
said_counted before len ended (Err refusal) = refl
said_counted before len ended (Ok says) =
    unless_counted (with_said before says) before (λ n. said_refusal before n ended says) len ended (rw (long_counted len, past_counted before len ended) refl) (said_within _ _ _ (is_past_end before len ended) _)

-- what is kept and counted of a line gives the same answer as the whole line
pub line_kept : (skips : ℕ) (stage : Stage) (line : List ℕ) (ended : Bool) (lines : List Line) (before : Before)
    → answer_from skips stage (record { bytes = line; ended = ended } ∷ lines) before ≡ line_continued skips stage (kept_of stage line) (counted_length (length line)) ended lines before
line_kept skips (stages.Refused fault) line ended lines before = refl
line_kept skips stages.Rest line ended lines before = ap (λ r. goes_on before r (in_rest lines)) (sym (outer_counted before (length line) ended))
line_kept skips stages.Leader [] ended lines before = ap (λ r. goes_on before r (in_leader skips lines)) (sym (outer_counted before 0 ended))
line_kept skips stages.Leader (b ∷ line) ended lines before =
    let percent = sym (percent_counted before (length (b ∷ line)) ended) in
    let outer = sym (outer_counted before (length (b ∷ line)) ended) in
    λ i. cond (b == 37) (goes_on before (percent i) (λ after. in_body skips lines (tape_begun after))) (goes_on before (outer i) (in_leader skips lines))
line_kept skips stages.Body [] ended lines before = ap (λ r. goes_on before r (in_body skips lines)) (sym (said_counted before 0 ended (line_says skips [] ended)))
line_kept skips stages.Body (b ∷ line) ended lines before = go (b == 37) refl
  where
    go : (test : Bool) → (b == 37) ≡ test
        → answer_from skips stages.Body (record { bytes = b ∷ line; ended = ended } ∷ lines) before ≡ line_continued skips stages.Body (kept_of stages.Body (b ∷ line)) (counted_length (length (b ∷ line))) ended lines before
    go true e = rw (e, e) (ap (λ r. goes_on before r (in_rest lines)) (sym (percent_counted before (length (b ∷ line)) ended)))
    go false e = rw (e, e) (ap (λ r. goes_on before r (in_body skips lines)) (sym (said_counted before (length (b ∷ line)) ended (line_says skips (b ∷ line) ended))))
