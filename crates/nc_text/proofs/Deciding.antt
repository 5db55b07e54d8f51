-- If a line of a tape has ended and nothing is refused, nothing is decided: two texts that may
-- follow have different answers. So a reader that has refused nothing has missed no refusal. A
-- refusal is one at most, and stays with more bytes. For the proof of `feed` (src/reader.rt).
use Rattle.std.proofs.Common.{◌≡◌, ◌==◌, ℕ, ◌+◌, ◌≤◌, Bool, true, false, cond, List, [], ◌∷◌, ◌++◌, length, None, Ok, Err, refl, sym, ap, ◌∙◌, append_assoc, lit≤, arith}
use Rattle.std.proofs.Math.ListN.{replicate}
use Rattle.std.specs.Option.{is_none}
use Rattle.std.proofs.lemmas.Bool.{lt-ltb}
use Rattle.std.proofs.lemmas.List.{length-replicate}
use Rattle.std.proofs.lemmas.List.Elements.{All-head, All-tail, All-cons, All-replicate}
use Rattle.nc_number.specs.declared.limits.TheConstants.{LONGEST_TAPE}
use Rattle.nc_text.specs.declared.fault.TextFault.{TextFault}
use Rattle.nc_text.specs.declared.tape.Program.{Program}
use Rattle.line_text.specs.declared.refusal.Refusal.TheVariants.{BadCharacter, NoEnd, TapeTooLong}
use Rattle.nc_text.specs.declared.stage.Stage.{Stage}
use Rattle.nc_text.specs.declared.stage.Stage.TheVariants as stages
use Rattle.line_text.specs.Signs.{signs_of}
use Rattle.line_text.specs.Said.{read_words, read_block, read_head, line_says}
use Rattle.line_text.specs.Refusals.{refusal_number}
use Rattle.nc_text.specs.Lines.{Line, IsOneLine, lines_of}
use Rattle.nc_text.specs.Tape.{Before, Answer, is_past_end, fault_behind, no_program, programs_of, in_leader, in_body, in_rest, tape_of}
use Rattle.nc_text.specs.Reading.{refusal_of, answer_from, IsAt, HasRead, IsRefused}
use Rattle.nc_text.specs.Decided.{IsDecided}
use Rattle.nc_text.proofs.LineEnds.{text_ends}
use Rattle.nc_text.proofs.Standing.{state}

-- the number of a refusal, and 0 of a tape
abbrev number_of : Answer → ℕ
number_of (Ok programs) = 0
number_of (Err fault) = fault.number

-- the byte is no line feed (10)
abbrev InLine : ℕ → Type 0
InLine b = (b == 10) ≡ false

-- a text of the letter X (88), so many times and once more
abbrev long : ℕ → List ℕ
long n = 88 ∷ replicate n 88

-- a last line of the letter X, so many times and once more
abbrev long_line : ℕ → Line
long_line n = record { bytes = long n; ended = false }

-- a text of X alone is one line
long_is : (n : ℕ) → lines_of (long n) ≡ long_line n ∷ []
long_is n = text_ends 88 (replicate n 88) (All-cons InLine 88 (replicate n 88) refl (All-replicate InLine n 88 refl))

-- a line longer than a tape may be passes the tape's end
long_past : (before : Before) (n : ℕ) → LONGEST_TAPE ≤ n → is_past_end before (length (long n)) false ≡ true
long_past before n above =
    let bytes = before.bytes in
    lt-ltb LONGEST_TAPE (bytes + length (long n)) (omega (arith, length-replicate {A = ℕ} n 88))

-- after the second `%` line, a line longer than a tape may be is refused: the tape is too long
rest_long : (before : Before) (n : ℕ) → LONGEST_TAPE ≤ n → in_rest (lines_of (long n)) before ≡ Err (fault_behind before TapeTooLong)
rest_long before n above = ap (λ (lines : List Line). in_rest lines before) (long_is n) ∙ rw (long_past before n above) refl

-- before the first `%` line, a line longer than a tape may be is refused: the tape is too long
leader_long : (skips : ℕ) (before : Before) (n : ℕ) → LONGEST_TAPE ≤ n → in_leader skips (lines_of (long n)) before ≡ Err (fault_behind before TapeTooLong)
leader_long skips before n above = ap (λ (lines : List Line). in_leader skips lines before) (long_is n) ∙ rw (long_past before n above) refl

-- a line of one character that no line may have; 36 is the dollar sign
bad_line : (skips : ℕ) → line_says skips (36 ∷ []) false ≡ Err BadCharacter
unfolding line_says signs_of read_head read_block read_words
bad_line skips = refl

-- in the programs, a line of a dollar sign is refused as a bad character
body_bad : (skips : ℕ) (before : Before) → in_body skips (lines_of (36 ∷ [])) before ≡ Err (fault_behind before BadCharacter)
body_bad skips before = rw (bad_line skips) refl

-- the answer at the end of a tape with both `%` lines has another number than 17, a tape that is
-- too long
rest_number : (none : Bool) (before : Before) (programs : List Program) → number_of (cond none (Err (no_program before)) (Ok programs)) ≡ 17 → ⊥
rest_number true before programs e = omega arith
rest_number false before programs e = omega arith

-- the refusal at the end of a tape without its second `%` line is not 10, a bad character
body_number : (none : Bool) (before : Before) → number_of (cond none (Err (no_program before)) (Err (record { number = refusal_number NoEnd; line = before.lines }))) ≡ 10 → ⊥
body_number true before e = omega arith
body_number false before e = omega arith

-- at a stage that has not refused the text, no refusal is the answer whatever follows
undecided : (skips : ℕ) (stage : Stage) (before : Before) (fault : TextFault) (n : ℕ) → LONGEST_TAPE ≤ n → refusal_of stage ≡ None
    → ((more : List ℕ) → answer_from skips stage (lines_of more) before ≡ Err fault) → ⊥
undecided skips stages.Leader before fault n above open-is decided =
    let ended : 13 ≡ fault.number = ap number_of (decided []) in
    let long-on : 17 ≡ fault.number = ap number_of (sym (leader_long skips before n above) ∙ decided (long n)) in
    omega arith
undecided skips stages.Body before fault n above open-is decided =
    let bad : 10 ≡ fault.number = ap number_of (sym (body_bad skips before) ∙ decided (36 ∷ [])) in
    body_number (is_none before.current) before (ap number_of (decided []) ∙ sym bad)
undecided skips stages.Rest before fault n above open-is decided =
    let long-on : 17 ≡ fault.number = ap number_of (sym (rest_long before n above) ∙ decided (long n)) in
    rest_number (is_none before.current) before (programs_of before) (ap number_of (decided []) ∙ sym long-on)
undecided skips (stages.Refused other) before fault n above open-is decided = absurd cc

-- bytes with a line feed are not one line
no_feed : (given rest line : List ℕ) → IsOneLine line → (given ++ 10 ∷ []) ++ rest ≡ line → ⊥
no_feed [] rest [] one e = absurd cc
no_feed [] rest (b ∷ line) one e =
    let first : b ≡ 10 = cc in
    let other = All-head InLine b line one in
    let bad : true ≡ false = rw first at other in
    absurd cc
no_feed (g ∷ given) rest [] one e = absurd cc
no_feed (g ∷ given) rest (b ∷ line) one e =
    let later : (given ++ 10 ∷ []) ++ rest ≡ line = cc in
    no_feed given rest line (All-tail InLine b line one) later

-- lines that have ended stand before the present line: they are a front of what precedes it
stands_before : (given rest front line : List ℕ) → IsOneLine line → (given ++ 10 ∷ []) ++ rest ≡ front ++ line → (more : List ℕ) × (front ≡ (given ++ 10 ∷ []) ++ more)
stands_before given rest [] line one e = absurd (no_feed given rest line one e)
stands_before [] rest (b ∷ front) line one e = let first : b ≡ 10 = cc in (front, ap (λ (c : ℕ). c ∷ front) first)
stands_before (g ∷ given) rest (b ∷ front) line one e =
    let later : (given ++ 10 ∷ []) ++ rest ≡ front ++ line = cc in
    let first : b ≡ g = cc in
    let before = stands_before given rest front line one later in
    (before.0, λ i. first i ∷ before.1 i)

-- if bytes have a refusal whatever follows, they have only one
pub one_fault : (skips : ℕ) (bytes : List ℕ) (a b : TextFault) → IsRefused skips bytes a → IsRefused skips bytes b → a ≡ b
one_fault skips bytes a b first other = let e : ◌≡◌ {A = Answer} (Err a) (Err b) = sym (first []) ∙ other [] in cc

-- a refusal that bytes have whatever follows, they have with more bytes too
pub refused_on : (skips : ℕ) (bytes piece : List ℕ) (fault : TextFault) → IsRefused skips bytes fault → IsRefused skips (bytes ++ piece) fault
refused_on skips bytes piece fault refused = λ more. ap (tape_of skips) (append_assoc bytes piece more) ∙ refused (piece ++ more)

-- a refusal that the ended lines decide is the text's, whatever follows
pub decided_refused : (skips : ℕ) (bytes : List ℕ) (fault : TextFault) → IsDecided skips bytes fault → IsRefused skips bytes fault
decided_refused skips bytes fault decided = λ more.
    ap (λ (text : List ℕ). tape_of skips (text ++ more)) decided.bytes_are ∙ refused_on skips (decided.lines ++ 10 ∷ []) decided.rest fault decided.refused more

-- the ended lines of a text that a reader has not refused decide no refusal
pub nothing_decided : (s : ℕ) (stage : Stage) (kept : List ℕ) (len : ℕ) (before : Before) → refusal_of stage ≡ None
    → (skips : ℕ) (bytes : List ℕ) (fault : TextFault) → HasRead (state s stage kept len before) skips bytes → IsDecided skips bytes fault → ⊥
nothing_decided s stage kept len before open-is skips bytes fault read decided =
    let line = read.1.0 in
    let at : IsAt (state s stage kept len before) bytes line = read.1.1 in
    let behind = stands_before decided.lines decided.rest at.front line at.is_line.one_line (sym decided.bytes_are ∙ at.bytes_are) in
    undecided s stage before fault LONGEST_TAPE (lit≤ tt) open-is
    (λ more. sym (at.whole more) ∙ ap (λ (k : ℕ). tape_of k (at.front ++ more)) read.0 ∙ ap (λ (text : List ℕ). tape_of skips (text ++ more)) behind.1
    ∙ refused_on skips (decided.lines ++ 10 ∷ []) behind.0 fault decided.refused more)
