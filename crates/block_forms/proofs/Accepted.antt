-- What holds of a block that is not refused: its numbers are in their ranges, its control is one
-- that is allowed, and it waits by a waiting code. For the functions of src/reading.rt,
-- src/words.rt and src/controls.rt.
use Rattle.std.proofs.Common.{◌≡◌, ℕ, ◌≤◌, ◌/◌, ◌%◌, nat_le, Bool, true, false, if◌then◌else◌, ◌&&◌, ◌||◌, List, [], ◌∷◌, Option, Some, None, IfSome, refl, sym, ◌∙◌, arith}
use Rattle.std.proofs.lemmas.Bool.Decides.{nat_tests}
use Rattle.nc_number.specs.declared.cause.Cause.TheVariants.{NotFixed, UnknownCode, WaitNotAlone, WaitPaths, TwoM, BadCall, AxisTwice, WordRange}
use Rattle.block_order.specs.declared.control.Control.TheVariants as control
use Rattle.macro_expr.specs.Tree.{Sentence, Aim, Assign, Goto, IfGoto, IfThen, WhileDo, DoOnly, EndLoop, ToNumber, ToNumberOf, IsInRange, IsLoop, IsAimInRange}
use Rattle.block_words.specs.declared.purpose.Purpose.{Purpose}
use Rattle.block_words.specs.declared.purpose.Purpose.TheVariants.{MacroCall, Subprogram, Return, Wait, Dwell, Setting, Other}
use Rattle.block_words.specs.declared.range.Range.TheVariants.{Between}
use Rattle.block_words.specs.declared.dialect.Dialect.{Dialect}
use Rattle.block_words.specs.declared.word.FlowWord.{FlowWord}
use Rattle.block_words.specs.Codes.{m_codes, m_code, is_waiting, has_code, first_waiting, purpose_of, is_macro}
use Rattle.block_words.specs.Ranges.{range_of}
use Rattle.block_forms.specs.Refusals.{is_not_fixed, is_unknown, is_wait_not_alone, is_wait_of_others, has_two_m, is_bad_call, has_axis_twice, is_out_of_range, refusal_of}
use Rattle.block_forms.specs.Controls.{number_of, or_number, call_of_p, back_to, wait_at, end_or_next, control_by, control_of_words, number_of_aim, control_of_sentence, is_sequence, is_allowed, waits_by_a_code}
use Rattle.block_forms.proofs.NumbersFit.{IsWithin, last_within, first_within}
use Rattle.code_tables.proofs.FoundPasses.{found_passes}

-- If none of eight refusals is answered, the last one does not hold.
last_of_eight : (a b c d e f g h : Bool) → (if a then Some NotFixed else if b then Some UnknownCode else if c then Some WaitNotAlone else if d then Some WaitPaths else if e then Some TwoM else if f then Some BadCall else if g then Some AxisTwice else if h then Some WordRange else None) ≡ None → h ≡ false
last_of_eight true b c d e f g h none = absurd (cc)
last_of_eight false true c d e f g h none = absurd (cc)
last_of_eight false false true d e f g h none = absurd (cc)
last_of_eight false false false true e f g h none = absurd (cc)
last_of_eight false false false false true f g h none = absurd (cc)
last_of_eight false false false false false true g h none = absurd (cc)
last_of_eight false false false false false false true h none = absurd (cc)
last_of_eight false false false false false false false true none = absurd (cc)
last_of_eight false false false false false false false false none = refl

-- If a block is not refused, no word of it is out of its range.
all_in_range : (dialect : Dialect) (words : List FlowWord) → refusal_of dialect words ≡ None → is_out_of_range dialect words ≡ false
all_in_range dialect words none =
    last_of_eight (is_not_fixed dialect words) (is_unknown dialect.system words) (is_wait_not_alone dialect words) (is_wait_of_others dialect words) (has_two_m dialect.system words) (is_bad_call dialect words) (has_axis_twice dialect.system words) (is_out_of_range dialect words) none

-- If a block is not refused, the number of its last word of a letter with a range of whole numbers
-- is in that range, if it writes one.
number_within : (dialect : Dialect) (words : List FlowWord) (purpose : Purpose) (letter least greatest : ℕ) → refusal_of dialect words ≡ None → purpose_of dialect words ≡ purpose → range_of purpose letter ≡ Between least greatest → IsWithin least greatest (number_of (letter ∷ []) words)
number_within dialect words purpose letter least greatest none is range =
    last_within purpose letter least greatest words range
    (rw (← is) (all_in_range dialect words none))

-- A number in a range is at most the greatest of it.
weaker : (least greatest : ℕ) (number : Option ℕ) → IsWithin least greatest number → IfSome number (λ n. n ≤ greatest)
weaker least greatest None is = tt
weaker least greatest (Some n) is = is.1

-- If a block is not refused, the number of its last word of a letter with a range of whole numbers
-- is at most the greatest of that range, as a cast needs it.
pub number_at_most : (dialect : Dialect) (words : List FlowWord) (own purpose : Purpose) (letter least greatest : ℕ) → refusal_of dialect words ≡ None → own ≡ purpose_of dialect words → own ≡ purpose → range_of purpose letter ≡ Between least greatest → IfSome (number_of (letter ∷ []) words) (λ n. n ≤ greatest)
number_at_most dialect words own purpose letter least greatest none is kind range =
    weaker least greatest _ (number_within dialect words purpose letter least greatest none (sym is ∙ kind) range)

-- Outside macro calls an M word is 0 to 999 (77 is the letter M).
range_of_m : (purpose : Purpose) → is_macro purpose ≡ false → range_of purpose 77 ≡ Between 0 999
range_of_m MacroCall other = absurd (cc)
range_of_m Subprogram other = refl
range_of_m Return other = refl
range_of_m Wait other = refl
range_of_m Dwell other = refl
range_of_m Setting other = refl
range_of_m Other other = refl

-- The M code of a block that is not refused and calls no macro is at most 999.
pub code_at_most : (dialect : Dialect) (words : List FlowWord) (own : Purpose) → refusal_of dialect words ≡ None → own ≡ purpose_of dialect words → is_macro own ≡ false → IfSome (m_code words) (λ n. n ≤ 999)
code_at_most dialect words own none is other =
    weaker 0 999 _
    (first_within own 77 0 999 words (range_of_m own other) (rw is (all_in_range dialect words none)))

-- A macro call whose P and L are in their ranges is an allowed control.
call_allowed : (program repeats : Option ℕ) → IsWithin 1 9999 program → IsWithin 1 9999 repeats → is_allowed (control.Call (or_number 0 program) (or_number 1 repeats)) ≡ true
call_allowed None None p r = refl
call_allowed (Some n) None p r = grind (arith, nat_tests)
call_allowed None (Some m) p r = grind (arith, nat_tests)
call_allowed (Some n) (Some m) p r = grind (arith, nat_tests)

-- The repeats of a call, L or once, are 1 to 9,999 if L is.
repeats_within : (repeats : Option ℕ) → IsWithin 1 9999 repeats → (1 ≤ or_number 1 repeats) × (or_number 1 repeats ≤ 9999)
repeats_within None r = (omega arith, omega arith)
repeats_within (Some n) r = r

-- The P of a call is up to 99,999,999; without a P it counts 0.
p_within : (p : Option ℕ) → IsWithin 1 99999999 p → or_number 0 p ≤ 99999999
p_within None is = omega arith
p_within (Some n) is = is.1

-- A call of a subprogram whose P and repeats are in their ranges is an allowed control.
call_of_p_allowed : (p repeats : ℕ) → p ≤ 99999999 → (1 ≤ repeats) × (repeats ≤ 9999) → is_allowed (call_of_p p repeats) ≡ true
call_of_p_allowed p repeats small within = go (nat_le 10000 p) refl
  where
    go : (b : Bool) → nat_le 10000 p ≡ b → is_allowed (if b then control.Call (p % 10000) (p / 10000) else control.Call p repeats) ≡ true
    go true e = grind (arith, nat_tests)
    go false e = grind (arith, nat_tests)

-- A return whose sequence number is in its range is an allowed control.
back_allowed : (n : Option ℕ) → IsWithin 1 99999 n → is_allowed (back_to n) ≡ true
back_allowed None is = refl
back_allowed (Some n) is = grind (arith, nat_tests)

-- A wait is an allowed control.
wait_allowed : (code : Option ℕ) → is_allowed (wait_at code) ≡ true
wait_allowed None = refl
wait_allowed (Some code) = refl

-- An end, or none, is an allowed control.
end_allowed : (words : List FlowWord) → is_allowed (end_or_next words) ≡ true
end_allowed words = go (has_code 2 words || has_code 30 words)
  where
    go : (b : Bool) → is_allowed (if b then control.End else control.Next) ≡ true
    go true = refl
    go false = refl

-- The control of a block of words that is not refused is an allowed one.
pub words_allowed : (dialect : Dialect) (words : List FlowWord) → refusal_of dialect words ≡ None → is_allowed (control_of_words dialect words) ≡ true
words_allowed dialect words none = go (purpose_of dialect words) refl
  where
    go : (purpose : Purpose) → purpose_of dialect words ≡ purpose → is_allowed (control_by purpose dialect words) ≡ true
    go MacroCall is =
        call_allowed _ _ (number_within dialect words MacroCall 80 1 9999 none is refl) (number_within dialect words MacroCall 76 1 9999 none is refl)
    go Subprogram is =
        call_of_p_allowed _ _ (p_within _ (number_within dialect words Subprogram 80 1 99999999 none is refl)) (repeats_within _ (number_within dialect words Subprogram 76 1 9999 none is refl))
    go Return is = back_allowed _ (number_within dialect words Return 80 1 99999 none is refl)
    go Wait is = wait_allowed (first_waiting dialect (m_codes words))
    go Dwell is = end_allowed words
    go Setting is = end_allowed words
    go Other is = end_allowed words

-- A call of a subprogram is no wait.
waits_of_call : (dialect : Dialect) (p repeats : ℕ) → waits_by_a_code dialect (call_of_p p repeats) ≡ true
waits_of_call dialect p repeats = go (nat_le 10000 p)
  where
    go : (b : Bool) → waits_by_a_code dialect (if b then control.Call (p % 10000) (p / 10000) else control.Call p repeats) ≡ true
    go true = refl
    go false = refl

-- A return is no wait.
waits_of_back : (dialect : Dialect) (n : Option ℕ) → waits_by_a_code dialect (back_to n) ≡ true
waits_of_back dialect None = refl
waits_of_back dialect (Some n) = refl

-- A wait by the first waiting code waits by a waiting code.
waits_of_wait : (dialect : Dialect) (own : List ℕ) → waits_by_a_code dialect (wait_at (first_waiting dialect own)) ≡ true
waits_of_wait dialect own = go (first_waiting dialect own) refl
  where
    go : (code : Option ℕ) → first_waiting dialect own ≡ code → waits_by_a_code dialect (wait_at code) ≡ true
    go None e = refl
    go (Some code) e = found_passes (is_waiting dialect) own code e

-- An end, or none, is no wait.
waits_of_end : (dialect : Dialect) (words : List FlowWord) → waits_by_a_code dialect (end_or_next words) ≡ true
waits_of_end dialect words = go (has_code 2 words || has_code 30 words)
  where
    go : (b : Bool) → waits_by_a_code dialect (if b then control.End else control.Next) ≡ true
    go true = refl
    go false = refl

-- If a block of words waits, it does so by a waiting code.
pub words_wait : (dialect : Dialect) (words : List FlowWord) → waits_by_a_code dialect (control_of_words dialect words) ≡ true
words_wait dialect words = go (purpose_of dialect words)
  where
    go : (purpose : Purpose) → waits_by_a_code dialect (control_by purpose dialect words) ≡ true
    go MacroCall = refl
    go Subprogram = waits_of_call dialect _ _
    go Return = waits_of_back dialect _
    go Wait = waits_of_wait dialect (m_codes words)
    go Dwell = waits_of_end dialect words
    go Setting = waits_of_end dialect words
    go Other = waits_of_end dialect words

-- No statement waits.
pub sentence_waits : (dialect : Dialect) (sentence : Sentence) → waits_by_a_code dialect (control_of_sentence sentence) ≡ true
sentence_waits dialect (Assign name tree) = refl
sentence_waits dialect (Goto aim) = refl
sentence_waits dialect (IfGoto test aim) = refl
sentence_waits dialect (IfThen test name tree) = refl
sentence_waits dialect (WhileDo test name) = refl
sentence_waits dialect (DoOnly name) = refl
sentence_waits dialect (EndLoop name) = refl

-- A loop's name from 1 to 3 passes the test of an allowed control.
loop_allowed : (n : ℕ) → IsLoop n → (nat_le 1 n && nat_le n 3) ≡ true
loop_allowed n is = grind (arith, nat_tests)

-- A jump's sequence number in its range passes the test of an allowed control.
aim_allowed : (aim : Aim) → IsAimInRange aim → is_sequence (number_of_aim aim) ≡ true
aim_allowed (ToNumber n) is = grind (arith, nat_tests)
aim_allowed (ToNumberOf tree) is = refl

-- The control of a statement whose numbers are in their ranges is an allowed one.
pub sentence_allowed : (sentence : Sentence) → IsInRange sentence → is_allowed (control_of_sentence sentence) ≡ true
sentence_allowed (Assign name tree) is = refl
sentence_allowed (Goto aim) is = aim_allowed aim is
sentence_allowed (IfGoto test aim) is = aim_allowed aim is
sentence_allowed (IfThen test name tree) is = refl
sentence_allowed (WhileDo test name) is = loop_allowed name is
sentence_allowed (DoOnly name) is = loop_allowed name is
sentence_allowed (EndLoop name) is = loop_allowed name is
