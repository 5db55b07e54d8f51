-- The limits of the text of a macro expression or statement, and which refusal is answered if
-- several hold. Src/limits.rt, parse.rt and stop.rt compute it. Bytes: 9 is the tab, 32 the space,
-- 35 `#`, 40 `(`, 41 `)`, 46 the point, 91 `[`, 93 `]`.
use Rattle.std.specs.Prelude.{ℕ, suc, Bool, true, false, ◌-◌, ◌==◌, ◌&&◌, ◌||◌, not, nat_eq, nat_lt, List, [], ◌∷◌, ◌++◌, length, slice_index, count_by, codes, Result, Ok, Err, if◌then◌else◌}
use Rattle.std.specs.Char.{is_ascii_digit, to_ascii_uppercase}
use Rattle.std.specs.List.{starts_with, ends_with}
use Rattle.std.specs.Str.{bytes_eq}
use Rattle.nc_number.specs.Literals.{significant}
use Rattle.nc_number.specs.declared.limits.TheConstants.{MOST_BRACKETS, MOST_READS}
use Rattle.nc_number.specs.declared.cause.Cause.{Cause}
use Rattle.nc_number.specs.declared.cause.Cause.TheVariants.{TooManyDigits, BadExpression, TooManyBrackets, BadCondition, UnknownFunction, BadLoopNumber, TooManyVariables, WordRange}
use Rattle.nc_number.specs.Causes.{cause_number}
use Rattle.nc_number.specs.declared.fault.Failing.{Failing}
use Rattle.nc_number.specs.declared.fault.Failing.TheVariants as failing
use Rattle.macro_expr.specs.declared.tree.ExprFault.{ExprFault}
use Rattle.macro_expr.specs.declared.stop.Stop.{Stop}
use Rattle.macro_expr.specs.declared.stop.Stop.TheVariants.{Expression, Condition, Function, Loop, Sequence}
use Rattle.macro_expr.specs.Words.{run, begins}

-- the refusal of this cause
abbrev pub refusal : Cause → ExprFault
refusal cause = record { number = cause_number cause }

-- The text without spaces, tabs and comments, and in upper case. The test says whether it begins
-- inside a comment. A comment that is open at the end leaves its bracket, which is no part of any
-- expression.
abbrev pub clean_text : Bool → List ℕ → List ℕ
clean_text true [] = codes "("
clean_text false [] = []
clean_text true (b ∷ text) = clean_text (not (b == 41)) text
clean_text false (b ∷ text) =
    if b == 40 then clean_text true text
    else if b == 32 || b == 9 then clean_text false text
    else to_ascii_uppercase b ∷ clean_text false text

-- whether the text has a last byte, and that byte passes the test
abbrev pub ends : (ℕ → Bool) → List ℕ → Bool
ends p text = nat_lt 0 (length text) && p (slice_index text (length text - 1))

-- whether a text is all that may stand before the number of a loop: DO, END, or WHILE with its
-- condition and DO
abbrev pub is_loop_head : List ℕ → Bool
is_loop_head before =
    bytes_eq before (codes "DO") || bytes_eq before (codes "END")
    || (starts_with nat_eq before (codes "WHILE") && ends_with nat_eq before (codes "]DO"))

-- whether these digits, after that text, are more than a number may have: 6 after a point, else 8,
-- zeros in front not counted. The digits of a loop's number are never too many.
abbrev pub are_too_many : List ℕ → List ℕ → Bool
are_too_many before digits =
    if ends (λ b. b == 46) before then nat_lt 6 (length digits)
    else if is_loop_head before then false
    else nat_lt 8 (length (significant digits))

-- whether a number with too many digits begins here, after that text
abbrev pub begins_long : List ℕ → List ℕ → Bool
begins_long before text =
    begins is_ascii_digit text && not (ends is_ascii_digit before) && are_too_many before (run is_ascii_digit text)

-- whether a number with too many digits begins anywhere in the text, which stands after another
abbrev pub long_behind : List ℕ → List ℕ → Bool
long_behind before [] = false
long_behind before (b ∷ text) = begins_long before (b ∷ text) || long_behind (before ++ b ∷ []) text

-- whether a number in the text has too many digits
unfoldable pub has_long_number : List ℕ → Bool
has_long_number text = long_behind [] text

-- how many square brackets are open after a byte, if so many were open before it
abbrev pub open_behind : ℕ → ℕ → ℕ
open_behind opened b = if b == 91 then suc opened else if b == 93 then opened - 1 else opened

-- whether more than five brackets are open at once, if so many are open before the text
abbrev pub too_deep : ℕ → List ℕ → Bool
too_deep opened [] = nat_lt MOST_BRACKETS opened
too_deep opened (b ∷ text) = nat_lt MOST_BRACKETS opened || too_deep (open_behind opened b) text

-- whether more than five brackets are open at once
unfoldable pub has_deep_brackets : List ℕ → Bool
has_deep_brackets text = too_deep 0 text

-- how many `#` the text has: one for each variable that it names
abbrev pub variable_signs : List ℕ → ℕ
variable_signs text = count_by (λ b. b == 35) text

-- whether the text names more than the 32 variables that a block may read
abbrev pub has_many_variables : List ℕ → Bool
has_many_variables text = nat_lt MOST_READS (variable_signs text)

-- the cause for which a text is refused if reading stops so and it names few enough variables
abbrev pub cause_of : Stop → Cause
cause_of Expression = BadExpression
cause_of Condition = BadCondition
cause_of Function = UnknownFunction
cause_of Loop = BadLoopNumber
cause_of Sequence = WordRange

-- the cause for which a text is refused if reading stops so; the test says whether it names too
-- many variables, which come before 64, and before 20 that is answered only for no other cause
abbrev pub cause_beside : Bool → Stop → Cause
cause_beside true Expression = TooManyVariables
cause_beside true Sequence = TooManyVariables
cause_beside true Condition = BadCondition
cause_beside true Function = UnknownFunction
cause_beside true Loop = BadLoopNumber
cause_beside false stop = cause_of stop

-- the refusal of a text that is not read: the least of those that hold
abbrev pub refusal_of : List ℕ → Stop → ExprFault
refusal_of text stop =
    if has_long_number text then refusal TooManyDigits
    else if has_deep_brackets text then refusal TooManyBrackets
    else refusal (cause_beside (has_many_variables text) stop)

-- what is answered for a cleaned text that is read so: a text that is read has no other refusal
-- than too many variables
abbrev pub answer : {A : Type 0} → List ℕ → Result A Stop → Result A ExprFault
answer text (Ok tree) = if has_many_variables text then Err (refusal TooManyVariables) else Ok tree
answer text (Err stop) = Err (refusal_of text stop)

-- what a call answers for a cleaned text that is read so; it may run out of memory
abbrev pub answer_to : {A : Type 0} → List ℕ → Result A (Failing Stop) → Result A (Failing ExprFault)
answer_to text (Ok tree) = if has_many_variables text then Err (failing.Fault (refusal TooManyVariables)) else Ok tree
answer_to text (Err (failing.Fault stop)) = Err (failing.Fault (refusal_of text stop))
answer_to text (Err failing.NoMemory) = Err failing.NoMemory
