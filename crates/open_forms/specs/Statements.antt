-- What a statement does to the order of blocks, if neither its condition nor what it assigns is
-- looked into. src/statement.rt answers `control_of_statement`. No other crate cites these words,
-- but what `open_control` answers rests on them (Controls).
use Rattle.std.specs.Prelude.{ℕ, zero, suc, ◌-◌, Bool, false, not, ◌==◌, ◌&&◌, ◌||◌, nat_le, List, [], ◌∷◌, Option, Some, None, is_some, Result, Ok, Err, codes, if◌then◌else◌}
use Rattle.nc_number.specs.declared.limits.TheConstants.{LAST_SEQUENCE}
use Rattle.nc_number.specs.declared.cause.Cause.{Cause}
use Rattle.nc_number.specs.declared.cause.Cause.TheVariants.{TooManyDigits, BadExpression, BadCondition, BadLoopNumber, WordRange}
use Rattle.nc_number.specs.declared.fault.NumberFault.{NumberFault}
use Rattle.nc_number.specs.declared.literal.Literal.{Literal}
use Rattle.nc_number.specs.Arithmetic.{whole_of}
use Rattle.nc_number.specs.Literals.{is_literal, all_digits, word_literal}
use Rattle.macro_expr.specs.Words.{text_behind}
use Rattle.block_words.specs.Codes.{natural_number}
use Rattle.block_order.specs.declared.control.Control.{Control}
use Rattle.block_order.specs.declared.control.Control.TheVariants as control

-- What stands behind the closing bracket that is met while so many inner ones are open: the rest,
-- if it closes the first one; else what is found deeper.
abbrev pub text_behind_close : ℕ → List ℕ → Option (List ℕ) → Option (List ℕ)
text_behind_close zero rest deeper = Some rest
text_behind_close (suc n) rest deeper = deeper

-- The text behind the bracket that closes the one before the text, while so many inner ones are
-- open; none if no bracket does (91 is [, 93 is ]).
unfoldable pub behind_close : ℕ → List ℕ → Option (List ℕ)
behind_close n [] = None
behind_close n (b ∷ bs) =
    if b == 91 then behind_close (suc n) bs
    else if b == 93 then text_behind_close n bs (behind_close (n - 1) bs)
    else behind_close n bs

-- The text behind a condition, which begins with [ (91) and is not looked into; none if the text
-- begins with no bracket, or it is not closed.
abbrev pub behind_condition : List ℕ → Option (List ℕ)
behind_condition [] = None
behind_condition (b ∷ bs) = if b == 91 then behind_close 0 bs else None

-- The text begins with this word.
abbrev pub begins : List ℕ → List ℕ → Bool
begins word text = is_some (text_behind word text)

-- The M that stands behind these two bytes and before this text is that of PRM (80 and 82 are P and
-- R) or of MOD.
abbrev pub is_own_m : ℕ → ℕ → List ℕ → Bool
is_own_m two one rest = (two == 80 && one == 82) || begins (codes "OD") rest

-- A G or M word may hide in the text, before which these two bytes stand: a G (71), or an M (77)
-- that isn't that of MOD or PRM.
unfoldable pub hides_word : ℕ → ℕ → List ℕ → Bool
hides_word two one [] = false
hides_word two one (b ∷ bs) = (b == 71 || (b == 77 && not (is_own_m two one bs))) || hides_word one b bs

-- The control of an assignment, whose value is not looked into: the next block, unless a word may
-- hide in the text.
abbrev pub assignment : List ℕ → Result Control Cause
assignment text = if hides_word 0 0 text then Err BadExpression else Ok control.Next

-- The jump to a sequence number that is written out, which is 0 to 99,999; or the refusal of
-- another number, or of none.
abbrev pub in_range : Option ℕ → Result Control Cause
in_range None = Err BadExpression
in_range (Some n) = if nat_le n LAST_SEQUENCE then Ok (control.Goto (Some n)) else Err WordRange

-- The jump to a target that is written out, or its refusal.
abbrev pub fixed_target : Result Literal NumberFault → Result Control Cause
fixed_target (Err fault) = Err TooManyDigits
fixed_target (Ok literal) = in_range (natural_number (whole_of literal.value))

-- The target of a jump is a variable or an expression: the text begins with # (35) or [ (91).
abbrev pub is_computed : List ℕ → Bool
is_computed [] = false
is_computed (b ∷ bs) = b == 35 || b == 91

-- The jump to the target that the text writes, computed or written out; or its refusal.
abbrev pub target : List ℕ → Result Control Cause
target text =
    if is_computed text then Ok (control.Goto None)
    else if is_literal text && all_digits text then fixed_target (word_literal text)
    else Err BadExpression

-- The number of a loop that the text writes: one digit, 1, 2 or 3 (49 to 51 in ASCII).
abbrev pub number_of_loop : List ℕ → Option ℕ
number_of_loop (b ∷ []) = if nat_le 49 b && nat_le b 51 then Some (b - 48) else None
number_of_loop other = None

-- The control of a loop of this number; else the refusal 24, as there is no such loop.
abbrev pub loop_of : (ℕ → Control) → Option ℕ → Result Control Cause
loop_of kind None = Err BadLoopNumber
loop_of kind (Some name) = Ok (kind name)

-- The control of the loop whose number the text writes, or refusal 24.
abbrev pub loop_number : (ℕ → Control) → List ℕ → Result Control Cause
loop_number kind text = loop_of kind (number_of_loop text)

-- The control of what stands behind the condition of an IF: of a jump (the text behind its GOTO),
-- or of an assignment (the text behind its THEN#); refused if it is neither.
abbrev pub jump_or_assignment : Option (List ℕ) → Option (List ℕ) → Result Control Cause
jump_or_assignment (Some rest) other = target rest
jump_or_assignment None (Some rest) = assignment rest
jump_or_assignment None None = Err BadExpression

-- The control of an IF: of a jump or an assignment behind its condition; refused without a
-- condition.
abbrev pub behind_if : Option (List ℕ) → Result Control Cause
behind_if None = Err BadCondition
behind_if (Some rest) = jump_or_assignment (text_behind (codes "GOTO") rest) (text_behind (codes "THEN#") rest)

-- The control of a WHILE by what stands behind its condition and a DO; refused without a DO.
abbrev pub loop_or_none : Option (List ℕ) → Result Control Cause
loop_or_none None = Err BadExpression
loop_or_none (Some rest) = loop_number control.While rest

-- The control of a WHILE: of a DO and a number behind its condition; refused without a condition.
abbrev pub behind_while : Option (List ℕ) → Result Control Cause
behind_while None = Err BadCondition
behind_while (Some rest) = loop_or_none (text_behind (codes "DO") rest)

-- What stands behind each keyword, if the text begins with it. A text that begins with none of them
-- is no statement.
pub record Heads : Type 0 where
  -- Behind #.
  pub assignment : Option (List ℕ)
  -- Behind GOTO.
  pub jump : Option (List ℕ)
  -- Behind IF.
  pub test : Option (List ℕ)
  -- Behind WHILE.
  pub loop : Option (List ℕ)
  -- Behind DO.
  pub plain_loop : Option (List ℕ)
  -- Behind END.
  pub close : Option (List ℕ)

-- What stands behind each keyword that the text begins with.
abbrev pub heads : List ℕ → Heads
heads text = record {
  assignment = text_behind (codes "#") text;
  jump = text_behind (codes "GOTO") text;
  test = text_behind (codes "IF") text;
  loop = text_behind (codes "WHILE") text;
  plain_loop = text_behind (codes "DO") text;
  close = text_behind (codes "END") text;
}

-- The control of a statement that begins with END; refused if it begins with no keyword at all.
abbrev pub by_close : Option (List ℕ) → Result Control Cause
by_close (Some rest) = loop_number control.EndLoop rest
by_close None = Err BadExpression

-- The control of a statement that begins with DO, or with a keyword that is tried later.
abbrev pub by_plain_loop : Option (List ℕ) → Heads → Result Control Cause
by_plain_loop (Some rest) h = loop_number control.Do rest
by_plain_loop None h = by_close h.close

-- The control of a statement that begins with WHILE, or with a keyword that is tried later.
abbrev pub by_loop : Option (List ℕ) → Heads → Result Control Cause
by_loop (Some rest) h = behind_while (behind_condition rest)
by_loop None h = by_plain_loop h.plain_loop h

-- The control of a statement that begins with IF, or with a keyword that is tried later.
abbrev pub by_test : Option (List ℕ) → Heads → Result Control Cause
by_test (Some rest) h = behind_if (behind_condition rest)
by_test None h = by_loop h.loop h

-- The control of a statement that begins with GOTO, or with a keyword that is tried later.
abbrev pub by_jump : Option (List ℕ) → Heads → Result Control Cause
by_jump (Some rest) h = target rest
by_jump None h = by_test h.test h

-- The control of a statement that begins with #, or with a keyword that is tried later.
abbrev pub by_assignment : Option (List ℕ) → Heads → Result Control Cause
by_assignment (Some rest) h = assignment rest
by_assignment None h = by_jump h.jump h

-- What a statement does to the order of blocks, or its refusal.
abbrev pub control_of_statement : List ℕ → Result Control Cause
control_of_statement text = by_assignment (heads text).assignment (heads text)
