-- What the words of a block say once each is evaluated, in the order of the text: which fields a
-- word sets, and when it is refused (56, 64).
use Rattle.std.specs.Prelude.{ℕ, Bool, true, false, not, ◌&&◌, ◌||◌, List, [], ◌∷◌, Option, Some, None, Result, Ok, Err, ℤ, neg_ℤ, unsigned_abs, codes, if◌then◌else◌}
use Rattle.nc_number.specs.declared.cause.Cause.{Cause}
use Rattle.nc_number.specs.declared.cause.Cause.TheVariants.{UnknownCode, WordRange}
use Rattle.nc_number.specs.declared.literal.Literal.{Literal}
use Rattle.nc_number.specs.declared.value.Var.{Var}
use Rattle.nc_number.specs.declared.value.Var.TheVariants.{Vacant, Is}
use Rattle.nc_number.specs.Arithmetic.{whole_of}
use Rattle.nc_number.specs.Conversions.{thousandths_of}
use Rattle.block_words.specs.declared.word.FlowWord.{FlowWord}
use Rattle.block_words.specs.declared.word.WordValue.{WordValue}
use Rattle.block_words.specs.declared.word.WordValue.TheVariants.{Fixed as Written, Computed}
use Rattle.block_words.specs.declared.purpose.Purpose.{Purpose}
use Rattle.block_words.specs.declared.purpose.Purpose.TheVariants.{Dwell, Setting}
use Rattle.block_words.specs.Words.{is_one_of}
use Rattle.macro_eval.specs.declared.scope.Look.{Look}
use Rattle.macro_eval.specs.declared.scope.VarFault.{VarFault}
use Rattle.block_words.specs.Codes.{natural_number}
use Rattle.block_words.specs.Ranges.{range_of, fits}
use Rattle.block_values.specs.Outcomes.{Outcome, Gives, ◌>>=◌, reading_none, value_with}

-- what the words of a block say; of an address given twice the last that is not vacant
pub record Values : Type 0 where
  -- X, Z, U, W, I, K and R in 0.001 mm: X and U count on the diameter, I and R on the radius
  pub x : Option ℤ
  pub z : Option ℤ
  pub u : Option ℤ
  pub w : Option ℤ
  pub i : Option ℤ
  pub k : Option ℤ
  pub r : Option ℤ
  -- F and S as values (0.000001), which count whole units without a point
  pub feed : Var
  pub speed : Var
  -- T as a whole number
  pub tool : Option ℕ
  -- P of the setting of an offset (G10): the number of the offset
  pub number : Option ℤ
  -- a dwell in milliseconds
  pub rest : Option ℕ

-- no word said anything
abbrev pub nothing_said : Values
nothing_said = record {
  x = None;
  z = None;
  u = None;
  w = None;
  i = None;
  k = None;
  r = None;
  feed = Vacant;
  speed = Vacant;
  tool = None;
  number = None;
  rest = None;
}

-- what decides the meaning of a word in its block
pub record Sense : Type 0 where
  -- what the block's codes make of its words
  pub purpose : Purpose
  -- an arc is in force behind the block's own codes; beside it I, K and R are read
  pub arc : Bool
  -- the setting of an offset is given, beside which R is read and ignored
  pub setting : Bool

-- whether a word of this letter means something in a block of this sense: I and K beside an arc, R
-- beside an arc or G10, every other letter always
abbrev pub is_meant : Sense → ℕ → Bool
is_meant sense letter =
    not (is_one_of (codes "IKR") letter) || (sense.arc || (sense.setting && is_one_of (codes "R") letter))

-- the codes of the block make it a dwell (G04)
abbrev pub is_dwell : Purpose → Bool
is_dwell Dwell = true
is_dwell _ = false

-- the codes of the block make it the setting of an offset (G10)
abbrev pub is_offset : Purpose → Bool
is_offset Setting = true
is_offset _ = false

-- the length of a dwell in milliseconds
abbrev pub milliseconds : ℤ → Option ℕ
milliseconds n = Some (unsigned_abs n)

-- the values with a word of a dwell taken: X, U and P say how long it is; Z and W are read and
-- ignored
abbrev pub with_rest : ℕ → Literal → Values → Values
with_rest letter literal values =
    if is_one_of (codes "XU") letter then record values { rest = milliseconds (thousandths_of literal) }
    else if is_one_of (codes "P") letter then record values { rest = natural_number (whole_of literal.value) }
    else values

-- the values with a length taken: along an axis, to the centre of an arc, or its radius
abbrev pub with_length : ℕ → ℤ → Values → Values
with_length letter length values =
    if is_one_of (codes "X") letter then record values { x = Some length }
    else if is_one_of (codes "Z") letter then record values { z = Some length }
    else if is_one_of (codes "U") letter then record values { u = Some length }
    else if is_one_of (codes "W") letter then record values { w = Some length }
    else if is_one_of (codes "I") letter then record values { i = Some length }
    else if is_one_of (codes "K") letter then record values { k = Some length }
    else if is_one_of (codes "R") letter then record values { r = Some length }
    else values

-- the values with F, S, T or the number of an offset taken; every other word leaves them
abbrev pub with_setting : Sense → ℕ → Literal → Values → Values
with_setting sense letter literal values =
    if is_one_of (codes "F") letter then record values { feed = Is literal.value }
    else if is_one_of (codes "S") letter then record values { speed = Is literal.value }
    else if is_one_of (codes "T") letter then record values { tool = natural_number (whole_of literal.value) }
    else if is_one_of (codes "P") letter && is_offset sense.purpose then record values { number = whole_of literal.value }
    else values

-- the values with a word taken
abbrev pub with_word : Sense → ℕ → Literal → Values → Values
with_word sense letter literal values =
    if is_one_of (codes "XUZWP") letter && is_dwell sense.purpose then with_rest letter literal values
    else if is_one_of (codes "XZUWIKR") letter then with_length letter (thousandths_of literal) values
    else with_setting sense letter literal values

-- the values with a word taken; or 56 of I, K and R that mean nothing, then 64 of a word out of its
-- range
abbrev pub values_with : Sense → ℕ → Literal → Values → Result Values Cause
values_with sense letter literal values =
    if not (is_meant sense letter) then Err UnknownCode
    else if fits (range_of sense.purpose letter) literal then Ok (with_word sense letter literal values)
    else Err WordRange

-- a computed number counts as one with a point, behind the word's own sign
abbrev pub computed_literal : Bool → ℤ → Literal
computed_literal minus value = record { value = if minus then neg_ℤ value else value; point = true }

-- the values with a computed word taken, which counts as absent if its value is vacant
abbrev pub taken_var : Sense → ℕ → Bool → Var → Values → Result Values Cause
taken_var sense letter minus Vacant values = Ok values
taken_var sense letter minus (Is value) values = values_with sense letter (computed_literal minus value) values

-- the values behind one word, by what a table says of each variable: it is evaluated, and then
-- taken
abbrev pub word_with : (ℕ → Result Look VarFault) → Sense → ℕ → WordValue → Values → List Var → Outcome Values
word_with table sense letter (Written literal) values reads =
    reading_none (values_with sense letter literal values) reads
word_with table sense letter (Computed minus tree) values reads =
    value_with table tree reads >>= λ value left. reading_none (taken_var sense letter minus value values) left

-- the values behind all words of a block, each evaluated and taken before the next
abbrev pub words_with : (ℕ → Result Look VarFault) → Sense → List FlowWord → Values → List Var → Outcome Values
words_with table sense [] values reads = Gives values reads
words_with table sense (word ∷ words) values reads =
    word_with table sense word.letter word.value values reads >>= λ next left. words_with table sense words next left
