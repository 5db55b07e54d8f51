-- Which numbers the words of a block may have if they are written out.
use Rattle.std.specs.Prelude.{ℕ, Bool, true, false, not, ◌&&◌, nat_le, Option, Some, None, ℤ, pos, negsuc, codes, if◌then◌else◌}
use Rattle.std.specs.Int.{is_negative}
use Rattle.std.specs.Option.{is_some}
use Rattle.nc_number.specs.declared.limits.TheConstants.{LARGEST_WHOLE, LAST_SEQUENCE}
use Rattle.nc_number.specs.declared.literal.Literal.{Literal}
use Rattle.nc_number.specs.Arithmetic.{whole_of}
use Rattle.block_words.specs.declared.word.FlowWord.{FlowWord}
use Rattle.block_words.specs.declared.word.WordValue.{WordValue}
use Rattle.block_words.specs.declared.word.WordValue.TheVariants.{Fixed, Computed}
use Rattle.block_words.specs.declared.purpose.Purpose.{Purpose}
use Rattle.block_words.specs.declared.purpose.Purpose.TheVariants.{MacroCall, Subprogram, Return, Wait, Dwell, Setting, Other}
use Rattle.block_words.specs.declared.range.Range.{Range}
use Rattle.block_words.specs.declared.range.Range.TheVariants.{Any, NotNegative, Whole, Between}
use Rattle.block_words.specs.Words.{is_one_of}

-- There is a number, and it lies between these, both included.
abbrev pub is_between : ℕ → ℕ → Option ℤ → Bool
is_between least greatest None = false
is_between least greatest (Some (pos n)) = nat_le least n && nat_le n greatest
is_between least greatest (Some (negsuc n)) = false

-- The literal is in the range. One with a point is whole if its fraction is 0.
abbrev pub fits : Range → Literal → Bool
fits Any literal = true
fits NotNegative literal = not (is_negative literal.value)
fits Whole literal = is_some (whole_of literal.value)
fits (Between least greatest) literal = is_between least greatest (whole_of literal.value)

-- P: milliseconds of a dwell; the number of an offset; a program, with repeats before its four
-- digits or without; the sequence number of a return; the program of a macro call; else any number.
abbrev pub range_of_p : Purpose → Range
range_of_p MacroCall = Between 1 9999
range_of_p Subprogram = Between 1 LARGEST_WHOLE
range_of_p Return = Between 1 LAST_SEQUENCE
range_of_p Wait = Any
range_of_p Dwell = Between 0 LARGEST_WHOLE
range_of_p Setting = Whole
range_of_p Other = Any

-- L: repeats of a call; the kind of an offset; else any number.
abbrev pub range_of_l : Purpose → Range
range_of_l MacroCall = Between 1 9999
range_of_l Subprogram = Between 1 9999
range_of_l Return = Any
range_of_l Wait = Any
range_of_l Dwell = Any
range_of_l Setting = Between 2 2
range_of_l Other = Any

-- X and U: seconds of a dwell; else positions, whose range only the run judges, by an alarm.
abbrev pub range_of_way : Purpose → Range
range_of_way Dwell = NotNegative
range_of_way _ = Any

-- Outside a macro call: P, L, X and U as the purpose says; F is 0 or more; S, T and M are whole
-- numbers from 0 on, up to 99,999, 9,999 and 999; other letters are any number.
abbrev pub range_of_letter : Purpose → ℕ → Range
range_of_letter purpose letter =
    if is_one_of (codes "P") letter then range_of_p purpose
    else if is_one_of (codes "L") letter then range_of_l purpose
    else if is_one_of (codes "XU") letter then range_of_way purpose
    else if is_one_of (codes "F") letter then NotNegative
    else if is_one_of (codes "S") letter then Between 0 99999
    else if is_one_of (codes "T") letter then Between 0 9999
    else if is_one_of (codes "M") letter then Between 0 999
    else Any

-- In a macro call P and L have the ranges of the call; all other letters are arguments, of any
-- number.
abbrev pub range_of_argument : ℕ → Range
range_of_argument letter =
    if is_one_of (codes "P") letter then range_of_p MacroCall
    else if is_one_of (codes "L") letter then range_of_l MacroCall
    else Any

-- The range of a word of this letter, in a block of this purpose.
abbrev pub range_of : Purpose → ℕ → Range
range_of MacroCall letter = range_of_argument letter
range_of purpose letter = range_of_letter purpose letter

-- The value, if it is written out, is in the range.
abbrev pub fits_value : Range → WordValue → Bool
fits_value range (Fixed literal) = fits range literal
fits_value range (Computed minus tree) = true

-- The word, if it is written out, is in its range.
abbrev pub is_in_range : Purpose → FlowWord → Bool
is_in_range purpose word = fits_value (range_of purpose word.letter) word.value
