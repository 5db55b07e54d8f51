-- When a block of words is refused. Each refusal is a condition of the whole block, apart from the
-- others; `refusal_of` answers the least. Refusals of words that don't read, and of too many
-- variables, are in Forms.
use Rattle.std.specs.Prelude.{◌≡◌, ◌≤◌, ℕ, Bool, true, false, not, ◌&&◌, ◌||◌, nat_lt, nat_le, List, [], ◌∷◌, length, map, Option, Some, None, codes, if◌then◌else◌}
use Rattle.std.specs.List.{list_any}
use Rattle.nc_number.specs.Causes.{cause_number}
use Rattle.nc_number.specs.declared.cause.Cause.{Cause}
use Rattle.nc_number.specs.declared.cause.Cause.TheVariants.{NotFixed, UnknownCode, WaitNotAlone, WaitPaths, TwoM, BadCall, AxisTwice, WordRange}
use Rattle.code_tables.specs.declared.row.Row.{Row}
use Rattle.code_tables.specs.declared.system.System.{System}
use Rattle.code_tables.specs.declared.system.System.TheVariants.{A, B}
use Rattle.code_tables.specs.Kinds.{is_refused}
use Rattle.block_words.specs.declared.word.FlowWord.{FlowWord}
use Rattle.block_words.specs.declared.dialect.Dialect.{Dialect}
use Rattle.block_words.specs.declared.purpose.Purpose.{Purpose}
use Rattle.block_words.specs.declared.purpose.Purpose.TheVariants.{Subprogram}
use Rattle.block_words.specs.Words.{is_one_of, words_of, has, is_computed, has_computed, last_whole}
use Rattle.block_words.specs.Codes.{natural_number, row_of_word, gives, is_dwell, is_setting, is_limit, is_machine, is_macro_call, has_code, has_wait, purpose_of}
use Rattle.block_words.specs.Purposes.{fixed_letters, is_idle_p, is_idle_l, names_both}
use Rattle.block_words.specs.Ranges.{is_in_range}

-- 54: a word that must be written out is computed.
abbrev pub is_not_fixed : Dialect → List FlowWord → Bool
is_not_fixed dialect words = has_computed (fixed_letters (purpose_of dialect words)) words

-- The system lacks the code of a G word, or the control refuses the code's row.
abbrev pub is_refused_row : Option Row → Bool
is_refused_row None = true
is_refused_row (Some row) = is_refused row.kind

-- The G word is written out, and of a code that the system lacks or the control refuses.
abbrev pub is_unknown_code : System → FlowWord → Bool
is_unknown_code system word = not (is_computed word.value) && is_refused_row (row_of_word system word)

-- The letters that have a meaning outside macro calls: incremental U and W are of system A alone.
abbrev pub known_letters : System → List ℕ
known_letters A = codes "XZUWIKRFSTNOMGPL"
known_letters B = codes "XZIKRFSTNOMGPL"

-- The letter has no meaning outside macro calls; Q has one beside G10 alone.
abbrev pub is_unknown_letter : System → List FlowWord → ℕ → Bool
is_unknown_letter system words letter =
    not (is_one_of (known_letters system) letter || (is_one_of (codes "Q") letter && gives system is_setting words))

-- The highest speed of the spindle, G50 of system A or G92 of system B, is without S, or beside X,
-- Z, U or W, which have no meaning there.
abbrev pub is_bad_limit : System → List FlowWord → Bool
is_bad_limit system words = gives system is_limit words && (not (has (codes "S") words) || has (codes "XZUW") words)

-- G53 stands beside U or W: it goes to absolute positions alone.
abbrev pub is_bad_machine : System → List FlowWord → Bool
is_bad_machine system words = gives system is_machine words && has (codes "UW") words

-- There is a row, and it is that of a macro call.
abbrev pub is_macro_row : Option Row → Bool
is_macro_row None = false
is_macro_row (Some row) = is_macro_call row.kind

-- The first word is the G65, and no other is a G, N or O.
abbrev pub begins_macro_call : System → List FlowWord → Bool
begins_macro_call system [] = false
begins_macro_call system (word ∷ words) =
    (is_one_of (codes "G") word.letter && is_macro_row (row_of_word system word)) && not (has (codes "GNO") words)

-- 56: a letter or a code that the system lacks, or that the control refuses or does not allow
-- there.
abbrev pub is_unknown : System → List FlowWord → Bool
is_unknown system words =
    if gives system is_macro_call words then not (begins_macro_call system words)
    else (list_any (is_unknown_code system) (words_of (codes "G") words)
    || list_any (λ word. is_unknown_letter system words word.letter) words)
    || (is_bad_limit system words || is_bad_machine system words)

-- The block waits for the other path. In a macro call it does not: there M is an argument.
abbrev pub waits_there : Dialect → List FlowWord → Bool
waits_there dialect words = not (gives dialect.system is_macro_call words) && has_wait dialect words

-- 57: a wait beside another word than P.
abbrev pub is_wait_not_alone : Dialect → List FlowWord → Bool
is_wait_not_alone dialect words =
    waits_there dialect words && nat_lt 1 (length (words_of (codes "ABCDEFGHIJKLMNOQRSTUVWXYZ") words))

-- The number of P names both paths, by bits or by digits.
abbrev pub is_both : Bool → Option ℕ → Bool
is_both bits None = false
is_both bits (Some n) = names_both bits n

-- 58: the P of a wait is computed, or the last one does not name both paths.
abbrev pub is_wait_of_others : Dialect → List FlowWord → Bool
is_wait_of_others dialect words =
    waits_there dialect words && has (codes "P") words
    && (has_computed (codes "P") words || not (is_both dialect.bits (natural_number (last_whole (codes "P") words))))

-- 59: more than one M word outside a macro call.
abbrev pub has_two_m : System → List FlowWord → Bool
has_two_m system words = not (gives system is_macro_call words) && nat_lt 1 (length (words_of (codes "M") words))

-- The letter is above the one before it, if there is one.
abbrev pub is_above : Option ℕ → ℕ → Bool
is_above None letter = true
is_above (Some before) letter = nat_lt before letter

-- Each of these letters is above the one before it, and the first is above the given one.
abbrev pub rises_behind : Option ℕ → List ℕ → Bool
rises_behind before [] = true
rises_behind before (letter ∷ letters) = is_above before letter && rises_behind (Some letter) letters

-- I, J and K of a macro call stand in the order of the alphabet, each at most once.
abbrev pub are_in_order : List FlowWord → Bool
are_in_order words = rises_behind None (map (λ word. word.letter) (words_of (codes "IJK") words))

-- The number is 10,000 or more, so as a P it has repeats before the program's four digits.
abbrev pub is_many : Option ℕ → Bool
is_many None = false
is_many (Some n) = nat_le 10000 n

-- The P of a call of a subprogram has repeats before the program's four digits.
abbrev pub has_repeats : List FlowWord → Bool
has_repeats words = is_many (natural_number (last_whole (codes "P") words))

-- A dwell or the setting of an offset beside a call or a return.
abbrev pub is_crowded_call : System → List FlowWord → Bool
is_crowded_call system words =
    (has_code 98 words || has_code 99 words) && (gives system is_dwell words || gives system is_setting words)

-- 61 of a block that calls a macro: it lacks P, or its I, J and K are out of order.
abbrev pub is_bad_macro_call : List FlowWord → Bool
is_bad_macro_call words = not (has (codes "P") words) || not (are_in_order words)

-- 61 of a call of a subprogram: it lacks P, or has its repeats twice, in P and by L.
abbrev pub is_bad_subprogram : List FlowWord → Bool
is_bad_subprogram words = not (has (codes "P") words) || (has_repeats words && has (codes "L") words)

-- The block calls a subprogram.
abbrev pub is_subprogram : Purpose → Bool
is_subprogram Subprogram = true
is_subprogram _ = false

-- 61 outside macro calls: a bad call of a subprogram, a crowded call or return, or a P or L without
-- a meaning.
abbrev pub is_bad_block : System → Purpose → List FlowWord → Bool
is_bad_block system purpose words =
    ((is_subprogram purpose && is_bad_subprogram words) || is_crowded_call system words)
    || ((has (codes "P") words && is_idle_p purpose) || (has (codes "L") words && is_idle_l purpose))

-- 61: a call without its program or with words that don't fit together; P or L where they have no
-- meaning.
abbrev pub is_bad_call : Dialect → List FlowWord → Bool
is_bad_call dialect words =
    if gives dialect.system is_macro_call words then is_bad_macro_call words
    else is_bad_block dialect.system (purpose_of dialect words) words

-- 62: an absolute and an incremental word of one axis outside a macro call.
abbrev pub has_axis_twice : System → List FlowWord → Bool
has_axis_twice system words =
    not (gives system is_macro_call words)
    && ((has (codes "X") words && has (codes "U") words) || (has (codes "Z") words && has (codes "W") words))

-- 64: a word that is written out is out of its range.
abbrev pub is_out_of_range : Dialect → List FlowWord → Bool
is_out_of_range dialect words = list_any (λ word. not (is_in_range (purpose_of dialect words) word)) words

-- The refusal holds of the block, whatever other refusals do.
pub data Refuses (dialect : Dialect) (words : List FlowWord) : Cause → Type 0 where
  -- 54 holds.
  not_fixed : is_not_fixed dialect words ≡ true → Refuses dialect words NotFixed
  -- 56 holds.
  unknown : is_unknown dialect.system words ≡ true → Refuses dialect words UnknownCode
  -- 57 holds.
  not_alone : is_wait_not_alone dialect words ≡ true → Refuses dialect words WaitNotAlone
  -- 58 holds.
  others : is_wait_of_others dialect words ≡ true → Refuses dialect words WaitPaths
  -- 59 holds.
  two_m : has_two_m dialect.system words ≡ true → Refuses dialect words TwoM
  -- 61 holds.
  bad_call : is_bad_call dialect words ≡ true → Refuses dialect words BadCall
  -- 62 holds.
  axis_twice : has_axis_twice dialect.system words ≡ true → Refuses dialect words AxisTwice
  -- 64 holds.
  out_of_range : is_out_of_range dialect words ≡ true → Refuses dialect words WordRange

-- The refusal that is answered, if one holds: of several the one of the least number, so the tests
-- stand in that order.
abbrev pub refusal_of : Dialect → List FlowWord → Option Cause
refusal_of dialect words =
    if is_not_fixed dialect words then Some NotFixed
    else if is_unknown dialect.system words then Some UnknownCode
    else if is_wait_not_alone dialect words then Some WaitNotAlone
    else if is_wait_of_others dialect words then Some WaitPaths
    else if has_two_m dialect.system words then Some TwoM
    else if is_bad_call dialect words then Some BadCall
    else if has_axis_twice dialect.system words then Some AxisTwice
    else if is_out_of_range dialect words then Some WordRange
    else None

-- The refusal holds of the block, and no other of a smaller number does.
pub record IsLeast (dialect : Dialect) (words : List FlowWord) (cause : Cause) : Type 0 where
  -- The refusal holds of the block.
  pub holds : Refuses dialect words cause
  -- Each refusal that holds has this number or a greater one.
  pub least : (other : Cause) → Refuses dialect words other → cause_number cause ≤ cause_number other
