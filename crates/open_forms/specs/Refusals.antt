-- When a block of words is refused by the open reading, which reads it for its control alone: if
-- the control can't be told, or may be one that is not known here. Each refusal is a condition
-- apart from the others; `refusal_of` answers the least.
-- src/refusals.rt answers these. No other crate cites them, but what `open_control` answers rests
-- on them (Controls).
use Rattle.std.specs.Prelude.{ℕ, Bool, true, false, not, ◌==◌, ◌&&◌, ◌||◌, nat_lt, nat_le, List, [], ◌∷◌, length, Option, Some, None, codes, if◌then◌else◌}
use Rattle.std.specs.List.{list_any, list_all}
use Rattle.nc_number.specs.declared.limits.TheConstants.{LARGEST_WHOLE, LAST_SEQUENCE}
use Rattle.nc_number.specs.declared.cause.Cause.{Cause}
use Rattle.nc_number.specs.declared.cause.Cause.TheVariants.{TooManyDigits, NotFixed, UnknownCode, WaitNotAlone, WaitPaths, TwoM, BadCall, WordRange}
use Rattle.line_text.specs.declared.body.Word.{Word}
use Rattle.code_tables.specs.declared.row.Row.{Row}
use Rattle.code_tables.specs.declared.system.System.{System}
use Rattle.block_words.specs.declared.dialect.Dialect.{Dialect}
use Rattle.block_words.specs.Words.{is_one_of}
use Rattle.block_words.specs.Codes.{row_of_number, is_dwell, is_setting}
use Rattle.block_forms.specs.Refusals.{is_macro_row, is_both, is_many}
use Rattle.open_forms.specs.declared.role.Role.{Role}
use Rattle.open_forms.specs.declared.role.Role.TheVariants.{MacroCall, Subprogram, Return, Wait, End, Roughing, Finishing, Other}
use Rattle.open_forms.specs.Words.{words_of, has, has_computed, has_long, whole_of_word, last_number, numbers_of}
use Rattle.open_forms.specs.Codes.{g_values, has_g, is_refused_g, is_refused_m, is_lone_m, m_codes, has_wait, is_macro, cycle_of, role_of}

-- The letters whose words must be written out, by the block's role. A computed G or M may be any
-- code, and a computed N or O any number.
abbrev pub fixed_letters : Role → List ℕ
fixed_letters MacroCall = codes "GNOPL"
fixed_letters Subprogram = codes "GNOMPL"
fixed_letters Return = codes "GNOMPL"
fixed_letters Roughing = codes "GNOMPQ"
fixed_letters Finishing = codes "GNOMPQ"
fixed_letters Wait = codes "GNOM"
fixed_letters End = codes "GNOM"
fixed_letters Other = codes "GNOM"

-- 5: a word that must be written out has too many digits, or the L of G10 has, which may write
-- parameters.
abbrev pub is_long : Dialect → List Word → Bool
is_long dialect words =
    has_long (fixed_letters (role_of dialect words)) words || (has_g 10000000 words && has_long (codes "L") words)

-- 54: a word that must be written out is computed, or the L of G10 is, which may write parameters.
abbrev pub is_not_fixed : Dialect → List Word → Bool
is_not_fixed dialect words =
    has_computed (fixed_letters (role_of dialect words)) words || (has_g 10000000 words && has_computed (codes "L") words)

-- A G10 with this L writes parameters: L50 to L52.
abbrev pub is_parameter : ℕ → Bool
is_parameter n = nat_le 50 n && nat_le n 52

-- The block has G10 (10,000,000 millionths) and an L that writes parameters.
abbrev pub writes_parameters : List Word → Bool
writes_parameters words = has_g 10000000 words && list_any is_parameter (numbers_of (codes "L") words)

-- The row of the system's table for a G word that is written out, if it has one.
abbrev pub row_of_word : System → Word → Option Row
row_of_word system word = row_of_number system (whole_of_word word)

-- There is no row.
abbrev pub is_no_row : Option Row → Bool
is_no_row None = true
is_no_row (Some row) = false

-- Only G codes of the system, and letters that can't say more of a call, stand in the block, as
-- they may beside M98 and M99.
abbrev pub is_beside_a_call : System → List Word → Bool
is_beside_a_call system words =
    list_all (λ word. is_one_of (codes "XZUWIKRFSTNOMGPLABCEVY") word.letter) words
    && not (list_any (λ word. is_no_row (row_of_word system word)) (words_of (codes "G") words))

-- The first word is the G65, and no other is a G, N or O word.
abbrev pub begins_macro_call : System → List Word → Bool
begins_macro_call system [] = false
begins_macro_call system (word ∷ words) =
    (is_one_of (codes "G") word.letter && is_macro_row (row_of_word system word)) && not (has (codes "GNO") words)

-- 56 by the role: a macro call that does not begin with its G65; else a code that may lead
-- elsewhere, or an L that writes parameters.
abbrev pub is_unknown_by : Role → Dialect → List Word → Bool
is_unknown_by MacroCall dialect words = not (begins_macro_call dialect.system words)
is_unknown_by role dialect words =
    (list_any is_refused_g (g_values words) || list_any (is_refused_m dialect) (m_codes words)) || writes_parameters words

-- The P and Q of a block of this role name the lines of a contour.
abbrev pub is_contour : Role → Bool
is_contour Roughing = true
is_contour Finishing = true
is_contour role = false

-- 56 by the role too: beside a call or a return stand words that may say more of it, or a contour
-- beside an end.
abbrev pub is_crowded : Role → System → List Word → Bool
is_crowded Subprogram system words = not (is_beside_a_call system words)
is_crowded Return system words = not (is_beside_a_call system words)
is_crowded End system words = is_contour (cycle_of words)
is_crowded role system words = false

-- 56: a code that may lead elsewhere, or words that may say more of a call, by the block's role.
abbrev pub is_unknown : Dialect → List Word → Bool
is_unknown dialect words =
    is_unknown_by (role_of dialect words) dialect words || is_crowded (role_of dialect words) dialect.system words

-- The block waits for the other path. In a macro call it does not: there M is an argument.
abbrev pub waits_there : Dialect → List Word → Bool
waits_there dialect words = not (is_macro words) && has_wait dialect words

-- 57: a wait beside another word than P.
abbrev pub is_wait_not_alone : Dialect → List Word → Bool
is_wait_not_alone dialect words =
    waits_there dialect words && nat_lt 1 (length (words_of (codes "ABCDEFGHIJKLMNOQRSTUVWXYZ") words))

-- 58: the P of a wait is computed, or the last one does not name both paths.
abbrev pub is_wait_of_others : Dialect → List Word → Bool
is_wait_of_others dialect words =
    waits_there dialect words && has (codes "P") words
    && (has_computed (codes "P") words || not (is_both dialect.bits (last_number (codes "P") words)))

-- 59: an end, a call or a return beside another M word, outside a macro call.
abbrev pub has_two_m : List Word → Bool
has_two_m words =
    not (is_macro words) && nat_lt 1 (length (words_of (codes "M") words)) && list_any is_lone_m (m_codes words)

-- The row is that of a dwell or of the setting of an offset, which has a P of its own.
abbrev pub takes_p : Option Row → Bool
takes_p None = false
takes_p (Some row) = is_dwell row.kind || is_setting row.kind

-- A G word of the block takes the P as its own.
abbrev pub uses_p : System → List Word → Bool
uses_p system words = list_any (λ word. takes_p (row_of_word system word)) (words_of (codes "G") words)

-- The block has one P, one Q and one G word.
abbrev pub is_one_contour : List Word → Bool
is_one_contour words =
    (length (words_of (codes "P") words) == 1 && length (words_of (codes "Q") words) == 1)
    && length (words_of (codes "G") words) == 1

-- 61 by the role: a macro call without P; a call of a subprogram without P or with its repeats
-- twice; a return with L; a contour without one P, one Q and one G; or a G code beside a call or a
-- return that takes the P.
abbrev pub is_bad_call_by : Role → System → List Word → Bool
is_bad_call_by MacroCall system words = not (has (codes "P") words)
is_bad_call_by Subprogram system words =
    (not (has (codes "P") words) || uses_p system words)
    || (is_many (last_number (codes "P") words) && has (codes "L") words)
is_bad_call_by Return system words = has (codes "L") words || uses_p system words
is_bad_call_by Roughing system words = not (is_one_contour words)
is_bad_call_by Finishing system words = not (is_one_contour words)
is_bad_call_by role system words = false

-- 61: the call, the return or the contour of the block is a bad one.
abbrev pub is_bad_call : Dialect → List Word → Bool
is_bad_call dialect words = is_bad_call_by (role_of dialect words) dialect.system words

-- There is a number, and it lies from the least to the greatest, both included.
abbrev pub is_within : ℕ → ℕ → Option ℕ → Bool
is_within least greatest None = false
is_within least greatest (Some n) = nat_le least n && nat_le n greatest

-- The word writes a whole number from the least to the greatest.
abbrev pub is_in : ℕ → ℕ → Word → Bool
is_in least greatest word = is_within least greatest (whole_of_word word)

-- Each word of these letters writes a whole number from the least to the greatest.
abbrev pub are_in : ℕ → ℕ → List ℕ → List Word → Bool
are_in least greatest letters words = list_all (is_in least greatest) (words_of letters words)

-- The P, L and Q of a block of this role are in their range: those of a call, a return or a
-- contour.
abbrev pub is_in_range_by : Role → List Word → Bool
is_in_range_by MacroCall words = are_in 1 9999 (codes "PL") words
is_in_range_by Subprogram words = are_in 1 LARGEST_WHOLE (codes "P") words && are_in 1 9999 (codes "L") words
is_in_range_by Return words = are_in 1 LAST_SEQUENCE (codes "P") words
is_in_range_by Roughing words = are_in 1 LAST_SEQUENCE (codes "PQ") words
is_in_range_by Finishing words = are_in 1 LAST_SEQUENCE (codes "PQ") words
is_in_range_by role words = true

-- 64: the P, L or Q of the block is out of its range, or outside a macro call an M word writes no
-- whole number from 0 to 99,999,999.
abbrev pub is_out_of_range : Dialect → List Word → Bool
is_out_of_range dialect words =
    not (is_in_range_by (role_of dialect words) words)
    || (not (is_macro words) && not (are_in 0 LARGEST_WHOLE (codes "M") words))

-- The refusal that is answered, if one holds: of several the one of the least number, so the tests
-- stand in that order.
abbrev pub refusal_of : Dialect → List Word → Option Cause
refusal_of dialect words =
    if is_long dialect words then Some TooManyDigits
    else if is_not_fixed dialect words then Some NotFixed
    else if is_unknown dialect words then Some UnknownCode
    else if is_wait_not_alone dialect words then Some WaitNotAlone
    else if is_wait_of_others dialect words then Some WaitPaths
    else if has_two_m words then Some TwoM
    else if is_bad_call dialect words then Some BadCall
    else if is_out_of_range dialect words then Some WordRange
    else None
