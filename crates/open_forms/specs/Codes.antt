-- The codes on which the control of a block hangs, and what they make the block. A G code counts by
-- its millionths, so that G10.1 is another code than G10.
use Rattle.std.specs.Prelude.{ℕ, Bool, true, false, not, ◌==◌, ◌&&◌, ◌||◌, nat_lt, nat_le, List, ℤ, pos, negsuc, codes, if◌then◌else◌}
use Rattle.std.specs.List.{list_any, filter_map}
use Rattle.line_text.specs.declared.body.Word.{Word}
use Rattle.block_words.specs.declared.dialect.Dialect.{Dialect}
use Rattle.block_words.specs.Codes.{is_waiting}
use Rattle.open_forms.specs.declared.role.Role.{Role}
use Rattle.open_forms.specs.declared.role.Role.TheVariants.{MacroCall, Subprogram, Return, Wait, End, Roughing, Finishing, Other}
use Rattle.open_forms.specs.Words.{words_of, has, written_micro, numbers_of}

-- The G codes that are written out with not too many digits, in millionths.
abbrev pub g_values : List Word → List ℤ
g_values words = filter_map written_micro (words_of (codes "G") words)

-- The number is this one, in millionths.
abbrev pub is_g : ℕ → ℤ → Bool
is_g micro (pos n) = n == micro
is_g micro (negsuc n) = false

-- The block has a G word of so many millionths.
abbrev pub has_g : ℕ → List Word → Bool
has_g micro words = list_any (is_g micro) (g_values words)

-- The G code, in millionths, may call or wait. G66, G66.1 and all others between G65 and G67 are
-- taken for modal calls; at G68 and G69 both paths wait; the codes from G72.1 to G72.2 are copies
-- that call a program.
abbrev pub leads_elsewhere : ℕ → Bool
leads_elsewhere n =
    (nat_lt 65000000 n && nat_lt n 67000000)
    || ((n == 68000000 || n == 69000000) || (nat_le 72100000 n && nat_le n 72200000))

-- The G code, in millionths, may call or wait, or is below 0.
abbrev pub is_refused_g : ℤ → Bool
is_refused_g (pos n) = leads_elsewhere n
is_refused_g (negsuc n) = true

-- The M codes that are written out.
abbrev pub m_codes : List Word → List ℕ
m_codes words = numbers_of (codes "M") words

-- The block has an M word of this code.
abbrev pub has_m : ℕ → List Word → Bool
has_m code words = list_any (λ own. own == code) (m_codes words)

-- The block has a waiting M code.
abbrev pub has_wait : Dialect → List Word → Bool
has_wait dialect words = list_any (is_waiting dialect) (m_codes words)

-- The M code is no wait of the settings, and an interrupt, M96 or M97, or the call of a program of
-- another memory, M198.
abbrev pub is_refused_m : Dialect → ℕ → Bool
is_refused_m dialect code = not (is_waiting dialect code) && ((code == 96 || code == 97) || code == 198)

-- The M code is an end (M02, M30), a call (M98) or a return (M99), beside which no other M code may
-- stand.
abbrev pub is_lone_m : ℕ → Bool
is_lone_m code = (code == 2 || code == 30) || (code == 98 || code == 99)

-- The block has G65 (65,000,000 millionths).
abbrev pub is_macro : List Word → Bool
is_macro words = has_g 65000000 words

-- The block has G71, G72 or G73.
abbrev pub is_roughing : List Word → Bool
is_roughing words = has_g 71000000 words || (has_g 72000000 words || has_g 73000000 words)

-- The block has G70.
abbrev pub is_finishing : List Word → Bool
is_finishing words = has_g 70000000 words

-- The block has a P or a Q, which in a cycle name its contour; the first block of a cycle says
-- depths alone.
abbrev pub has_contour : List Word → Bool
has_contour words = has (codes "PQ") words

-- The role of a block that neither calls, returns, waits nor ends: a cycle along a contour, or
-- none.
abbrev pub cycle_of : List Word → Role
cycle_of words =
    if is_finishing words then Finishing
    else if is_roughing words && has_contour words then Roughing
    else Other

-- What a block is there for: the first of these that applies, which decides where it leads.
abbrev pub role_of : Dialect → List Word → Role
role_of dialect words =
    if is_macro words then MacroCall
    else if has_m 98 words then Subprogram
    else if has_m 99 words then Return
    else if has_wait dialect words then Wait
    else if has_m 2 words || has_m 30 words then End
    else cycle_of words
