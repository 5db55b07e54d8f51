-- The G and M codes of a block, and what they make of P and L.
use Rattle.std.specs.Prelude.{ℕ, Bool, true, false, ◌==◌, ◌&&◌, nat_le, List, [], ◌∷◌, Option, Some, None, ℤ, pos, negsuc, codes, find, if◌then◌else◌}
use Rattle.std.specs.List.{list_any, filter_map}
use Rattle.code_tables.specs.declared.row.Row.{Row}
use Rattle.code_tables.specs.declared.kind.CodeKind.{CodeKind}
use Rattle.code_tables.specs.declared.kind.CodeKind.TheVariants.{Dwell, Setting, Limit, Machine, MacroCall}
use Rattle.code_tables.specs.declared.group.TheConstants.{ONE_SHOT_GROUP}
use Rattle.code_tables.specs.Codes.{row_of, last_of_group}
use Rattle.code_tables.specs.declared.system.System.{System}
use Rattle.code_tables.specs.Systems.{rows_of_system}
use Rattle.block_words.specs.declared.word.FlowWord.{FlowWord}
use Rattle.block_words.specs.declared.dialect.Dialect.{Dialect}
use Rattle.block_words.specs.declared.purpose.Purpose.{Purpose}
use Rattle.block_words.specs.declared.purpose.Purpose.TheVariants as purpose
use Rattle.block_words.specs.Words.{words_of, whole_value}

-- The number, if there is one and it is not below 0.
abbrev pub natural_number : Option ℤ → Option ℕ
natural_number None = None
natural_number (Some (pos n)) = Some n
natural_number (Some (negsuc n)) = None

-- The row of a G code in the table of the system, if it has the code.
abbrev pub row_of_number : System → Option ℕ → Option Row
row_of_number system None = None
row_of_number system (Some code) = row_of (rows_of_system system) code

-- The row of a G word that is written out as a whole number, if the system has it.
abbrev pub row_of_word : System → FlowWord → Option Row
row_of_word system word = row_of_number system (natural_number (whole_value word.value))

-- The rows of the block's G words, in their order. A word that has none is left out.
abbrev pub rows : System → List FlowWord → List Row
rows system words = filter_map (row_of_word system) (words_of (codes "G") words)

-- The block has a G code of that kind.
abbrev pub gives : System → (CodeKind → Bool) → List FlowWord → Bool
gives system is_kind words = list_any (λ row. is_kind row.kind) (rows system words)

-- The code is a dwell, G04.
abbrev pub is_dwell : CodeKind → Bool
is_dwell Dwell = true
is_dwell other = false

-- The code sets an offset, G10.
abbrev pub is_setting : CodeKind → Bool
is_setting Setting = true
is_setting other = false

-- The code limits the spindle's speed: G50 of system A, G92 of system B.
abbrev pub is_limit : CodeKind → Bool
is_limit Limit = true
is_limit other = false

-- The code makes the block's positions machine coordinates, G53.
abbrev pub is_machine : CodeKind → Bool
is_machine Machine = true
is_machine other = false

-- The code calls a macro, G65.
abbrev pub is_macro_call : CodeKind → Bool
is_macro_call MacroCall = true
is_macro_call other = false

-- The kind of the row, if there is one.
abbrev pub kind_of : Option Row → Option CodeKind
kind_of None = None
kind_of (Some row) = Some row.kind

-- The kind of the one-shot code that is in force: the last one of the block.
abbrev pub one_shot : System → List FlowWord → Option CodeKind
one_shot system words = kind_of (last_of_group (rows system words) ONE_SHOT_GROUP)

-- The whole numbers from 0 on that the block's M words write out, in their order.
abbrev pub m_codes : List FlowWord → List ℕ
m_codes words = filter_map (λ word. natural_number (whole_value word.value)) (words_of (codes "M") words)

-- The first of the codes, if there is one.
abbrev pub first : List ℕ → Option ℕ
first [] = None
first (code ∷ codes) = Some code

-- The M code of the block: the first one, and in a block that is not refused the only one outside a
-- macro call.
abbrev pub m_code : List FlowWord → Option ℕ
m_code words = first (m_codes words)

-- The M code waits for the other path: it lies in the range of the settings.
abbrev pub is_waiting : Dialect → ℕ → Bool
is_waiting dialect code = nat_le dialect.low code && nat_le code dialect.high

-- The block has an M word of this code.
abbrev pub has_code : ℕ → List FlowWord → Bool
has_code code words = list_any (λ own. own == code) (m_codes words)

-- The first of these codes that waits.
abbrev pub first_waiting : Dialect → List ℕ → Option ℕ
first_waiting dialect codes = find (is_waiting dialect) codes

-- The block has a waiting M code.
abbrev pub has_wait : Dialect → List FlowWord → Bool
has_wait dialect words = list_any (is_waiting dialect) (m_codes words)

-- What the one-shot code in force makes of P and L.
abbrev pub purpose_by : Option CodeKind → Purpose
purpose_by (Some Dwell) = purpose.Dwell
purpose_by (Some Setting) = purpose.Setting
purpose_by other = purpose.Other

-- What decides the meaning of P and L: the first that the block has of a macro call, a call of a
-- subprogram, a return and a wait; else the one-shot code in force.
abbrev pub purpose_of : Dialect → List FlowWord → Purpose
purpose_of dialect words =
    if gives dialect.system is_macro_call words then purpose.MacroCall
    else if has_code 98 words then purpose.Subprogram
    else if has_code 99 words then purpose.Return
    else if has_wait dialect words then purpose.Wait
    else purpose_by (one_shot dialect.system words)

-- The purpose is that of a macro call, in which M is an argument.
abbrev pub is_macro : Purpose → Bool
is_macro purpose.MacroCall = true
is_macro _ = false
