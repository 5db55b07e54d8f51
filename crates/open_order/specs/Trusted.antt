-- What is taken on trust when a tape is read for its waits: G codes that this control does not run
-- and M codes that only the machine knows, which are taken to go on to the next block, and calls of
-- programs that the tape lacks. `waits` prints it in its line `goes on`.
use Rattle.std.specs.Prelude.{ℕ, Bool, true, false, not, ◌==◌, ◌&&◌, ◌||◌, nat_le, List, [], ◌∷◌, Option, Some, None, ℤ, pos, negsuc, Result, Ok, Err, if◌then◌else◌}
use Rattle.std.specs.Ordering.{nat_cmp}
use Rattle.std.specs.BTreeSet.{insert_key}
use Rattle.line_text.specs.declared.body.Word.{Word}
use Rattle.nc_text.specs.declared.tape.Block.{Block}
use Rattle.line_text.specs.declared.body.Body.{Body}
use Rattle.line_text.specs.declared.body.Body.TheVariants.{Words, Statement}
use Rattle.nc_text.specs.declared.tape.Program.{Program}
use Rattle.code_tables.specs.declared.row.Row.{Row}
use Rattle.code_tables.specs.Kinds.{is_refused}
use Rattle.block_order.specs.declared.control.Control.{Control}
use Rattle.block_order.specs.declared.control.Control.TheVariants.{Call}
use Rattle.block_forms.specs.declared.fault.FormFault.{FormFault}
use Rattle.block_words.specs.declared.dialect.Dialect.{Dialect}
use Rattle.block_words.specs.Codes.{row_of_number, is_waiting}
use Rattle.open_forms.specs.Words.{written_micro, whole_of_word}
use Rattle.open_forms.specs.Controls.{open_control, control_or_number}
use Rattle.open_order.specs.declared.premises.Premises.{Premises}
use Rattle.open_order.specs.Contours.{has_code, is_macro_code}
use Rattle.open_order.specs.Reading.{Basis, gone_from}
use Rattle.open_order.specs.declared.code.Code.{Code}
use Rattle.open_order.specs.declared.hanging.Hanging.{Hanging}
use Rattle.open_order.specs.declared.code.Code.TheVariants.{Geometry, Auxiliary, Subprogram}

-- what is taken on trust, each number once and in rising order
pub record TrustView : Type 0 where
  -- G codes, by their millionths
  pub geometry : List ℕ
  -- M codes
  pub auxiliary : List ℕ
  -- O numbers of programs that are called and that the tapes lack
  pub programs : List ℕ
  -- block-skip switches that change the waits or the end of a path
  pub switches : List Hanging

-- nothing is taken on trust
abbrev pub no_trust : TrustView
no_trust = record { geometry = []; auxiliary = []; programs = []; switches = [] }

-- whether the list is empty
abbrev pub is_none : List ℕ → Bool
is_none [] = true
is_none (x ∷ xs) = false

-- whether no code and no program is taken on trust
abbrev pub is_nothing : TrustView → Bool
is_nothing trust = (is_none trust.geometry && is_none trust.auxiliary) && is_none trust.programs

-- what is taken on trust, with this code besides, if there is one
abbrev pub with_code : TrustView → Option Code → TrustView
with_code trust None = trust
with_code trust (Some (Geometry micro)) = record trust { geometry = insert_key nat_cmp trust.geometry micro }
with_code trust (Some (Auxiliary code)) = record trust { auxiliary = insert_key nat_cmp trust.auxiliary code }
with_code trust (Some (Subprogram whole_of_word)) = record trust { programs = insert_key nat_cmp trust.programs whole_of_word }

-- whether an M code is one of M00 to M05, M08, M09, M30, M98 and M99: stops, ends, the spindle,
-- coolant, and calls. They mean the same on every machine, so they need no trust.
abbrev pub is_standard_m : ℕ → Bool
is_standard_m code = (nat_le code 5 || (code == 8 || code == 9)) || (code == 30 || (code == 98 || code == 99))

-- whether the row of a code is there and is one that this control does not refuse
abbrev pub is_own_row : Option Row → Bool
is_own_row None = false
is_own_row (Some row) = not (is_refused row.kind)

-- the G code of so many millionths, if they are not below 0
abbrev pub geometry_code : Option ℤ → Option Code
geometry_code None = None
geometry_code (Some (pos micro)) = Some (Geometry micro)
geometry_code (Some (negsuc n)) = None

-- the M code as one that is taken on trust, unless it is a wait or a standard one
abbrev pub auxiliary_code : Dialect → Option ℕ → Option Code
auxiliary_code dialect None = None
auxiliary_code dialect (Some code) =
    if is_waiting dialect code || is_standard_m code then None else Some (Auxiliary code)

-- what a word takes on trust, if anything: a G code (letter 71) that this control does not run in
-- the system of the tape, or an M code (letter 77) that is no wait and no standard one
abbrev pub word_code : Dialect → Word → Option Code
word_code dialect word =
    if word.letter == 71 then (if is_own_row (row_of_number dialect.system (whole_of_word word)) then None else geometry_code (written_micro word))
    else if word.letter == 77 then auxiliary_code dialect (whole_of_word word)
    else None

-- what is taken on trust, with the codes of these words besides
abbrev pub with_words : Dialect → TrustView → List Word → TrustView
with_words dialect trust [] = trust
with_words dialect trust (word ∷ words) = with_words dialect (with_code trust (word_code dialect word)) words

-- what is taken on trust, with the codes of a block's words besides; a macro call and a statement
-- have none
abbrev pub with_body : Dialect → TrustView → Body → TrustView
with_body dialect trust (Words words) = if has_code is_macro_code words then trust else with_words dialect trust words
with_body dialect trust (Statement text) = trust

-- the program of a call, if the tape lacks it
abbrev pub gone_call : (ℕ → Bool) → Control → Option Code
gone_call gone (Call program repeats) = if gone program then Some (Subprogram program) else None
gone_call gone other = None

-- the program that a block calls, if it is not refused and the tape lacks the program
abbrev pub called_outside : (ℕ → Bool) → Result Control FormFault → Option Code
called_outside gone (Ok control) = gone_call gone control
called_outside gone (Err fault) = None

-- what is taken on trust, with the codes of a block besides, and the program that it calls if the
-- tape lacks it
abbrev pub with_block : Basis → TrustView → Block → TrustView
with_block basis trust block =
    with_code (with_body basis.premises.dialect trust block.body)
    (called_outside (gone_from basis) (control_or_number (open_control basis.premises.dialect block.body)))

-- what is taken on trust, with what these blocks take besides
abbrev pub with_blocks : Basis → TrustView → List Block → TrustView
with_blocks basis trust [] = trust
with_blocks basis trust (block ∷ blocks) = with_blocks basis (with_block basis trust block) blocks

-- what is taken on trust, with what the blocks of these programs take besides
abbrev pub with_programs : Basis → TrustView → List Program → TrustView
with_programs basis trust [] = trust
with_programs basis trust (program ∷ programs) = with_programs basis (with_blocks basis trust program.blocks) programs

-- what is taken on trust, with what a tape takes besides
abbrev pub with_tape : Premises → TrustView → List Program → TrustView
with_tape premises trust tape = with_programs (record { premises = premises; tape = tape }) trust tape
