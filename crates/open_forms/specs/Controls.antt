-- The control of a block, read for its control alone: the definition that `open_control` answers.
-- The full reading's control is in block_forms.
use Rattle.std.specs.Prelude.{ℕ, List, Option, Some, None, Result, Ok, Err, codes}
use Rattle.nc_number.specs.declared.cause.Cause.{Cause}
use Rattle.nc_number.specs.Causes.{cause_number}
use Rattle.line_text.specs.declared.body.Word.{Word}
use Rattle.line_text.specs.declared.body.Body.{Body}
use Rattle.line_text.specs.declared.body.Body.TheVariants.{Words, Statement}
use Rattle.block_order.specs.declared.control.Control.{Control}
use Rattle.block_order.specs.declared.control.Control.TheVariants as control
use Rattle.block_words.specs.declared.dialect.Dialect.{Dialect}
use Rattle.block_forms.specs.declared.fault.FormFault.{FormFault}
use Rattle.block_words.specs.Codes.{first_waiting}
use Rattle.block_forms.specs.Controls.{or_number, call_of_p, back_to, wait_at}
use Rattle.open_forms.specs.Words.{last_number}
use Rattle.open_forms.specs.declared.role.Role.{Role}
use Rattle.open_forms.specs.declared.role.Role.TheVariants.{MacroCall, Subprogram, Return, Wait, End, Roughing, Finishing, Other}
use Rattle.open_forms.specs.Codes.{m_codes, role_of}
use Rattle.open_forms.specs.Refusals.{refusal_of}
use Rattle.open_forms.specs.Statements.{control_of_statement}

-- The repeats of a call: L, or once.
abbrev pub repeats_of : List Word → ℕ
repeats_of words = or_number 1 (last_number (codes "L") words)

-- What a block of this role does to the order of blocks; one without a role goes on to the next. A
-- roughing cycle counts as a jump to the last block of its contour, which Q names. A jump may be
-- made or not, so the path may go on with the next block or with that one.
abbrev pub control_by : Role → Dialect → List Word → Control
control_by MacroCall dialect words = control.Call (or_number 0 (last_number (codes "P") words)) (repeats_of words)
control_by Subprogram dialect words = call_of_p (or_number 0 (last_number (codes "P") words)) (repeats_of words)
control_by Return dialect words = back_to (last_number (codes "P") words)
control_by Wait dialect words = wait_at (first_waiting dialect (m_codes words))
control_by End dialect words = control.End
control_by Roughing dialect words = control.Goto (last_number (codes "Q") words)
control_by Finishing dialect words = control.Next
control_by Other dialect words = control.Next

-- This control, or the refusal that holds.
abbrev pub with_refusal : Option Cause → Control → Result Control Cause
with_refusal None c = Ok c
with_refusal (Some cause) c = Err cause

-- What a block of words does to the order of blocks, or the least refusal that holds of it.
abbrev pub control_of_words : Dialect → List Word → Result Control Cause
control_of_words dialect words = with_refusal (refusal_of dialect words) (control_by (role_of dialect words) dialect words)

-- What a block does to the order of blocks, or the least refusal that holds of it.
abbrev pub open_control : Dialect → Body → Result Control Cause
open_control dialect (Words words) = control_of_words dialect words
open_control dialect (Statement text) = control_of_statement text

-- The control, or the refusal by its number.
abbrev pub control_or_number : Result Control Cause → Result Control FormFault
control_or_number (Ok control) = Ok control
control_or_number (Err cause) = Err (record { number = cause_number cause })
