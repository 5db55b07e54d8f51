-- What contracts see of the body of a block that was read: its form, its control and its call.
use Rattle.std.specs.Prelude.{Option, Some, None}
use Rattle.nc_number.specs.declared.cause.Cause.{Cause}
use Rattle.macro_expr.specs.Tree.{sentence_of}
use Rattle.block_order.specs.declared.control.Control.{Control}
use Rattle.block_order.specs.declared.control.Control.TheVariants.{Call}
use Rattle.block_words.specs.declared.purpose.Purpose.{Purpose}
use Rattle.block_words.specs.declared.purpose.Purpose.TheVariants as purpose
use Rattle.block_forms.specs.declared.called.Called.{Called}
use Rattle.block_forms.specs.declared.called.CallKind.{CallKind}
use Rattle.block_forms.specs.declared.called.CallKind.TheVariants.{Subprogram, Macro}
use Rattle.block_forms.specs.declared.body.FlowBody.{FlowBody}
use Rattle.block_forms.specs.declared.body.FlowBody.TheVariants.{Words, Statement}
use Rattle.block_forms.specs.Refusals.{refusal_of}
use Rattle.block_forms.specs.Controls.{control_of_words, control_of_sentence}
use Rattle.block_forms.specs.Forms.{Form, OfWords, OfSentence}

-- What stands in a block, as its words or the tree of its statement.
abbrev pub form_of : FlowBody → Form
form_of (Words words) = OfWords words.dialect words.words
form_of (Statement statement) = OfSentence (sentence_of statement.statement)

-- Why a block of this body would be refused; a statement that has a tree is not.
abbrev pub refusal_of_body : FlowBody → Option Cause
refusal_of_body (Words words) = refusal_of words.dialect words.words
refusal_of_body (Statement statement) = None

-- What a block of this body does to the order of blocks.
abbrev pub control_of : FlowBody → Control
control_of (Words words) = control_of_words words.dialect words.words
control_of (Statement statement) = control_of_sentence (sentence_of statement.statement)

-- How a block of this purpose calls: by G65, a macro, or by M98, a subprogram. It is asked of
-- blocks that call; other purposes stand with the subprogram.
abbrev pub kind_of_call : Purpose → CallKind
kind_of_call purpose.MacroCall = Macro
kind_of_call _ = Subprogram

-- The call that a control is, of this kind; other controls are none.
abbrev pub called_by : CallKind → Control → Option Called
called_by kind (Call program repeats) = Some (record { program = program; repeats = repeats; kind = kind })
called_by kind _ = None

-- The call that a block makes; a statement makes none.
abbrev pub call_of : FlowBody → Control → Option Called
call_of (Words words) control = called_by (kind_of_call words.purpose) control
call_of (Statement statement) control = None
