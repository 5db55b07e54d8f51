-- Which modal state is in force behind the codes and words of a block.
use Rattle.std.specs.Prelude.{ℕ, Bool, true, false, List, Option, Some, None, Result, Ok, Err}
use Rattle.std.specs.List.{list_any}
use Rattle.nc_number.specs.declared.value.Var.{Var}
use Rattle.code_tables.specs.declared.row.Row.{Row}
use Rattle.code_tables.specs.declared.system.System.{System}
use Rattle.modal_state.specs.declared.fault.ModalFault.{ModalFault}
use Rattle.modal_state.specs.declared.words.ModalWords.{ModalWords}
use Rattle.modal_state.specs.declared.words.SpeedWord.{SpeedWord}
use Rattle.modal_state.specs.declared.words.SpeedWord.TheVariants.{Speed, Limit}
use Rattle.modal_state.specs.View.{ModalView}
use Rattle.modal_state.specs.Modal.{with_codes}
use Rattle.modal_state.specs.Words.{with_words, tool_fault}
use Rattle.block_words.specs.declared.word.FlowWord.{FlowWord}
use Rattle.block_words.specs.Codes.{rows, gives, is_limit}
use Rattle.block_values.specs.Values.{Values, nothing_said}

-- what S of a block says: beside G50 (true) the highest speed, else the speed
abbrev pub speed_word : Bool → Var → SpeedWord
speed_word true s = Limit s
speed_word false s = Speed s

-- F, S and T of a block, as the modal state takes them; `limits`: G50 stands in the block
abbrev pub modal_words : Bool → Values → ModalWords
modal_words limits values = record { feed = values.feed; speed = speed_word limits values.speed; tool = values.tool }

-- the modal state if there is no fault, else the number of its alarm
abbrev pub unless_fault : Option ModalFault → ModalView → Result ModalView ℕ
unless_fault None modal = Ok modal
unless_fault (Some fault) modal = Err fault.number

-- the modal state behind a block: its G codes set their groups, then F, S and T are taken. Alarm 40
-- if T names a tool offset that does not exist.
abbrev pub modal_after : ModalView → System → List FlowWord → Values → Result ModalView ℕ
modal_after modal system words values =
    unless_fault (tool_fault values.tool)
    (with_words (with_codes modal (rows system words)) (modal_words (gives system is_limit words) values))

-- words that say F, S and T and nothing else
abbrev pub settings_said : Var → Var → Option ℕ → Values
settings_said feed speed tool = record nothing_said { feed = feed; speed = speed; tool = tool }

-- G50 is among these rows
abbrev pub has_limit : List Row → Bool
has_limit rows = list_any (λ row. is_limit row.kind) rows

-- the modal state behind a block whose G codes have these rows; `modal_after` is this with the rows
-- of its words
abbrev pub modal_of_rows : ModalView → List Row → Values → Result ModalView ℕ
modal_of_rows modal rows values =
    unless_fault (tool_fault values.tool) (with_words (with_codes modal rows) (modal_words (has_limit rows) values))
