-- What the F, S and T words of a block leave in force.
use Rattle.std.specs.Prelude.{ℕ, Bool, true, nat_le, if◌then◌else◌, Option, Some, None, unwrap_or}
use Rattle.std.specs.Option.{option_map_or}
use Rattle.nc_number.specs.declared.value.Var.{Var}
use Rattle.nc_number.specs.declared.point.TheConstants.{TOOL_OFFSETS}
use Rattle.nc_number.specs.declared.cause.Cause.TheVariants.{OffsetNumber}
use Rattle.modal_state.specs.declared.fault.ModalFault.{ModalFault}
use Rattle.modal_state.specs.declared.words.ModalWords.{ModalWords}
use Rattle.modal_state.specs.declared.words.SpeedWord.{SpeedWord}
use Rattle.modal_state.specs.declared.words.SpeedWord.TheVariants.{Speed, Limit}
use Rattle.modal_state.specs.Faults.{fault}
use Rattle.modal_state.specs.Said.{said_or, tool_offset}
use Rattle.modal_state.specs.View.{ModalView}

-- the speed after a block: S sets it, but not beside G50, or G92 of system B
abbrev pub speed_after : SpeedWord → Var → Var
speed_after (Speed s) before = said_or s before
speed_after (Limit s) before = before

-- the highest speed after a block: S beside G50, or G92 of system B, sets it, and nothing else
abbrev pub limit_after : SpeedWord → Var → Var
limit_after (Speed s) before = before
limit_after (Limit s) before = said_or s before

-- there is no T word, or its tool offset is one of 0 to 64
abbrev pub has_tool_offset : Option ℕ → Bool
has_tool_offset tool = option_map_or (λ t. nat_le (tool_offset t) TOOL_OFFSETS) tool true

-- the modal state after F, S and T of a block were taken
abbrev pub with_words : ModalView → ModalWords → ModalView
with_words before words = record before {
  feed = said_or words.feed before.feed;
  speed = speed_after words.speed before.speed;
  limit = limit_after words.speed before.limit;
  tool = unwrap_or words.tool before.tool;
  offset = option_map_or tool_offset words.tool before.offset;
}

-- alarm 40 (OffsetNumber) where the tool offset of T does not exist, else none
abbrev pub tool_fault : Option ℕ → Option ModalFault
tool_fault tool = if has_tool_offset tool then None else Some (fault OffsetNumber)
