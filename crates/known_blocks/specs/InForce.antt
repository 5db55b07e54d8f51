-- Which codes, which feed and which tool are known to be in force behind a block, and whether the zero
-- from which X and Z count may have changed. src/codes.rt computes it.
use Rattle.std.specs.Prelude.{ℕ, Bool, true, false, List, Option, Some, None}
use Rattle.std.specs.Option.{option_map_or}
use Rattle.nc_number.specs.declared.value.Var.{Var}
use Rattle.nc_number.specs.declared.value.Var.TheVariants.{Vacant, Is}
use Rattle.code_tables.specs.declared.kind.CodeKind.{CodeKind}
use Rattle.code_tables.specs.declared.group.TheConstants.{MOTION_GROUP, ABSOLUTE_GROUP, FEED_GROUP, WORK_GROUP}
use Rattle.code_tables.specs.declared.row.Row.{Row}
use Rattle.code_tables.specs.Codes.{last_of_group}
use Rattle.modal_state.specs.Modal.{is_incremental, is_per_rev}
use Rattle.known_blocks.specs.declared.heard.Heard.{Heard}
use Rattle.known_blocks.specs.declared.known.Known.{Known}

-- what the codes of a group do behind these rows
abbrev pub known_code : {A : Type 0} → (CodeKind → A) → List Row → ℕ → Option A → Option A
known_code does rows group before = option_map_or (λ row. Some (does row.kind)) (last_of_group rows group) before

-- F behind a block that says this of it, if it is known
abbrev pub feed_after : Var → Option Var → Option Var
feed_after Vacant before = before
feed_after (Is value) before = Some (Is value)

-- F behind a block, of which a word may be calculated
abbrev pub known_feed : Option Var → Option Var → Option Var
known_feed None before = None
known_feed (Some said) before = feed_after said before

-- T behind a block
abbrev pub known_tool : Option (Option ℕ) → Option ℕ → Option ℕ
known_tool None before = None
known_tool (Some None) before = before
known_tool (Some (Some tool)) before = Some tool

-- what is known behind the codes, F and T of a block; of X and Z as before
abbrev pub known_in_force : List Row → Heard → Known → Known
known_in_force rows heard known = record known {
  motion = known_code (λ kind. kind) rows MOTION_GROUP known.motion;
  incremental = known_code is_incremental rows ABSOLUTE_GROUP known.incremental;
  per_rev = known_code is_per_rev rows FEED_GROUP known.per_rev;
  feed = known_feed heard.feed known.feed;
  tool = known_tool heard.tool known.tool;
}

-- where X and Z are counted from may change: a work offset or a tool is called
abbrev pub is_shifted : Option Row → Option (Option ℕ) → Bool
is_shifted None (Some None) = false
is_shifted work tool = true

abbrev pub may_shift : List Row → Heard → Bool
may_shift rows heard = is_shifted (last_of_group rows WORK_GROUP) heard.tool
