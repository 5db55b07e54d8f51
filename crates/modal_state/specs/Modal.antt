-- What the G codes of a block leave in force: of each group the last code of the block. Which code
-- is of which group is in code_tables.
use Rattle.std.specs.Prelude.{ℕ, Bool, true, false, ◌+◌, ◌-◌, List, Option, Some, None, unwrap_or, ◌==◌, if◌then◌else◌}
use Rattle.std.specs.Option.{option_map, option_map_or}
use Rattle.nc_number.specs.declared.value.Var.TheVariants.{Vacant}
use Rattle.code_tables.specs.declared.kind.CodeKind.{CodeKind}
use Rattle.code_tables.specs.declared.kind.CodeKind.TheVariants.{Rapid, Surface, PerRev, Incremental}
use Rattle.code_tables.specs.declared.row.Row.{Row}
use Rattle.code_tables.specs.declared.system.System.{System}
use Rattle.code_tables.specs.declared.system.System.TheVariants as system
use Rattle.code_tables.specs.declared.group.TheConstants.{MOTION_GROUP, SPINDLE_GROUP, ABSOLUTE_GROUP, FEED_GROUP, UNIT_GROUP, NOSE_GROUP, WORK_GROUP, FIRST_WORK_CODE}
use Rattle.code_tables.specs.Codes.{last_of_group, is_work_code}
pub use Rattle.modal_state.specs.View.{ModalView}

-- the code of the group after the block: its last one there, else the one in force before
abbrev pub in_force_after : List Row → ℕ → ℕ → ℕ
in_force_after rows group before = unwrap_or (option_map (λ row. row.code) (last_of_group rows group)) before

-- what a block with an axis word does after these codes: by the last motion code, else as before
abbrev pub motion_after : ModalView → List Row → CodeKind
motion_after before rows = unwrap_or (option_map (λ row. row.kind) (last_of_group rows MOTION_GROUP)) before.motion

-- the code makes S a constant surface speed
abbrev pub is_surface : CodeKind → Bool
is_surface Surface = true
is_surface other = false

-- the code makes F a feed by the revolution
abbrev pub is_per_rev : CodeKind → Bool
is_per_rev PerRev = true
is_per_rev other = false

-- the code makes X and Z how far a block goes
abbrev pub is_incremental : CodeKind → Bool
is_incremental Incremental = true
is_incremental other = false

-- whether what a group has in force does that: by the kind of its last code, else as before
abbrev pub does_after : (CodeKind → Bool) → List Row → ℕ → Bool → Bool
does_after does rows group before = option_map_or (λ row. does row.kind) (last_of_group rows group) before

-- the code of the work offset after the block: its last one there if that is of G54 to G59, else
-- the one in force before
abbrev pub work_after : List Row → ℕ → ℕ
work_after rows before =
    let code = in_force_after rows WORK_GROUP before in
    if is_work_code code then code else before

-- the code of absolute input: G90 of system B. In system A the letters tell, and it has none.
abbrev pub absolute_code : System → ℕ
absolute_code system.A = 0
absolute_code system.B = 90

-- the code of feed by the revolution: G99 of system A, G95 of system B
abbrev pub per_rev_code : System → ℕ
per_rev_code system.A = 99
per_rev_code system.B = 95

-- the modal state as a tape of this system begins: G00, G97, feed by the revolution, G21, G40 and
-- G54, in system B also G90; no F, S or T
abbrev pub opening_modal : System → ModalView
opening_modal system = record {
  g01 = 0;
  g02 = 97;
  g03 = absolute_code system;
  g05 = per_rev_code system;
  g06 = 21;
  g07 = 40;
  g14 = 54;
  motion = Rapid;
  surface = false;
  per_rev = true;
  incremental = false;
  feed = Vacant;
  speed = Vacant;
  tool = 0;
  offset = 0;
  limit = Vacant;
  cycle = None;
}

-- the modal state with a block's G codes taken: each group has its last code and does what that
-- does, and the end of a cycle stays only where the motion group kept its code
abbrev pub with_codes : ModalView → List Row → ModalView
with_codes before rows =
    let motion = in_force_after rows MOTION_GROUP before.g01 in
    record before {
      g01 = motion;
      g02 = in_force_after rows SPINDLE_GROUP before.g02;
      g03 = in_force_after rows ABSOLUTE_GROUP before.g03;
      g05 = in_force_after rows FEED_GROUP before.g05;
      g06 = in_force_after rows UNIT_GROUP before.g06;
      g07 = in_force_after rows NOSE_GROUP before.g07;
      g14 = work_after rows before.g14;
      motion = motion_after before rows;
      surface = does_after is_surface rows SPINDLE_GROUP before.surface;
      per_rev = does_after is_per_rev rows FEED_GROUP before.per_rev;
      incremental = does_after is_incremental rows ABSOLUTE_GROUP before.incremental;
      cycle = if motion == before.g01 then before.cycle else None;
    }

-- the code in force of a group: groups 01, 02, 05, 06, 07 and 14 have one, and 03 in a system with
-- such codes
abbrev pub code_of : ModalView → ℕ → Option ℕ
code_of modal group =
    if group == MOTION_GROUP then Some modal.g01
    else if group == SPINDLE_GROUP then Some modal.g02
    else if group == ABSOLUTE_GROUP then (if modal.g03 == 0 then None else Some modal.g03)
    else if group == FEED_GROUP then Some modal.g05
    else if group == UNIT_GROUP then Some modal.g06
    else if group == NOSE_GROUP then Some modal.g07
    else if group == WORK_GROUP then Some modal.g14
    else None

-- the work offset in force: 1 at G54, and 6 at G59
abbrev pub work_of : ModalView → ℕ
work_of modal = modal.g14 + 1 - FIRST_WORK_CODE
