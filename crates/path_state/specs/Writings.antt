-- What a change of the code (src/writing.rt) comes to: the path behind the write of a variable, and
-- which changes can be made. No other crate cites it; StatementSteps and Decisions are built on it.
use Rattle.std.specs.Prelude.{Bool, ◌&&◌, nat_le, Some, None}
use Rattle.nc_number.specs.Position.{is_position}
use Rattle.common_vars.specs.Common.{is_common, with_value}
use Rattle.local_levels.specs.Stack.{with_local}
use Rattle.offset_store.specs.declared.number.TheConstants.{LAST_WORK}
use Rattle.offset_store.specs.declared.slot.Slot.TheVariants as slot
use Rattle.offset_store.specs.Changes.{with_point}
use Rattle.path_state.specs.declared.writing.Change.{Change}
use Rattle.path_state.specs.declared.writing.Change.TheVariants.{Local, Own, Shared, Work}
use Rattle.path_state.specs.View.{PathView}
use Rattle.path_state.specs.Statements.{After}

-- a change that can be made: its variable exists, and an offset may be at its point
abbrev pub is_possible : Change → Bool
is_possible (Local i value) = nat_le 1 i && nat_le i 33
is_possible (Own v value) = is_common v
is_possible (Shared v value) = is_common v
is_possible (Work n to) = nat_le n LAST_WORK && is_position to

-- the path behind a statement that wrote to no shared variable
abbrev pub path_alone : PathView → After
path_alone path = record { path = path; write = None }

-- a path with the change made, and what that wrote to a shared variable
abbrev pub after_change : PathView → Change → After
after_change path (Local i value) = path_alone (record path { levels = with_local i value path.levels })
after_change path (Own v value) = path_alone (record path { own = with_value v value path.own })
after_change path (Shared v value) = record { path = path; write = Some (record { variable = v; value = value }) }
after_change path (Work n to) = path_alone (record path { offsets = with_point path.offsets (slot.Work n) to })
