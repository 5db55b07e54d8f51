-- What every path keeps at all times: the invariant of `PathState` (src/path.rt), and how its
-- fields are read as a `PathView`. No other crate cites it, but every `PathState` keeps it.
use Rattle.std.specs.Prelude.{◌≤◌, List}
use Rattle.nc_number.specs.declared.point.Point.{Point}
use Rattle.nc_number.specs.declared.value.Var.{Var}
use Rattle.nc_number.specs.Position.{IsPosition}
use Rattle.modal_state.specs.View.{ModalView}
use Rattle.offset_store.specs.Table.{OffsetTable}
use Rattle.path_state.specs.declared.path.Fixed as kept
use Rattle.path_state.specs.View.{Fixed, PathView}
use Rattle.path_state.specs.Standing.{Standing, IsMatched, standing_of}

-- what is fixed for the path, from the fields of the code
abbrev pub fixed_of : kept.Fixed → Fixed
fixed_of fixed = record { home = fixed.home; shared100 = fixed.shared100; shared500 = fixed.shared500 }

-- the path that the code's fields make up
abbrev pub path_of : Standing → List Var → ModalView → OffsetTable → Point → kept.Fixed → PathView
path_of standing own modal offsets position fixed = record {
  place = standing.place;
  calls = standing.calls;
  levels = standing.levels;
  own = own;
  modal = modal;
  offsets = offsets;
  position = position;
  fixed = fixed_of fixed;
}

-- What holds of every path: its turret and its reference position stand within the range of
-- positions, the paths share at most 100 variables from #100 and 500 from #500, and its calls and
-- levels match its place.
pub record IsKept (path : PathView) : Type 0 where
  pub position : IsPosition path.position
  pub home : IsPosition path.fixed.home
  pub shared100 : path.fixed.shared100 ≤ 100
  pub shared500 : path.fixed.shared500 ≤ 500
  pub matched : IsMatched (standing_of path)
