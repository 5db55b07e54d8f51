-- What contracts see of one path of the machine: the state that blocks read and change. Every
-- definition of a block's effect is over it.
use Rattle.std.specs.Prelude.{ℕ, List}
use Rattle.nc_number.specs.declared.value.Var.{Var}
use Rattle.nc_number.specs.declared.point.Point.{Point}
use Rattle.block_forms.specs.declared.called.CallKind.{CallKind}
use Rattle.block_order.specs.declared.frame.Frame.{Frame}
use Rattle.local_levels.specs.declared.stack.Level.{Level}
use Rattle.modal_state.specs.View.{ModalView}
use Rattle.offset_store.specs.Table.{OffsetTable}

-- what is fixed for a path: its reference position, and how many variables from #100 and from #500
-- on both paths share
pub record Fixed : Type 0 where
  -- the reference position, in machine coordinates
  pub home : Point
  -- how many variables from #100 on both paths share
  pub shared100 : ℕ
  -- how many variables from #500 on both paths share
  pub shared500 : ℕ

-- the state of a path
pub record PathView : Type 0 where
  -- the frames of its place, the running one first
  pub place : List Frame
  -- for each open call, the inner one first, whether G65 opened it: then it has a level of local
  -- variables
  pub calls : List CallKind
  -- the levels of local variables, the running one first
  pub levels : List Level
  -- the common variables of its own, each at its number
  pub own : List Var
  -- what is in force: codes, F, S, T, the cycle's end
  pub modal : ModalView
  -- its work offsets and tool offsets
  pub offsets : OffsetTable
  -- where its turret stands, in machine coordinates (0.001 mm)
  pub position : Point
  -- what the path keeps throughout
  pub fixed : Fixed
