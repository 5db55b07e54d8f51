-- The modal state of a path: what one block leaves in force for the next. A code stands as its
-- number: 54 is G54.
use Rattle.std.specs.Prelude.{◌≡◌, ℕ, Bool, ◌≤◌, IsTrue, Option, IfSome}
use Rattle.nc_number.specs.declared.value.Var.{Var}
use Rattle.nc_number.specs.declared.point.Point.{Point}
use Rattle.nc_number.specs.declared.point.TheConstants.{TOOL_OFFSETS}
use Rattle.nc_number.specs.Position.{IsPosition}
use Rattle.code_tables.specs.declared.kind.CodeKind.{CodeKind}
use Rattle.code_tables.specs.Codes.{is_work_code}
use Rattle.modal_state.specs.Said.{tool_offset}

-- what clauses see of the modal state: the code of each group, what the codes do whatever their
-- numbers, and what the words set last
pub record ModalView : Type 0 where
  -- the motion code, as G01
  pub g01 : ℕ
  -- the spindle code: G96 or G97
  pub g02 : ℕ
  -- the code of absolute or incremental input: G90 or G91; 0 where the system has no such codes
  pub g03 : ℕ
  -- the feed code: by the minute or by the revolution
  pub g05 : ℕ
  -- the unit code: G20 or G21
  pub g06 : ℕ
  -- the code of nose radius compensation, as G40
  pub g07 : ℕ
  -- the work offset code: G54 to G59
  pub g14 : ℕ
  -- what a block with an axis word does
  pub motion : CodeKind
  -- the speed is a constant surface speed
  pub surface : Bool
  -- the feed is by the revolution
  pub per_rev : Bool
  -- X and Z are how far a block goes
  pub incremental : Bool
  -- what F set last, in whole units
  pub feed : Var
  -- what S set last as a speed
  pub speed : Var
  -- the whole number of the last T word
  pub tool : ℕ
  -- the tool offset in force: the last two digits of the T word, or 0 for none
  pub offset : ℕ
  -- what S set last as the highest speed
  pub limit : Var
  -- where the cycle in force ends, in machine coordinates
  pub cycle : Option Point

-- one of G54 to G59 is in force, the tool offset is the tool's and exists, and a cycle ends at a
-- position
pub record IsSound (m : ModalView) : Type 0 where
  -- one of G54 to G59 is in force
  pub work : IsTrue (is_work_code m.g14)
  -- the tool offset is the tool's
  pub offset : m.offset ≡ tool_offset m.tool
  -- the tool offset is from 0 to 64
  pub exists : m.offset ≤ TOOL_OFFSETS
  -- a cycle ends at a position
  pub cycle : IfSome m.cycle IsPosition
