-- What the motion of a block comes to: its moves, where a cycle ends, the offset that G10 sets. It
-- goes by the block's one-shot code if it has one, else by the motion code in force.
use Rattle.std.specs.Prelude.{ℕ, Bool, true, false, List, [], ◌∷◌, Option, Some, None, unwrap_or, Result, Ok, Err, ℤ}
use Rattle.nc_number.specs.declared.point.Point.{Point}
use Rattle.nc_number.specs.declared.axis.Axis.{Axis}
use Rattle.nc_number.specs.declared.axis.Axis.TheVariants.{By}
use Rattle.nc_number.specs.declared.cause.Cause.TheVariants.{UnknownCode}
use Rattle.nc_number.specs.Axes.{axis_of}
use Rattle.nc_number.specs.Causes.{cause_number}
use Rattle.nc_number.specs.Results.{◌>>=◌}
use Rattle.nc_number.specs.Variables.{or_zero}
use Rattle.code_tables.specs.declared.kind.CodeKind.{CodeKind}
use Rattle.code_tables.specs.declared.kind.CodeKind.TheVariants.{Dwell, Setting, Machine}
use Rattle.modal_state.specs.View.{ModalView}
use Rattle.modal_state.specs.Modal.{work_of}
use Rattle.motion_track.specs.declared.block.BlockMotion.{BlockMotion}
use Rattle.motion_track.specs.declared.fault.MotionFault.{MotionFault}
use Rattle.motion_track.specs.Block.{moves_of}
use Rattle.turn_cycles.specs.declared.pass.CyclePass.{CyclePass}
use Rattle.turn_cycles.specs.declared.rectangle.CycleKind.{CycleKind}
use Rattle.turn_cycles.specs.Pass.{cycle_kind_of, pass_of}
use Rattle.offset_store.specs.declared.fault.OffsetFault.{OffsetFault}
use Rattle.offset_store.specs.declared.slot.Slot.{Slot}
use Rattle.offset_store.specs.declared.slot.OffsetForm.{OffsetForm}
use Rattle.offset_store.specs.declared.slot.OffsetForm.TheVariants.{WorkOffset, ToolOffset}
use Rattle.offset_store.specs.Table.{OffsetTable}
use Rattle.offset_store.specs.Slots.{slot_named}
use Rattle.offset_store.specs.Changes.{point_at, changed_point, in_range}
use Rattle.offset_store.specs.Offsets.{shift_of}
use Rattle.nc_moves.specs.declared.motion.Move.{Move}
use Rattle.nc_moves.specs.declared.motion.Move.TheVariants as move
use Rattle.block_values.specs.Values.{Values}

-- what the motion of a block comes to
pub record Motion : Type 0 where
  -- the moves, in their order
  pub moves : List Move
  -- where the cycle in force ends from then on, in machine coordinates (0.001 mm)
  pub cycle : Option Point
  -- the offset that G10 sets, and its new value
  pub offset : Option (Slot × Point)

-- a motion of these moves that sets no offset; `cycle` is where the cycle in force ends behind it
abbrev pub motion_of_moves : Option Point → List Move → Motion
motion_of_moves cycle moves = record { moves = moves; cycle = cycle; offset = None }

-- an answer of a motion, with its fault as the number of the alarm
abbrev pub motion_number : {A : Type 0} → Result A MotionFault → Result A ℕ
motion_number (Ok value) = Ok value
motion_number (Err fault) = Err fault.number

-- an answer of the setting of an offset, with its fault as the number of the alarm
abbrev pub offset_number : {A : Type 0} → Result A OffsetFault → Result A ℕ
offset_number (Ok value) = Ok value
offset_number (Err fault) = Err fault.number

-- the kind of the code that decides the motion
abbrev pub motion_kind : ModalView → Option CodeKind → CodeKind
motion_kind modal one_shot = unwrap_or one_shot modal.motion

-- what the two words of an axis say, the one of X or Z before the one of U or W: X and Z are
-- incremental if G91 is in force (true), as U and W always are
abbrev pub axis_under : Bool → Option ℤ → Option ℤ → Axis
axis_under false word way = axis_of word way
axis_under true None way = axis_of None way
axis_under true (Some word) way = By word

-- what X and U of a block say of the axis X
abbrev pub x_axis : ModalView → Values → Axis
x_axis modal values = axis_under modal.incremental values.x values.u

-- what Z and W of a block say of the axis Z
abbrev pub z_axis : ModalView → Values → Axis
z_axis modal values = axis_under modal.incremental values.z values.w

-- what the motion of a block depends on. `modal` is the state behind the block's own codes and
-- words.
abbrev pub block_motion : Point → Point → OffsetTable → ModalView → Values → BlockMotion
block_motion home position offsets modal values = record {
  start = position;
  shift = shift_of offsets (work_of modal) modal.offset;
  home = home;
  x = x_axis modal values;
  z = z_axis modal values;
  i = values.i;
  k = values.k;
  r = values.r;
  feed = or_zero modal.feed;
  per_rev = modal.per_rev;
}

-- which kind of offset G10 sets: with L a work offset, without it a tool offset
abbrev pub form_of : Bool → OffsetForm
form_of true = WorkOffset
form_of false = ToolOffset

-- the offset that G10 sets, and its new value: an absolute word sets it, an incremental one adds to
-- it. `has_l`: L stands in the block. Alarm 40 if P names no offset, then 41 if the new value is
-- past the range.
abbrev pub setting_of : OffsetTable → ModalView → Bool → Values → Result (Slot × Point) OffsetFault
setting_of offsets modal has_l values = do
  slot ← slot_named (form_of has_l) values.number
  to ← in_range (changed_point (point_at offsets slot) (x_axis modal values) (z_axis modal values))
  Ok (slot, to)

-- G10 as a motion: it moves nothing
abbrev pub set_motion : Option Point → Result (Slot × Point) OffsetFault → Result Motion OffsetFault
set_motion cycle (Ok set) = Ok (record { moves = []; cycle = cycle; offset = Some set })
set_motion cycle (Err fault) = Err fault

-- a pass of a cycle as a motion, which says where the cycle ends
abbrev pub passed_motion : Result CyclePass MotionFault → Result Motion MotionFault
passed_motion (Ok pass) = Ok (motion_of_moves pass.kept pass.moves)
passed_motion (Err fault) = Err fault

-- the moves of a code that is no cycle, as a motion; the cycle's end stays
abbrev pub motion_of_track : Option Point → Result (List Move) MotionFault → Result Motion MotionFault
motion_of_track cycle (Ok moves) = Ok (motion_of_moves cycle moves)
motion_of_track cycle (Err fault) = Err fault

-- a cycle, or a line, an arc, a thread or a way home, or no motion at all
abbrev pub cut_motion : Option CycleKind → CodeKind → Option Point → BlockMotion → Result Motion MotionFault
cut_motion (Some cycle) kind kept block = passed_motion (pass_of cycle kept block)
cut_motion None kind kept block = motion_of_track kept (moves_of kind block)

-- the motion of a block whose code is no dwell and sets no offset; most of these codes move nothing
abbrev pub turret_motion : Point → Point → OffsetTable → ModalView → CodeKind → Values → Result Motion ℕ
turret_motion home position offsets modal kind values =
    motion_number (cut_motion (cycle_kind_of kind) kind modal.cycle (block_motion home position offsets modal values))

-- the machine's own coordinates have no increments: alarm 56 of G53 if G91 is in force, whatever
-- words stand beside it
abbrev pub unless_incremental : Bool → Result Motion ℕ → Result Motion ℕ
unless_incremental true motion = Err (cause_number UnknownCode)
unless_incremental false motion = motion

-- the motion of a block by the kind of its code, from where the turret stands. `has_l`: L stands in
-- the block, which only G10 heeds.
abbrev pub motion_of : Point → Point → OffsetTable → ModalView → CodeKind → Bool → Values → Result Motion ℕ
motion_of home position offsets modal Dwell has_l values =
    Ok (motion_of_moves modal.cycle (move.Dwell (unwrap_or values.rest 0) ∷ []))
motion_of home position offsets modal Setting has_l values =
    offset_number (set_motion modal.cycle (setting_of offsets modal has_l values))
motion_of home position offsets modal Machine has_l values =
    unless_incremental modal.incremental (turret_motion home position offsets modal Machine values)
motion_of home position offsets modal kind has_l values = turret_motion home position offsets modal kind values
