-- No motion of a block raises the alarm of waits that differ: for NoCrossingBlocks. `Another alarm`
-- here is each one but that.
use Rattle.std.proofs.Common.{ℕ, Bool, true, false, List, [], Option, Some, None, Result, Ok, Err, ok_or, ℤ, refl}
use Rattle.nc_number.specs.declared.cause.Cause.TheVariants.{PositionRange, ArcRadius, FeedZero, OffsetNumber}
use Rattle.nc_number.specs.declared.point.Point.{Point}
use Rattle.nc_number.specs.Arithmetic.{is_zero}
use Rattle.nc_number.specs.Results.{◌>>=◌}
use Rattle.nc_number.specs.Position.{is_position, origin}
use Rattle.nc_moves.specs.declared.motion.Move.{Move}
use Rattle.nc_moves.specs.declared.motion.Centre.{Centre}
use Rattle.code_tables.specs.declared.kind.CodeKind.{CodeKind}
use Rattle.code_tables.specs.declared.kind.CodeKind.TheVariants as kind
use Rattle.modal_state.specs.View.{ModalView}
use Rattle.motion_track.specs.declared.block.BlockMotion.{BlockMotion}
use Rattle.motion_track.specs.declared.fault.MotionFault.{MotionFault}
use Rattle.motion_track.specs.Block.{names_axis, is_move_due, target_in, arc_in, moves_due, moves_of}
use Rattle.motion_track.specs.Centre.{centre_of}
use Rattle.motion_track.specs.Circle.{misses, arc_of}
use Rattle.motion_track.specs.Cut.{at_feed, line_of, thread_of}
use Rattle.motion_track.specs.Faults.{fault}
use Rattle.motion_track.specs.Target.{in_travel, target_of, point_reached}
use Rattle.turn_cycles.specs.declared.pass.CyclePass.{CyclePass}
use Rattle.turn_cycles.specs.declared.rectangle.CycleKind.{CycleKind}
use Rattle.turn_cycles.specs.Cycles.{cycle_of, cycle_moves}
use Rattle.turn_cycles.specs.End.{cycle_end_of, end_point}
use Rattle.turn_cycles.specs.Pass.{cycle_kind_of, pass_to_end, pass_of}
use Rattle.offset_store.specs.declared.fault.OffsetFault.{OffsetFault}
use Rattle.offset_store.specs.declared.slot.Slot.{Slot}
use Rattle.offset_store.specs.Changes.{point_at, changed_point, in_range}
use Rattle.offset_store.specs.Faults.{fault as offset_fault}
use Rattle.offset_store.specs.Slots.{slot_of, slot_named}
use Rattle.offset_store.specs.Table.{OffsetTable}
use Rattle.block_values.specs.Values.{Values}
use Rattle.block_values.specs.Motion.{Motion, motion_number, offset_number, x_axis, z_axis, block_motion, form_of, setting_of, set_motion, passed_motion, motion_of_track, cut_motion, turret_motion, unless_incremental, motion_of}
use Rattle.two_path.proofs.NoCrossing.{IsOtherError, either}
use Rattle.two_path.proofs.NoCrossingStatements.{offset_alarm, in_range_other}

-- if the fault of a step and that of the next are other alarms, so is that of both together
error_behind : {A B E : Type 0} (number : E → ℕ) (r : Result A E) (next : A → Result B E) → IsOtherError number r
    → ((value : A) → IsOtherError number (next value)) → IsOtherError number (r >>= next)
error_behind number (Ok value) next first further = further value
error_behind number (Err error) next first further = first

-- the number of the alarm of a fault of a motion
abbrev motion_alarm : MotionFault → ℕ
motion_alarm f = f.number

-- a fault that is the number of its alarm already
abbrev pub itself : ℕ → ℕ
itself number = number

-- the fault of the motion, if there is one, is another alarm
abbrev IsOtherMotion : {A : Type 0} → Result A MotionFault → Type 0
IsOtherMotion r = IsOtherError motion_alarm r

-- the fault of the offset, if there is one, is another alarm
abbrev IsOtherOffset : {A : Type 0} → Result A OffsetFault → Type 0
IsOtherOffset r = IsOtherError offset_alarm r

-- a point out of the travel raises another alarm
travel_other : (to : Point) → IsOtherMotion (in_travel to)
travel_other to =
    either (λ (r : Result Point MotionFault). IsOtherMotion r) (is_position to) (Ok to) (Err (fault PositionRange)) tt refl

-- a cut without a feed raises another alarm
feed_other : {X : Type 0} (feed : ℤ) (what : X) → IsOtherMotion (at_feed feed what)
feed_other {X} feed what =
    either (λ (r : Result X MotionFault). IsOtherMotion r) (is_zero feed) (Err (fault FeedZero)) (Ok what) refl tt

-- an arc round a centre, or without one, raises another alarm, if any
arc_other : (at to : Point) (clockwise : Bool) (centre : Option Centre) (feed : ℤ) (per_rev : Bool)
    → IsOtherMotion (arc_of at to clockwise centre feed per_rev)
arc_other at to clockwise None feed per_rev = refl
arc_other at to clockwise (Some centre) feed per_rev =
    either (λ (r : Result Move MotionFault). IsOtherMotion r) (misses at to centre) (Err (fault ArcRadius)) _ refl (feed_other feed _)

-- the target of a block raises another alarm, if any
target_other : (block : BlockMotion) → IsOtherMotion (target_in block)
target_other block = travel_other (point_reached block.start block.shift block.x block.z)

-- an arc by the words of a block raises another alarm, if any
arc_in_other : (clockwise : Bool) (block : BlockMotion) → IsOtherMotion (arc_in clockwise block)
arc_in_other clockwise block =
    error_behind motion_alarm (target_in block) _ (target_other block)
    (λ to. arc_other block.start to clockwise (centre_of block.i block.k block.r) block.feed block.per_rev)

-- the moves that are due to a code raise another alarm, if any
due_other : (k : CodeKind) (block : BlockMotion) → IsOtherMotion (moves_due k block)
due_other kind.Rapid block = error_behind motion_alarm (target_in block) _ (target_other block) (λ to. tt)
due_other kind.Feed block =
    error_behind motion_alarm (target_in block) _ (target_other block)
    (λ to. error_behind motion_alarm (line_of to block.feed block.per_rev) _ (feed_other block.feed _) (λ cut. tt))
due_other kind.ArcCw block = error_behind motion_alarm (arc_in true block) _ (arc_in_other true block) (λ cut. tt)
due_other kind.ArcCcw block = error_behind motion_alarm (arc_in false block) _ (arc_in_other false block) (λ cut. tt)
due_other kind.Thread block =
    error_behind motion_alarm (target_in block) _ (target_other block)
    (λ to. error_behind motion_alarm (thread_of to block.feed) _ (feed_other block.feed _) (λ cut. tt))
due_other kind.Home block = error_behind motion_alarm (target_in block) _ (target_other block) (λ to. tt)
due_other kind.Machine block =
    error_behind motion_alarm (target_of block.start origin block.x block.z) _
    (travel_other (point_reached block.start origin block.x block.z)) (λ to. tt)
due_other _ block = tt

-- the moves of a code, due or not, raise another alarm, if any
moves_other : (k : CodeKind) (block : BlockMotion) → IsOtherMotion (moves_of k block)
moves_other k block =
    either (λ (r : Result (List Move) MotionFault). IsOtherMotion r) (is_move_due k block) (moves_due k block) (Ok [])
    (due_other k block) tt

-- a cycle to where its words lead raises another alarm, if any
to_end_other : (cycle : CycleKind) (kept : Option Point) (block : BlockMotion) → IsOtherMotion (pass_to_end cycle kept block)
to_end_other cycle kept block =
    error_behind motion_alarm (cycle_end_of block.start kept block.shift block.x block.z) _
    (travel_other (end_point block.start kept block.shift block.x block.z))
    (λ end. error_behind motion_alarm (cycle_of cycle block.start end block.feed block.per_rev) _
    (feed_other block.feed (cycle_moves cycle block.start end block.feed block.per_rev)) (λ moves. tt))

-- a pass of a cycle (G90, G92, G94) raises another alarm, if any
pass_other : (cycle : CycleKind) (kept : Option Point) (block : BlockMotion) → IsOtherMotion (pass_of cycle kept block)
pass_other cycle kept block =
    either (λ (r : Result CyclePass MotionFault). IsOtherMotion r) (names_axis block) (pass_to_end cycle kept block) _
    (to_end_other cycle kept block) tt

-- a pass of a cycle, as a motion, keeps its fault
passed_other : (r : Result CyclePass MotionFault) → IsOtherMotion r → IsOtherMotion (passed_motion r)
passed_other (Ok pass) other = tt
passed_other (Err f) other = other

-- a list of moves, as a motion, keeps its fault
tracked_other : (kept : Option Point) (r : Result (List Move) MotionFault) → IsOtherMotion r → IsOtherMotion (motion_of_track kept r)
tracked_other kept (Ok moves) other = tt
tracked_other kept (Err f) other = other

-- a cycle, or the moves of any other code, as a motion, raise another alarm, if any
cut_other : (cycle : Option CycleKind) (k : CodeKind) (kept : Option Point) (block : BlockMotion)
    → IsOtherMotion (cut_motion cycle k kept block)
cut_other (Some cycle) k kept block = passed_other (pass_of cycle kept block) (pass_other cycle kept block)
cut_other None k kept block = tracked_other kept (moves_of k block) (moves_other k block)

-- the number of a motion's fault is that of another alarm, if the fault is
motion_number_other : (r : Result Motion MotionFault) → IsOtherMotion r → IsOtherError itself (motion_number r)
motion_number_other (Ok motion) other = tt
motion_number_other (Err f) other = other

-- the number of an offset that does not exist raises another alarm
ok_or_other : (slot : Option Slot) → IsOtherOffset (ok_or slot (offset_fault OffsetNumber))
ok_or_other (Some slot) = tt
ok_or_other None = refl

-- the setting of an offset (G10) raises another alarm, if any
setting_other : (offsets : OffsetTable) (modal : ModalView) (has_l : Bool) (values : Values)
    → IsOtherOffset (setting_of offsets modal has_l values)
setting_other offsets modal has_l values =
    error_behind offset_alarm (slot_named (form_of has_l) values.number) _ (ok_or_other (slot_of (form_of has_l) values.number))
    (λ slot. error_behind offset_alarm (in_range (changed_point (point_at offsets slot) (x_axis modal values) (z_axis modal values))) _
    (in_range_other (changed_point (point_at offsets slot) (x_axis modal values) (z_axis modal values))) (λ to. tt))

-- the number of the fault of G10 is that of another alarm, if the fault is
set_number_other : (cycle : Option Point) (r : Result (Slot × Point) OffsetFault) → IsOtherOffset r
    → IsOtherError itself (offset_number (set_motion cycle r))
set_number_other cycle (Ok set) other = tt
set_number_other cycle (Err f) other = other

-- a motion by a code that is no dwell and sets no offset raises another alarm, if any
turret_other : (home position : Point) (offsets : OffsetTable) (modal : ModalView) (k : CodeKind) (values : Values)
    → IsOtherError itself (turret_motion home position offsets modal k values)
turret_other home position offsets modal k values =
    let block : BlockMotion = block_motion home position offsets modal values in
    motion_number_other (cut_motion (cycle_kind_of k) k modal.cycle block) (cut_other (cycle_kind_of k) k modal.cycle block)

-- a motion that may not be incremental raises another alarm, if any
incremental_other : (incremental : Bool) (motion : Result Motion ℕ) → IsOtherError itself motion
    → IsOtherError itself (unless_incremental incremental motion)
incremental_other true motion other = refl
incremental_other false motion other = other

-- the motion of a block, of every kind of code, raises another alarm, if any
pub motion_other : (home position : Point) (offsets : OffsetTable) (modal : ModalView) (k : CodeKind) (has_l : Bool)
    (values : Values)
    → IsOtherError itself (motion_of home position offsets modal k has_l values)
motion_other home position offsets modal kind.Dwell has_l values = tt
motion_other home position offsets modal kind.Setting has_l values =
    set_number_other modal.cycle (setting_of offsets modal has_l values) (setting_other offsets modal has_l values)
motion_other home position offsets modal kind.Machine has_l values =
    incremental_other modal.incremental (turret_motion home position offsets modal kind.Machine values)
    (turret_other home position offsets modal kind.Machine values)
motion_other home position offsets modal k has_l values = turret_other home position offsets modal k values
