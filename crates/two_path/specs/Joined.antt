-- The machine in the parts that the code keeps: each path has a part (src/part.rt), and what both
-- share is the joint part (src/joint.rt). `Machine` is specified by `RoomyMachine` and
-- `AreAtTheirWaits`.
use Rattle.std.specs.Prelude.{◌≡◌, ℕ, ◌+◌, ◌≤◌, List, Option, Some}
use Rattle.nc_moves.specs.declared.alarm.Alarm.{Alarm}
use Rattle.common_vars.specs.Writes.{Writes}
use Rattle.block_order.specs.declared.control.Control.TheVariants.{Wait}
use Rattle.block_order.specs.declared.program.ControlProgram.{ControlProgram}
use Rattle.block_order.specs.Steps.{control_of_place}
use Rattle.nc_moves.specs.declared.motion.Move.{Move}
use Rattle.motion_track.specs.declared.targets.TheConstants.{LONGEST}
use Rattle.motion_track.specs.Within.{AreMovesWithin}
use Rattle.path_state.specs.declared.advance.BlockAnswer.{BlockAnswer}
use Rattle.path_state.specs.declared.decision.Decision.{Decision}
use Rattle.path_state.specs.Advances.{effect_told, moves_of, StaysUnlessTold}
use Rattle.path_state.specs.Decisions.{effect_of_decision, MayTake}
use Rattle.path_state.specs.Fits.{HasFitWords}
use Rattle.two_path.specs.Machine.{Part, MachineView}
use Rattle.two_path.specs.Turns.{Blocks}
use Rattle.two_path.specs.Histories.{values_at}

-- what contracts see of the joint part
pub record JointView : Type 0 where
  -- the writes to shared variables, and room for more
  pub shared : Writes
  -- how many records there are
  pub count : ℕ
  -- the alarm that stopped both paths
  pub alarm : Option Alarm

-- what contracts see of the code's `Machine`
pub record RoomyMachine : Type 0 where
  -- the machine
  pub machine : MachineView
  -- for how many more records it has memory
  pub room : ℕ

-- the machine of these parts
abbrev pub machine_of : Part → Part → JointView → MachineView
machine_of first second joint = record {
  paths = record { one = first; two = second };
  writes = joint.shared.writes;
  count = joint.count;
  alarm = joint.alarm;
}

-- a path whose block has read what these stamps stand for
abbrev pub read_part : Blocks → Part → JointView → List ℕ → Part
read_part blocks part joint stamps = record part {
  values = values_at blocks part.path joint.shared.writes stamps;
  stamps = stamps;
}

-- the variables that the path shares are just those that the joint part holds, of those from #100
-- on (`hundreds`) and of those from #500 on (`upper`)
pub record AreShared (part : Part) (joint : JointView) : Type 0 where
  pub hundreds : joint.shared.shared100 ≡ part.path.fixed.shared100
  pub upper : joint.shared.shared500 ≡ part.path.fixed.shared500

-- what a turn or an edit leaves of the joint part: which variables are shared, from #100 on
-- (`hundreds`) and from #500 on (`upper`), and the room but for its record
pub record IsLasting (before after : JointView) : Type 0 where
  pub hundreds : after.shared.shared100 ≡ before.shared.shared100
  pub upper : after.shared.shared500 ≡ before.shared.shared500
  pub room : before.count + before.shared.room ≤ after.count + after.shared.room

-- what was decided, with these moves, is what the path's block comes to with what it has read, and
-- it may be done
pub record IsDecided (blocks : Blocks) (part : Part) (moves : List Move) (decision : Decision) : Type 0 where
  pub effect : effect_of_decision part.path decision moves ≡ blocks.effect part.path part.values
  pub fit : HasFitWords decision
  pub may : MayTake part.path decision

-- the path took what its block comes to with what it has read, and answered so, with these moves;
-- nothing but its state changed
pub record HasTaken (blocks : Blocks) (before now : Part) (answer : BlockAnswer) (moves : List Move) : Type 0 where
  pub effect : effect_told answer moves now.path ≡ blocks.effect before.path before.values
  pub stays : StaysUnlessTold answer before.path now.path
  pub rest : now ≡ record before { path = now.path }

-- the moves of the block with what the path has read, none of which is too far
pub record AreItsMoves (blocks : Blocks) (part : Part) (moves : List Move) : Type 0 where
  pub are : moves ≡ moves_of (blocks.effect part.path part.values)
  pub within : AreMovesWithin LONGEST moves

-- if the path waits, it stands on a wait of its tape
abbrev pub IsAtItsWait : List ControlProgram → Part → Type 0
IsAtItsWait tape part = (code : ℕ) → part.waiting ≡ Some code → control_of_place tape part.path.place ≡ Some (Wait code)

-- each path that waits stands on a wait of its tape
pub record AreAtTheirWaits (left right : List ControlProgram) (m : MachineView) : Type 0 where
  pub first : IsAtItsWait left m.paths.one
  pub second : IsAtItsWait right m.paths.two
