-- What it means that a record of a history is done again, or refused with nothing changed: the
-- contracts of src/again.rt and of `Machine::apply`. What makes a record legal is in Histories, and
-- what a turn does in Turns.
use Rattle.std.specs.Prelude.{◌≡◌, Bool, true, false, ℕ, ◌==◌, ◌&&◌, nat_le, List, [], ◌∷◌, ◌++◌, Option, Some, None, if◌then◌else◌}
use Rattle.run_records.specs.Entries.{Entry, edit_of}
use Rattle.run_records.specs.declared.edit.Edit.{Edit}
use Rattle.run_records.specs.declared.entry.EntryKind.{EntryKind}
use Rattle.run_records.specs.declared.entry.EntryKind.TheVariants as kind
use Rattle.nc_number.specs.declared.path.Path.{Path}
use Rattle.nc_number.specs.Both.{of_path}
use Rattle.block_order.specs.declared.label.Label.{Label}
use Rattle.block_order.specs.declared.label.Label.TheVariants as label
use Rattle.block_order.specs.declared.program.ControlProgram.{ControlProgram}
use Rattle.nc_moves.specs.declared.motion.Move.{Move}
use Rattle.path_state.specs.declared.advance.BlockAnswer.{BlockAnswer}
use Rattle.path_state.specs.Effect.{Effect, Need, Done, AtWait, AtEnd}
use Rattle.path_state.specs.Effect as effect
use Rattle.two_path.specs.declared.turn.Turn.{Turn}
use Rattle.two_path.specs.declared.turn.Turn.TheVariants as turn
use Rattle.common_vars.specs.Writes.{value_after}
use Rattle.two_path.specs.Machine.{Part, MachineView, own_first, part_without_reads}
use Rattle.two_path.specs.Turns.{Blocks, Tapes, own_turn}
use Rattle.two_path.specs.Histories.{MayRead, with_reads, IsStep, behind_step, IsNext, behind_entry}
use Rattle.two_path.specs.Joined.{JointView, machine_of, read_part, AreItsMoves, AreShared, HasTaken, IsAtItsWait}

-- Two paths of which a record can be done again: that of the record and the other one.
pub record AreReady (tape other_tape : List ControlProgram) (me other : Part) (joint : JointView) : Type 0 where
  -- both share the variables of the joint part
  pub my_shared : AreShared me joint
  pub other_shared : AreShared other joint
  -- each stands on a wait if it waits
  pub my_wait : IsAtItsWait tape me
  pub other_wait : IsAtItsWait other_tape other
  -- neither block has read anything
  pub my_reads : part_without_reads me ≡ me
  pub other_reads : part_without_reads other ≡ other

-- the shared variable that a block needs next
abbrev pub variable_asked : Effect → Option ℕ
variable_asked (Need variable) = Some variable
variable_asked _ = None

-- the variable that the block reads with this stamp, if it asks for one and the stamp is in order:
-- not below the lowest that is allowed, and not above the highest
abbrev pub variable_due : ℕ → ℕ → ℕ → Effect → Option ℕ
variable_due lowest highest stamp effect =
    if nat_le lowest stamp && nat_le stamp highest then variable_asked effect else None

-- the kind of the record of a path that comes to a wait of this code, by the code at which the
-- other path waits, if it waits
abbrev pub kind_at_wait : ℕ → Option ℕ → EntryKind
kind_at_wait code None = kind.Arrived
kind_at_wait code (Some there) = if code == there then kind.Met else kind.Alarmed

-- the kind of the record of a block of this effect, if it makes one, by the code at which the other
-- path waits, if it waits
abbrev pub kind_of_effect : Effect → Option ℕ → Option EntryKind
kind_of_effect (Need variable) other = None
kind_of_effect (Done path write moves) other = Some kind.Did
kind_of_effect (AtWait code) other = Some (kind_at_wait code other)
kind_of_effect (AtEnd path moves) other = Some kind.Ended
kind_of_effect (effect.Alarm number value) other = Some kind.Alarmed

-- the kind of the record that the path's block makes with what it has read
abbrev pub kind_of_block : Blocks → Part → Part → Option EntryKind
kind_of_block blocks part other = kind_of_effect (blocks.effect part.path part.values) other.waiting

-- the kind is that of a block that was done
abbrev pub is_did : EntryKind → Bool
is_did kind.Did = true
is_did _ = false

-- the kind is that of a path that ended
abbrev pub is_ended : EntryKind → Bool
is_ended kind.Ended = true
is_ended _ = false

-- whether the block of a path at this label (`None` if its block has none) changes the path only if
-- it makes a record of this kind
abbrev pub changes_only_by : Option Label → EntryKind → Bool
changes_only_by (Some (label.Wait code)) kind = true
changes_only_by (Some label.End) kind = is_ended kind
changes_only_by (Some label.Again) kind = is_did kind
changes_only_by (Some label.Off) kind = is_did kind
changes_only_by None kind = is_did kind

-- the path's block makes a record of this kind, and the path took it and answered so, with these
-- moves
pub record IsTaken (blocks : Blocks) (kind : EntryKind) (other before now : Part) (answer : BlockAnswer) (moves : List Move) : Type 0 where
  -- the block makes a record of this kind
  pub due : kind_of_block blocks before other ≡ Some kind
  -- the path did what the block comes to, and answered so
  pub taken : HasTaken blocks before now answer moves
  -- these are the moves of the block
  pub are : AreItsMoves blocks before moves

-- the path's block makes no record of this kind, and the path is as it was
pub record IsNotDue (blocks : Blocks) (kind : EntryKind) (other before now : Part) : Type 0 where
  pub differs : kind_of_block blocks before other ≡ Some kind → ⊥
  pub stays : now ≡ before

-- the block read one variable more, with this stamp
pub record IsReadAgain (blocks : Blocks) (joint : JointView) (lowest stamp : ℕ) (before after : Part) : Type 0 where
  -- the variable that was read
  pub variable : ℕ
  pub due : variable_due lowest joint.count stamp (blocks.effect before.path before.values) ≡ Some variable
  pub part : after ≡ record before {
    values = before.values ++ value_after stamp variable joint.shared.writes ∷ [];
    stamps = before.stamps ++ stamp ∷ [];
  }

-- no read with this stamp was due, and nothing changed
pub record IsUnread (blocks : Blocks) (joint : JointView) (lowest stamp : ℕ) (before after : Part) : Type 0 where
  pub due : variable_due lowest joint.count stamp (blocks.effect before.path before.values) ≡ None
  pub unchanged : after ≡ before

-- the block may have read with these stamps, and has now read what they stand for
pub record HasRead (blocks : Blocks) (joint : JointView) (stamps : List ℕ) (before after : Part) : Type 0 where
  pub legal : (other : Part) → MayRead blocks (machine_of before other joint) stamps
  pub part : after ≡ read_part blocks before joint stamps

-- the block may not have read with these stamps; but for what it read now, the path is as it was
pub record MayNotRead (blocks : Blocks) (joint : JointView) (stamps : List ℕ) (before after : Part) : Type 0 where
  pub illegal : (other : Part) → MayRead blocks (machine_of before other joint) stamps → ⊥
  pub rest : part_without_reads after ≡ before

-- the record is legal behind the machine of these parts, and its block has now read what the
-- record's stamps stand for
pub record IsFit (blocks : Blocks) (entry : Entry) (other : Part) (joint : JointView) (before after : Part) : Type 0 where
  pub legal : IsStep blocks entry.path (machine_of before other joint) entry.kind entry.stamps
  pub part : after ≡ read_part blocks before joint entry.stamps

-- the record is not legal behind the machine of these parts; but for what its block read now, the
-- path is as it was
pub record IsUnfit (blocks : Blocks) (entry : Entry) (other : Part) (joint : JointView) (before after : Part) : Type 0 where
  pub illegal : IsStep blocks entry.path (machine_of before other joint) entry.kind entry.stamps → ⊥
  pub rest : part_without_reads after ≡ before

-- what the turn of a record of the first path answers as it is done again: a record of an edit, or
-- of a step with these stamps
abbrev pub turn_by : Blocks → Path → Option Edit → List ℕ → MachineView → Turn
turn_by blocks path (Some edit) stamps m = turn.Edited
turn_by blocks path None stamps m = (own_turn blocks path (with_reads blocks stamps m)).turn

-- what the turn of a record of either path answers as it is done again
abbrev pub turn_of_entry : Tapes → Entry → MachineView → Turn
turn_of_entry tapes entry m =
    turn_by (of_path tapes entry.path) entry.path (edit_of entry.kind) entry.stamps (own_first entry.path m)

-- the record is legal behind the machine, and was done again: its turn's answer, and the machine
-- behind it
pub record IsDoneAgain (tapes : Tapes) (entry : Entry) (before after : MachineView) (turn : Turn) : Type 0 where
  pub legal : IsNext tapes before entry
  pub machine : after ≡ behind_entry tapes entry before
  pub answer : turn ≡ turn_of_entry tapes entry before

-- the record is not legal behind the machine, and nothing changed
pub record IsRefused (tapes : Tapes) (entry : Entry) (before after : MachineView) : Type 0 where
  pub illegal : IsNext tapes before entry → ⊥
  pub unchanged : after ≡ before

-- A step of the path whose part is the first is legal behind the machine, and was done again: its
-- turn's answer, and the machine behind it.
pub record IsStepDone (blocks : Blocks) (path : Path) (kind : EntryKind) (stamps : List ℕ) (before after : MachineView) (turn : Turn) : Type 0 where
  pub legal : IsStep blocks path before kind stamps
  pub machine : after ≡ behind_step blocks path stamps before
  pub answer : turn ≡ (own_turn blocks path (with_reads blocks stamps before)).turn

-- a step of the path whose part is the first is not legal behind the machine, and nothing changed
pub record IsStepRefused (blocks : Blocks) (path : Path) (kind : EntryKind) (stamps : List ℕ) (before after : MachineView) : Type 0 where
  pub illegal : IsStep blocks path before kind stamps → ⊥
  pub unchanged : after ≡ before
