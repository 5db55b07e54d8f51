-- Records that are edits, and records that are steps: which a record is, what is behind it, and
-- what an edit leaves as it was.
use Rattle.std.proofs.Common.{◌≡◌, ℕ, List, [], Option, Some, None, refl, ap, inl, inr}
use Rattle.nc_number.specs.declared.path.Path.{Path}
use Rattle.nc_number.specs.declared.path.Path.TheVariants.{One, Two}
use Rattle.nc_moves.specs.declared.alarm.Alarm.{Alarm}
use Rattle.run_records.specs.Entries.{Entry, edit_of}
use Rattle.run_records.specs.declared.edit.Edit.{Edit}
use Rattle.run_records.specs.declared.entry.EntryKind.{EntryKind}
use Rattle.run_records.specs.declared.entry.EntryKind.TheVariants as kind
use Rattle.nc_number.proofs.Counts.{some_is}
use Rattle.nc_number.specs.Both.{of_path}
use Rattle.run_records.proofs.OneSpelling.{edited_kind}
use Rattle.two_path.specs.declared.turn.Turn.{Turn}
use Rattle.two_path.specs.declared.turn.Turn.TheVariants as turn
use Rattle.two_path.specs.Machine.{Part, MachineView, own_first, without_reads}
use Rattle.two_path.specs.Turns.{Blocks, Tapes, own_turn, kind_of}
use Rattle.two_path.specs.Edits.{behind_edit_of, edit_entry, unless_alarm}
use Rattle.two_path.specs.Histories.{with_reads, IsStep, behind_step, behind_own, behind_entry, IsNext}
use Rattle.two_path.specs.Again.{turn_by, turn_of_entry}

-- a record of this path and kind, with these stamps
abbrev pub entry : Path → EntryKind → List ℕ → Entry
entry p k ks = record { path = p; kind = k; stamps = ks }

-- of two answers, that for a machine without an alarm holds if there is none
pub calmly : {A : Type 0} (a : Option Alarm) (still rest : A) → a ≡ None → unless_alarm a still rest ≡ rest
calmly None still rest calm = refl
calmly (Some alarm) still rest calm = absurd cc

-- no turn makes the record of an edit
pub no_edit : (t : Turn) (k : EntryKind) → kind_of t ≡ Some k → edit_of k ≡ None
no_edit (turn.Read variable stamp) k e = absurd cc
no_edit (turn.Did moves) k e = rw (← some_is e) refl
no_edit (turn.Arrived code) k e = rw (← some_is e) refl
no_edit (turn.Met code) k e = rw (← some_is e) refl
no_edit (turn.Ended moves) k e = rw (← some_is e) refl
no_edit (turn.Waiting code) k e = absurd cc
no_edit turn.Finished k e = absurd cc
no_edit (turn.Alarm alarm) k e = rw (← some_is e) refl
no_edit (turn.Halted alarm) k e = absurd cc
no_edit turn.Edited k e = absurd cc

-- a step is no edit
pub step_no_edit : (blocks : Blocks) (p : Path) (m : MachineView) (k : EntryKind) (ks : List ℕ) → IsStep blocks p m k ks → edit_of k ≡ None
step_no_edit blocks p m k ks i = no_edit (own_turn blocks p (with_reads blocks ks m)).turn k i.is

-- the machine behind the record of a step is that behind the step
pub behind_step_entry : (tapes : Tapes) (m : MachineView) (e : Entry) → edit_of e.kind ≡ None
    → behind_entry tapes e m ≡ own_first e.path (behind_step (of_path tapes e.path) e.path e.stamps (own_first e.path m))
behind_step_entry tapes m e step =
    ap (λ o. own_first e.path (behind_own (of_path tapes e.path) e.path o e.stamps (own_first e.path m))) step

-- the machine behind the record of an edit is that behind the edit
pub behind_edit_entry : (tapes : Tapes) (m : MachineView) (e : Entry) (edit : Edit) → e ≡ edit_entry e.path edit
    → behind_entry tapes e m ≡ behind_edit_of e.path edit m
behind_edit_entry tapes m e edit is = ap (λ (x : Entry). behind_entry tapes x m) is

-- what the record of a step answers as it is done again
pub turn_of_step : (tapes : Tapes) (m : MachineView) (e : Entry) → edit_of e.kind ≡ None
    → turn_of_entry tapes e m ≡ (own_turn (of_path tapes e.path) e.path (with_reads (of_path tapes e.path) e.stamps (own_first e.path m))).turn
turn_of_step tapes m e step = ap (λ o. turn_by (of_path tapes e.path) e.path o e.stamps (own_first e.path m)) step

-- behind a record no block has read anything
pub entry_bare : (tapes : Tapes) (e : Entry) (m : MachineView) → without_reads (behind_entry tapes e m) ≡ behind_entry tapes e m
entry_bare tapes e m = go e.path (edit_of e.kind)
  where
    go : (p : Path) (o : Option Edit) → without_reads (own_first p (behind_own (of_path tapes p) p o e.stamps (own_first p m)))
        ≡ own_first p (behind_own (of_path tapes p) p o e.stamps (own_first p m))
    go One None = refl
    go Two None = refl
    go One (Some edit) = refl
    go Two (Some edit) = refl

-- one path stays where it was: place, position, what is in force, what is fixed, wait and end
pub record StaysPart (before after : Part) : Type 0 where
  pub place : after.path.place ≡ before.path.place
  pub position : after.path.position ≡ before.path.position
  pub modal : after.path.modal ≡ before.path.modal
  pub fixed : after.path.fixed ≡ before.path.fixed
  pub waiting : after.waiting ≡ before.waiting
  pub finished : after.finished ≡ before.finished

-- both paths stay where they were, and so does the alarm
pub record StayPaths (before after : MachineView) : Type 0 where
  pub first : StaysPart before.paths.one after.paths.one
  pub second : StaysPart before.paths.two after.paths.two
  pub alarm : after.alarm ≡ before.alarm

-- the record of a step that the machine can make is legal
pub next_of_step : (tapes : Tapes) (m : MachineView) (e : Entry) → IsStep (of_path tapes e.path) e.path (own_first e.path m) e.kind e.stamps → IsNext tapes m e
next_of_step tapes m e i = inl i

-- a legal record that is no edit is a step that the machine can make
pub step_of_next : (tapes : Tapes) (m : MachineView) (e : Entry) → edit_of e.kind ≡ None → IsNext tapes m e
    → IsStep (of_path tapes e.path) e.path (own_first e.path m) e.kind e.stamps
step_of_next tapes m e step (inl i) = i
step_of_next tapes m e step (inr i) =
    absurd (let edit : edit_of e.kind ≡ Some i.edit = ap (λ (x : Entry). edit_of x.kind) i.is in cc)

-- a record of an edit's kind, with no stamps, is the record of that edit
edit_is : (e : Entry) (edit : Edit) → edit_of e.kind ≡ Some edit → e.stamps ≡ [] → e ≡ edit_entry e.path edit
edit_is e edit is bare = let same : e.kind ≡ kind.Edited edit = edited_kind e.kind edit is in λ i. record { path = e.path; kind = same i; stamps = bare i }
