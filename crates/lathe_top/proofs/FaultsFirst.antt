-- A fault of the disk goes before one of a turret, and that before all other causes, whatever the
-- outside makes known. An answer of which nothing is told has any status here (`HasStatus`). A new
-- command needs its line here.
-- For the proof of `top` (src/control.rt).
use Rattle.std.proofs.Common.{◌≡◌, ℕ, ◌<◌, List, Some, refl, ap, arith, Err}
use Rattle.nc_outside.specs.Received.{TurretState}
use Rattle.nc_number.specs.declared.both.Both.{Both}
use Rattle.nc_number.specs.Both.{of_path}
use Rattle.command_words.specs.declared.command.Command.{Command}
use Rattle.command_words.specs.declared.command.Command.TheVariants as command
use Rattle.disk_model.specs.Device.{DiskState}
use Rattle.disk_model.specs.Device.{Rose as DiskRose}
use Rattle.gate_file.specs.declared.fault.GateFault.{GateFault}
use Rattle.gate_file.specs.declared.fault.GateFault.TheVariants as gate
use Rattle.nc_outside.specs.declared.reason.Reason.{Reason}
use Rattle.nc_number.specs.declared.path.Path.{Path}
use Rattle.nc_outside.specs.Faults.{Rose}
use Rattle.nc_outside.specs.Files.{ShelfState}
use Rattle.nc_verify.specs.declared.verified.Verified.{Verified}
use Rattle.nc_verify.specs.Verdict.{Texts}
use Rattle.run_records.specs.Entries.{Entry}
use Rattle.nc_restart.specs.declared.fault.RestartFault.{RestartFault}
use Rattle.nc_restart.specs.declared.fault.RestartFault.TheVariants as restart
use Rattle.nc_restart.specs.Recovered.{FoundRun, Recovers}
use Rattle.lathe_calls.specs.Answers.{Answer}
use Rattle.lathe_looks.specs.Fetched.{IsOfFiles, not_had, unread, answers}
use Rattle.lathe_looks.specs.Named.{Named, only_text, edits_named, pair_texts, zones_named}
use Rattle.edit_texts.specs.declared.edit_list.PathEdit.{PathEdit}
use Rattle.lathe_looks.specs.Shown.{IsShown, shown, unshown, unfound_answer}
use Rattle.lathe_calls.specs.Statuses as exit
use Rattle.lathe_top.specs.Done as done
use Rattle.lathe_top.specs.Branched as branch
use Rattle.lathe_top.specs.Branched.{IsBranched, IsBranchOf}
use Rattle.lathe_top.specs.Done.{Call, IsDue, IsDueTo, LeavesSecond}
use Rattle.lathe_top.specs.Edited as edit
use Rattle.lathe_top.specs.Edited.{IsEdited, IsEditedRun, IsEditOf, IsOnlyFound}
use Rattle.lathe_top.specs.Kinds.{kind_of}
use Rattle.lathe_top.specs.Kept.{Editing, Opening, IsRefusedBeginning, RestsWhole}
use Rattle.lathe_top.specs.Lathe.{LatheState, AreAtRest}
use Rattle.lathe_top.specs.Ran as run
use Rattle.lathe_top.specs.Ran.{TextOf, IsRun, IsReported, reported, unprepared, IsResumed, not_found, resumed, unbegun_answer}
use Rattle.lathe_calls.specs.Statuses.{reason_status}
use Rattle.lathe_top.specs.Session.{Session, NoneFailed, EndsBy, over, full, stopped, disk_failed, turret_failed}
use Rattle.lathe_top.specs.Zoned.{IsZoned, bad_zones, unread_zones, zoned}
use Rattle.lathe_top.proofs.Agreed.{HasStatus}

-- something failed: `wanted` is 6 if it was the disk, and else 7
module _ {D : Type 0} (state : D → DiskState) (wanted : ℕ) (old new : LatheState) (some : NoneFailed old new → ⊥)
    (of_disk : DiskRose old.disk.faults new.disk.faults → exit.disk_fault ≡ wanted)
    (of_turret : (path : Path) → Rose (of_path old.turrets path).faults (of_path new.turrets path).faults
    → new.disk.faults ≡ old.disk.faults → exit.turret_fault ≡ wanted) where
  -- turrets that rest have failed no more
  at_rest : AreAtRest old new → (path : Path) → (of_path new.turrets path).faults ≡ (of_path old.turrets path).faults
  at_rest rest path = ap (λ (t : Both TurretState). (of_path t path).faults) rest.0

  -- if the turrets rest, the disk failed: its count of faults did not stay
  not_calm : AreAtRest old new → new.disk.faults ≡ old.disk.faults → ⊥
  not_calm rest same = some (record { disk = same; turrets = at_rest rest })

  -- the disk and the turrets did not both rest
  not_rested : RestsWhole old new → ⊥
  not_rested rests = not_calm rests.turrets rests.disk.faults

  -- an answer that no run is found has the wanted status
  unfound_first : (f : RestartFault) → Recovers old.disk new.disk (Err f) → AreAtRest old new → HasStatus wanted (unfound_answer f)
  unfound_first restart.DiskFault r rest = of_disk r.refused
  unfound_first restart.NoRun r rest = absurd (not_calm rest (r.calm (λ is. absurd cc)))
  unfound_first (restart.Cut at) r rest = absurd (not_calm rest (r.calm (λ is. absurd cc)))
  unfound_first (restart.BadRecord offset cause) r rest = absurd (not_calm rest (r.calm (λ is. absurd cc)))
  unfound_first restart.NoMemory r rest = tt

  -- an answer of a command that only shows the journal has the wanted status
  shown_first : (IsDue : Verified → List Entry → Answer → Type 0) (a : Answer) → IsShown IsDue old.disk new.disk a → AreAtRest old new → HasStatus wanted a
  shown_first IsDue a (unshown f r) rest = unfound_first f r rest
  shown_first IsDue a (shown found pair is history r due) rest = absurd (not_calm rest (r.calm (λ fault. fault)))

  -- an answer that no journal is begun has the wanted status
  unbegun_first : (texts : Texts) (f : GateFault) → IsRefusedBeginning texts f old.disk new.disk → AreAtRest old new → HasStatus wanted (unbegun_answer f)
  unbegun_first texts gate.DiskFault r rest = of_disk r.begins.refused
  unbegun_first texts gate.RunThere r rest = absurd (not_calm rest (r.begins.calm (λ is. absurd cc)))
  unbegun_first texts gate.NoRun r rest = tt
  unbegun_first texts (gate.Cut at) r rest = tt
  unbegun_first texts gate.NoMemory r rest = tt

  -- the reason of a session gives the wanted status
  reason_first : (limit : ℕ) (s : Session) {reason : Reason} → EndsBy limit s old new reason → reason_status reason ≡ wanted
  reason_first limit s (over is well) = absurd (some well)
  reason_first limit s (full un is well) = absurd (some well)
  reason_first limit s (stopped un is less well) = absurd (some well)
  reason_first limit s (disk_failed rose) = of_disk rose
  reason_first limit s (turret_failed path rose well) = of_turret path rose well

  -- the report of a session has the wanted status
  reported_first : (opening : Opening) (limit : ℕ) (text_of : TextOf) (s : Session) (a : Answer)
      → IsReported state opening limit text_of s old new a → HasStatus wanted a
  reported_first opening limit text_of s a (reported least ends keeps) = reason_first limit s ends.cause
  reported_first opening limit text_of s a (unprepared least none keeps) = tt

  -- an answer of `run` over its texts has the wanted status
  run_first : (limit : ℕ) (text_of : TextOf) (texts : Texts) (a : Answer) → IsRun state limit text_of texts old new a → HasStatus wanted a
  run_first limit text_of texts a (run.refused is v rests) = absurd (not_rested rests)
  run_first limit text_of texts a (run.unjudged rests) = tt
  run_first limit text_of texts a (run.not_begun f r rest) = unbegun_first texts f r rest
  run_first limit text_of texts a (run.ran s is same opened report) = reported_first _ limit text_of s a report

  -- an answer of `resume` has the wanted status
  resumed_first : (limit : ℕ) (a : Answer) → IsResumed state limit old new a → HasStatus wanted a
  resumed_first limit a (not_found f r rest) = unfound_first f r rest
  resumed_first limit a (resumed s is opened report) = reported_first _ limit _ s a report

  -- an answer of `run` over its files has the wanted status
  files_first : (limit : ℕ) (text_of : TextOf) (files : List Named) (shelf shelf' : ShelfState) (a : Answer)
      → IsOfFiles pair_texts files (RestsWhole old new) (λ texts. IsRun state limit text_of texts old new) shelf shelf' a → HasStatus wanted a
  files_first limit text_of files shelf shelf' a (not_had missing rests) = absurd (not_rested rests)
  files_first limit text_of files shelf shelf' a (unread all rests) = tt
  files_first limit text_of files shelf shelf' a (answers texts are from) = run_first limit text_of (pair_texts texts) a from

  -- an answer of `zones` over the text of its file has the wanted status
  zoned_first : (text : List ℕ) (a : Answer) → IsZoned old new text a → HasStatus wanted a
  zoned_first text a (bad_zones is rests) = absurd (not_rested rests)
  zoned_first text a (unread_zones rests) = tt
  zoned_first text a (zoned is told rest) = shown_first _ a told rest

  -- an answer of `zones` over its file has the wanted status
  zones_first : (files : List Named) (shelf shelf' : ShelfState) (a : Answer)
      → IsOfFiles only_text files (RestsWhole old new) (IsZoned old new) shelf shelf' a → HasStatus wanted a
  zones_first files shelf shelf' a (not_had missing rests) = absurd (not_rested rests)
  zones_first files shelf shelf' a (unread all rests) = tt
  zones_first files shelf shelf' a (answers text are from) = zoned_first (only_text text) a from

  -- a command that only found the run had no fault
  only_found : (e : Editing) → IsOnlyFound e old.disk new.disk → AreAtRest old new → ⊥
  only_found e only rest = not_calm rest (only.recovers.calm (λ fault. fault))

  -- an answer to edits of a run that is found has the wanted status
  edit_first : (e : Editing) (a : Answer) → IsEditOf e old.disk new.disk a → AreAtRest old new → HasStatus wanted a
  edit_first e a (edit.alarmed is only) rest = absurd (only_found e only rest)
  edit_first e a (edit.full none more only) rest = absurd (only_found e only rest)
  edit_first e a (edit.unready only) rest = tt
  edit_first e a (edit.none_asked none are only) rest = absurd (only_found e only rest)
  edit_first e a (edit.made none some are) rest = absurd (not_calm rest are.calm)
  edit_first e a (edit.failed none some writing rose) rest = of_disk rose

  -- an answer to edits, whether there is a run or not, has the wanted status
  edit_run_first : (edits : List PathEdit) (a : Answer) → IsEditedRun edits old.disk new.disk a → AreAtRest old new → HasStatus wanted a
  edit_run_first edits a (edit.not_found f r) rest = unfound_first f r rest
  edit_run_first edits a (edit.in_run e are is) rest = edit_first e a is rest

  -- an answer of `edit` over the text of its file has the wanted status
  edited_first : (text : List ℕ) (a : Answer) → IsEdited old new text a → HasStatus wanted a
  edited_first text a (edit.bad_edits is rests) = absurd (not_rested rests)
  edited_first text a (edit.unread_edits rests) = tt
  edited_first text a (edit.edited {edits} is told rest) = edit_run_first edits a told rest

  -- an answer of `edit` over its file has the wanted status
  edits_first : (files : List Named) (shelf shelf' : ShelfState) (a : Answer)
      → IsOfFiles only_text files (RestsWhole old new) (IsEdited old new) shelf shelf' a → HasStatus wanted a
  edits_first files shelf shelf' a (not_had missing rests) = absurd (not_rested rests)
  edits_first files shelf shelf' a (unread all rests) = tt
  edits_first files shelf shelf' a (answers text are from) = edited_first (only_text text) a from

  -- an answer of `branch` has the wanted status, if the first disk failed
  branched_first : {E : Type 0} (second : E → DiskState) (n : ℕ) (onto left : E) (a : Answer) → IsBranched second n old.disk new.disk onto left a
      → AreAtRest old new → HasStatus wanted a
  branched_first second n onto left a (branch.not_found f r same) rest = unfound_first f r rest
  branched_first second n onto left a (branch.branched run pair is history r of_run) rest = absurd (not_calm rest (r.calm (λ fault. fault)))

-- something failed in a call: `wanted` is 6 if it was the disk, and else 7
module _ {D E : Type 0} (state : D → DiskState) (second : E → DiskState) (wanted : ℕ) (call : Call E) (some : NoneFailed call.before.lathe call.after.lathe → ⊥)
    (of_disk : DiskRose call.before.lathe.disk.faults call.after.lathe.disk.faults → exit.disk_fault ≡ wanted)
    (of_turret : (path : Path) → Rose (of_path call.before.lathe.turrets path).faults (of_path call.after.lathe.turrets path).faults
    → call.after.lathe.disk.faults ≡ call.before.lathe.disk.faults → exit.turret_fault ≡ wanted) where
  -- the disk of the journal and the turrets before the call
  abbrev old : LatheState
  old = call.before.lathe

  -- the disk of the journal and the turrets after the call
  abbrev new : LatheState
  new = call.after.lathe

  -- an answer of each command has the wanted status
  command_first : (asked : Command) (a : Answer) → IsDueTo state second asked call.before call.after a → HasStatus wanted a
  command_first (command.Verify l r c) a due = absurd (not_rested state wanted old new some of_disk of_turret due.1)
  command_first (command.Trace l r c n) a due = absurd (not_rested state wanted old new some of_disk of_turret due.1)
  command_first (command.Races l r c) a due = absurd (not_rested state wanted old new some of_disk of_turret due.1)
  command_first (command.Waits l r c o) a due = absurd (not_rested state wanted old new some of_disk of_turret due.1)
  command_first (command.Run l r c n turrets) a due =
      files_first state wanted old new some of_disk of_turret n _ _ call.before.shelf call.after.shelf a due
  command_first (command.Resume n turrets) a due = resumed_first state wanted old new some of_disk of_turret n a due.0
  command_first (command.Edit name) a due =
      edits_first state wanted old new some of_disk of_turret (edits_named name) call.before.shelf call.after.shelf a due
  command_first command.Moves a due = shown_first state wanted old new some of_disk of_turret _ a due.0 due.1
  command_first command.State a due = shown_first state wanted old new some of_disk of_turret _ a due.0 due.1
  command_first (command.Make n turrets) a due = run_first state wanted old new some of_disk of_turret _ _ _ a due.0
  command_first (command.Zones name) a due =
      zones_first state wanted old new some of_disk of_turret (zones_named name) call.before.shelf call.after.shelf a due
  command_first (command.ZonesOf zones l r c) a due = absurd (not_rested state wanted old new some of_disk of_turret due.1)
  command_first (command.Branch n) a due = branched_first state wanted old new some of_disk of_turret second n _ _ a due.0 due.1
  command_first (command.Expand tape) a due = absurd (not_rested state wanted old new some of_disk of_turret due.1)
  command_first (command.Plain tape settings) a due = absurd (not_rested state wanted old new some of_disk of_turret due.1)

  -- an answer of the call has the wanted status
  call_first : (a : Answer) → IsDue state second call a → HasStatus wanted a
  call_first a (done.usage none rests still same) = absurd (not_rested state wanted old new some of_disk of_turret rests)
  call_first a (done.unread rests still same) = tt
  call_first a (done.commanded {command = asked} is due left) = command_first asked a due

-- if the count of faults of the journal's disk rose, the status of the call is 6
pub disk_first : {D E : Type 0} (state : D → DiskState) (second : E → DiskState) (call : Call E) → call.before.lathe.disk.faults < call.after.lathe.disk.faults
    → (a : Answer) → IsDue state second call a → HasStatus exit.disk_fault a
disk_first state second call rose =
    call_first state second exit.disk_fault call (λ well. absurd (omega (arith, rose, well.disk))) (λ again. refl)
    (λ path turret same. absurd (omega (arith, rose, same)))

-- if only the count of faults of a turret rose, the status of the call is 7
pub turret_first : {D E : Type 0} (state : D → DiskState) (second : E → DiskState) (call : Call E)
    → (DiskRose call.before.lathe.disk.faults call.after.lathe.disk.faults → ⊥) → (path : Path)
    → (of_path call.before.lathe.turrets path).faults < (of_path call.after.lathe.turrets path).faults
    → (a : Answer) → IsDue state second call a → HasStatus exit.turret_fault a
turret_first state second call calm path rose =
    call_first state second exit.turret_fault call (λ well. absurd (omega (arith, rose, well.turrets path))) (λ again. absurd (calm again))
    (λ other turret same. refl)

-- the count of faults of the second disk rose, which only a branch calls
module _ {D E : Type 0} (state : D → DiskState) (second : E → DiskState) (call : Call E)
    (rose : (second call.before.second).faults < (second call.after.second).faults) where
  -- the second disk was called
  called : call.after.second ≡ call.before.second → ⊥
  called same = omega (arith, rose, ap (λ (e : E). (second e).faults) same)

  -- the count of faults of the second disk did not stay
  calm_not : (second call.after.second).faults ≡ (second call.before.second).faults → ⊥
  calm_not well = omega (arith, rose, well)

  -- an answer to a branch of a run that is found has status 6
  branch_second : (run : FoundRun) (n : ℕ) (a : Answer) → IsBranchOf second run n call.before.second call.after.second a → HasStatus exit.disk_fault a
  branch_second run n a (branch.no_meeting few same) = absurd (called same)
  branch_second run n a (branch.made k enough is keeps) = absurd (calm_not is.calm)
  branch_second run n a (branch.run_seen enough seen keeps) = absurd (calm_not seen.calm)
  branch_second run n a (branch.failed enough more keeps) = refl
  branch_second run n a (branch.unmade stays well keeps) = tt

  -- an answer of `branch` has status 6
  branched_second : (n : ℕ) (old new : DiskState) (a : Answer) → IsBranched second n old new call.before.second call.after.second a
      → HasStatus exit.disk_fault a
  branched_second n old new a (branch.not_found f r same) = absurd (called same)
  branched_second n old new a (branch.branched run pair is history r of_run) = branch_second run n a of_run

  -- an answer of each command has status 6
  command_second : (asked : Command) (a : Answer) → IsDueTo state second asked call.before call.after a
      → LeavesSecond (kind_of (Some asked)) call.before.second call.after.second → HasStatus exit.disk_fault a
  command_second (command.Verify l r c) a due same = absurd (called same)
  command_second (command.Waits l r c o) a due same = absurd (called same)
  command_second (command.Races l r c) a due same = absurd (called same)
  command_second (command.Trace l r c n) a due same = absurd (called same)
  command_second (command.Run l r c n turrets) a due same = absurd (called same)
  command_second (command.Resume n turrets) a due same = absurd (called same)
  command_second (command.Edit name) a due same = absurd (called same)
  command_second command.Moves a due same = absurd (called same)
  command_second command.State a due same = absurd (called same)
  command_second (command.Zones name) a due same = absurd (called same)
  command_second (command.ZonesOf zones l r c) a due same = absurd (called same)
  command_second (command.Branch n) a due same = branched_second n _ _ a due.0
  command_second (command.Make n turrets) a due same = absurd (called same)
  command_second (command.Expand tape) a due same = absurd (called same)
  command_second (command.Plain tape settings) a due same = absurd (called same)

  -- the status of a call: 6, if a call of the second disk failed
  pub second_first : (a : Answer) → IsDue state second call a → HasStatus exit.disk_fault a
  second_first a (done.usage none rests still same) = absurd (called same)
  second_first a (done.unread rests still same) = tt
  second_first a (done.commanded {command = asked} is due left) = command_second asked a due left
