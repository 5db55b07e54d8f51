-- What a command does to the disk and to the turrets is what its kind may do. A new command needs
-- its line here.
-- For the proof of `a_call_leaves_as_its_kind_may` (src/laws.rt).
use Rattle.std.proofs.Common.{inl, inr, ℕ, List, Some, Ok, Err, sym, subst}
use Rattle.command_words.specs.declared.command.Command.{Command}
use Rattle.command_words.specs.declared.command.Command.TheVariants as command
use Rattle.disk_model.specs.Device.{DiskState}
use Rattle.nc_verify.specs.declared.verified.Verified.{Verified}
use Rattle.nc_verify.specs.Verdict.{Texts}
use Rattle.run_records.specs.Entries.{Entry}
use Rattle.lathe_calls.specs.Answers.{Answer, whole, cut, unwritten, untold}
use Rattle.lathe_looks.specs.Fetched.{IsOfFiles, not_had, unread, answers}
use Rattle.lathe_looks.specs.Named.{Named, only_text, edits_named, pair_texts, zones_named}
use Rattle.edit_texts.specs.declared.edit_list.PathEdit.{PathEdit}
use Rattle.lathe_looks.specs.Shown.{IsShown, shown, unshown}
use Rattle.lathe_top.specs.Branched as branch
use Rattle.lathe_top.specs.Branched.{IsBranched}
use Rattle.lathe_top.specs.Done as done
use Rattle.lathe_top.specs.Done.{Call, TopState, command_of, IsDone, IsDue, IsDueTo}
use Rattle.lathe_top.specs.Edited as edit
use Rattle.lathe_top.specs.Edited.{IsEdited, IsEditedRun, IsEditOf, IsOnlyFound}
use Rattle.lathe_top.specs.Kept.{Editing, Opening, anew, again, HasSession, IsOpened, Leaves, OnlyLooks, RestsWhole}
use Rattle.lathe_top.specs.Kinds as kind
use Rattle.lathe_top.specs.Kinds.{Kind, begins, goes_on, kind_of}
use Rattle.lathe_top.specs.Lathe.{LatheState, AreAtRest}
use Rattle.lathe_top.specs.Ran.{TextOf, IsReported, reported, unprepared, IsRun, refused, unjudged, not_begun, ran, IsResumed, not_found, resumed}
use Rattle.lathe_top.specs.Session.{Session, IsSession}
use Rattle.lathe_top.specs.Zoned.{IsZoned, bad_zones, unread_zones, zoned}

-- Each lemma takes what was answered, and gives what the disk and the turrets are then.
module _ {D : Type 0} (state : D → DiskState) where
  -- a session that is reported leaves what a session may leave
  session_left : (opening : Opening) (limit : ℕ) (text_of : TextOf) (s : Session) (old new : LatheState) (answer : Answer) → IsSession s
      → IsOpened opening s old.disk → IsReported state opening limit text_of s old new answer → HasSession state opening limit old new
  session_left opening limit text_of s old new answer is opened (reported {reason} least ends keeps) = record {
    session = s;
    is = is;
    opened = opened;
    least = least;
    ended = inl (reason, ends);
    keeps = keeps;
  }
  session_left opening limit text_of s old new answer is opened (unprepared least none keeps) = record {
    session = s;
    is = is;
    opened = opened;
    least = least;
    ended = inr none;
    keeps = keeps;
  }

  -- `run` over its texts leaves what its kind may leave
  run_left : (limit : ℕ) (text_of : TextOf) (texts : Texts) (old new : LatheState) (answer : Answer) → IsRun state limit text_of texts old new answer
      → Leaves state (begins limit) old new
  run_left limit text_of texts old new answer (refused of_texts text rests) = inl (record { disk = inl rests.disk; turrets = rests.turrets })
  run_left limit text_of texts old new answer (unjudged rests) = inl (record { disk = inl rests.disk; turrets = rests.turrets })
  run_left limit text_of texts old new answer (not_begun fault refusal rest) =
      inl (record { disk = inr (texts, fault, refusal); turrets = rest })
  run_left limit text_of texts old new answer (ran s is same opened report) =
      inr (session_left anew limit text_of s old new answer is opened report)

  -- `run` over its files leaves what its kind may leave
  files_left : {E : Type 0} (limit : ℕ) (text_of : TextOf) (files : List Named) (old new : TopState E) (answer : Answer)
      → IsOfFiles pair_texts files (RestsWhole old.lathe new.lathe) (λ texts. IsRun state limit text_of texts old.lathe new.lathe) old.shelf new.shelf answer
      → Leaves state (begins limit) old.lathe new.lathe
  files_left limit text_of files old new answer (not_had missing rests) = inl (record { disk = inl rests.disk; turrets = rests.turrets })
  files_left limit text_of files old new answer (unread some rests) = inl (record { disk = inl rests.disk; turrets = rests.turrets })
  files_left limit text_of files old new answer (answers texts are run) = run_left limit text_of (pair_texts texts) old.lathe new.lathe answer run

  -- a command that only shows the journal leaves what its kind may leave
  look_left : (IsDue : Verified → List Entry → Answer → Type 0) (old new : LatheState) (answer : Answer) → IsShown IsDue old.disk new.disk answer
      → AreAtRest old new → OnlyLooks old new
  look_left IsDue old new answer (unshown fault recovers) rest = record { disk = inr (record { result = Err fault; recovers = recovers }); turrets = rest }
  look_left IsDue old new answer (shown found pair accepted history recovers due) rest =
      record { disk = inr (record { result = Ok found; recovers = recovers }); turrets = rest }

  -- `zones` over the text of its file leaves what its kind may leave
  zoned_left : (text : List ℕ) (old new : LatheState) (answer : Answer) → IsZoned old new text answer → OnlyLooks old new
  zoned_left text old new answer (bad_zones is rests) = record { disk = inl rests.disk; turrets = rests.turrets }
  zoned_left text old new answer (unread_zones rests) = record { disk = inl rests.disk; turrets = rests.turrets }
  zoned_left text old new answer (zoned is told rest) = look_left _ old new answer told rest

  -- `zones` over its file leaves what its kind may leave
  zones_left : {E : Type 0} (files : List Named) (old new : TopState E) (answer : Answer)
      → IsOfFiles only_text files (RestsWhole old.lathe new.lathe) (IsZoned old.lathe new.lathe) old.shelf new.shelf answer
      → OnlyLooks old.lathe new.lathe
  zones_left files old new answer (not_had missing rests) = record { disk = inl rests.disk; turrets = rests.turrets }
  zones_left files old new answer (unread some rests) = record { disk = inl rests.disk; turrets = rests.turrets }
  zones_left files old new answer (answers text are is) = zoned_left (only_text text) old.lathe new.lathe answer is

  -- an editing that only found the run leaves what its kind may leave
  looked_left : (e : Editing) (old new : LatheState) → IsOnlyFound e old.disk new.disk → AreAtRest old new → Leaves state kind.edits old new
  looked_left e old new only rest = inl (record {
    disk = inr (record { result = Ok (record { header = e.header; entries = e.found }); recovers = only.recovers });
    turrets = rest;
  })

  -- edits of a run that was found, made or not, leave what their kind may leave
  found_left : (e : Editing) (old new : LatheState) (answer : Answer) → IsEditOf e old.disk new.disk answer → AreAtRest old new
      → Leaves state kind.edits old new
  found_left e old new answer (edit.alarmed is only) rest = looked_left e old new only rest
  found_left e old new answer (edit.full none more only) rest = looked_left e old new only rest
  found_left e old new answer (edit.unready only) rest = looked_left e old new only rest
  found_left e old new answer (edit.none_asked none are only) rest = looked_left e old new only rest
  found_left e old new answer (edit.made none some are) rest = inr (record { editing = e; writing = are.writing; turrets = rest })
  found_left e old new answer (edit.failed none some writing rose) rest = inr (record { editing = e; writing = writing; turrets = rest })

  -- edits of the run on the disk, if there is one, leave what their kind may leave
  edit_left : (edits : List PathEdit) (old new : LatheState) (answer : Answer) → IsEditedRun edits old.disk new.disk answer → AreAtRest old new
      → Leaves state kind.edits old new
  edit_left edits old new answer (edit.not_found fault recovers) rest =
      inl (record { disk = inr (record { result = Err fault; recovers = recovers }); turrets = rest })
  edit_left edits old new answer (edit.in_run e are is) rest = found_left e old new answer is rest

  -- `edit` over the text of its file leaves what its kind may leave
  edited_left : (text : List ℕ) (old new : LatheState) (answer : Answer) → IsEdited old new text answer → Leaves state kind.edits old new
  edited_left text old new answer (edit.bad_edits is rests) = inl (record { disk = inl rests.disk; turrets = rests.turrets })
  edited_left text old new answer (edit.unread_edits rests) = inl (record { disk = inl rests.disk; turrets = rests.turrets })
  edited_left text old new answer (edit.edited {edits} is told rest) = edit_left edits old new answer told rest

  -- `edit` over its file leaves what its kind may leave
  edits_left : {E : Type 0} (files : List Named) (old new : TopState E) (answer : Answer)
      → IsOfFiles only_text files (RestsWhole old.lathe new.lathe) (IsEdited old.lathe new.lathe) old.shelf new.shelf answer
      → Leaves state kind.edits old.lathe new.lathe
  edits_left files old new answer (not_had missing rests) = inl (record { disk = inl rests.disk; turrets = rests.turrets })
  edits_left files old new answer (unread some rests) = inl (record { disk = inl rests.disk; turrets = rests.turrets })
  edits_left files old new answer (answers text are is) = edited_left (only_text text) old.lathe new.lathe answer is

  -- `resume` leaves what its kind may leave
  resumed_left : (limit : ℕ) (old new : LatheState) (answer : Answer) → IsResumed state limit old new answer
      → Leaves state (goes_on limit) old new
  resumed_left limit old new answer (not_found fault recovers rest) =
      inl (record { disk = inr (record { result = Err fault; recovers = recovers }); turrets = rest })
  resumed_left limit old new answer (resumed s is opened report) = inr (session_left again limit _ s old new answer is opened report)

  -- `branch` only looks at the first disk
  branch_left : {E : Type 0} (second : E → DiskState) (n : ℕ) (old new : LatheState) (onto left : E) (answer : Answer)
      → IsBranched second n old.disk new.disk onto left answer → AreAtRest old new → OnlyLooks old new
  branch_left second n old new onto left answer (branch.not_found fault recovers same) rest =
      record { disk = inr (record { result = Err fault; recovers = recovers }); turrets = rest }
  branch_left second n old new onto left answer (branch.branched run pair is history recovers of_run) rest =
      record { disk = inr (record { result = Ok run; recovers = recovers }); turrets = rest }

  -- any command leaves what its kind may leave
  due_left : {E : Type 0} (second : E → DiskState) (asked : Command) (old new : TopState E) (answer : Answer) → IsDueTo state second asked old new answer
      → Leaves state (kind_of (Some asked)) old.lathe new.lathe
  due_left second (command.Verify left right settings) old new answer due = due.1
  due_left second (command.Waits left right settings outside) old new answer due = due.1
  due_left second (command.Races left right settings) old new answer due = due.1
  due_left second (command.Trace left right settings limit) old new answer due = due.1
  due_left second (command.Run left right settings limit turrets) old new answer due = files_left limit _ _ old new answer due
  due_left second (command.Resume limit turrets) old new answer due = resumed_left limit old.lathe new.lathe answer due.0
  due_left second (command.Edit name) old new answer due = edits_left (edits_named name) old new answer due
  due_left second command.Moves old new answer due = look_left _ old.lathe new.lathe answer due.0 due.1
  due_left second command.State old new answer due = look_left _ old.lathe new.lathe answer due.0 due.1
  due_left second (command.Make number turrets) old new answer due = run_left _ _ _ old.lathe new.lathe answer due.0
  due_left second (command.Zones name) old new answer due = zones_left (zones_named name) old new answer due
  due_left second (command.ZonesOf zones left right settings) old new answer due = due.1
  due_left second (command.Branch n) old new answer due = branch_left second n old.lathe new.lathe old.second new.second answer due.0 due.1
  due_left second (command.Expand tape) old new answer due = due.1
  due_left second (command.Plain tape settings) old new answer due = due.1

  -- a command that calls neither the disk nor a turret does what any kind may
  rests_left : (asked : Kind) (old new : LatheState) → RestsWhole old new → Leaves state asked old new
  rests_left kind.rests old new calm = calm
  rests_left kind.looks old new calm = record { disk = inl calm.disk; turrets = calm.turrets }
  rests_left kind.branches old new calm = record { disk = inl calm.disk; turrets = calm.turrets }
  rests_left kind.edits old new calm = inl (record { disk = inl calm.disk; turrets = calm.turrets })
  rests_left (kind.begins limit) old new calm = inl (record { disk = inl calm.disk; turrets = calm.turrets })
  rests_left (kind.goes_on limit) old new calm = inl (record { disk = inl calm.disk; turrets = calm.turrets })

  -- any call, also one whose words are no command, leaves what its kind may leave
  call_left : {E : Type 0} (second : E → DiskState) (call : Call E) (answer : Answer) → IsDue state second call answer → Leaves state (kind_of (command_of call)) call.before.lathe call.after.lathe
  call_left second call answer (done.usage none rests still same) = rests_left (kind_of (command_of call)) call.before.lathe call.after.lathe rests
  call_left second call answer (done.unread rests still same) = rests_left (kind_of (command_of call)) call.before.lathe call.after.lathe rests
  call_left second call answer (done.commanded {command = asked} is due left) =
      subst (λ c. Leaves state (kind_of c) call.before.lathe call.after.lathe) (sym is) (due_left second asked call.before call.after answer due)

  -- what a call did that ended with this status is what its kind of command may do
  pub done_left : {E : Type 0} (second : E → DiskState) (call : Call E) (status : ℕ) → IsDone state second call status → Leaves state (kind_of (command_of call)) call.before.lathe call.after.lathe
  done_left second call status (whole due calm written) = call_left second call _ due
  done_left second call status (cut due rose n written) = call_left second call _ due
  done_left second call status (unwritten due calm n written) = call_left second call _ due
  done_left second call status (untold due calm written) = call_left second call _ due
