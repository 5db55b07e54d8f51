-- What a call of the program does: one relation over its words, and over what it works on before
-- and after it. A new command needs its line in `IsDueTo`.
-- The contract of `top` (src/control.rt) is this; the laws of this crate rest on it, and no other
-- crate takes it.
use Rattle.std.specs.Prelude.{◌≡◌, ℕ, ◌<◌, Some, None, Option, List, [], ◌∷◌, take, codes}
use Rattle.nc_number.specs.Both.{of_path}
use Rattle.nc_number.specs.declared.path.Path.{Path}
use Rattle.command_words.specs.declared.command.Command.{Command}
use Rattle.command_words.specs.declared.command.Command.TheVariants as command
use Rattle.command_words.specs.Listed.{listed_command}
use Rattle.command_words.specs.declared.making.TheConstants.{DEFAULT_BLOCKS}
use Rattle.disk_model.specs.Device.{DiskState, Reads}
use Rattle.disk_model.specs.Device.{Rose as DiskRose}
use Rattle.nc_outside.specs.Faults.{Rose}
use Rattle.nc_outside.specs.Files.{Files, ShelfState}
use Rattle.nc_outside.specs.Written.{SinkState, Writes}
use Rattle.lathe_looks.specs.declared.showing.Showing.TheVariants as showing
use Rattle.lathe_calls.specs.Answers.{Answer, tells, nothing, Ends, NoPutFailed}
use Rattle.tape_calls.specs.Expanded.{IsExpanded}
use Rattle.tape_calls.specs.Plained.{IsPlained}
use Rattle.lathe_calls.specs.Judged.{IsJudged}
use Rattle.lathe_calls.specs.Due.{IsOfPair}
use Rattle.lathe_looks.specs.Named.{Named, only_text, edits_named, files_of, pair_texts, tape_named, tape_texts, tape_with_settings, zones_and_pair, zones_before, zones_named}
use Rattle.lathe_looks.specs.Shown.{IsShowing, IsShown}
use Rattle.lathe_looks.specs.Zoned.{AreZonesFor}
use Rattle.lathe_calls.specs.Races.{IsRaceAnswer}
use Rattle.lathe_calls.specs.Statuses as exit
use Rattle.lathe_calls.specs.Traced.{IsTraced}
use Rattle.lathe_calls.specs.Waited.{AreWaits}
use Rattle.lathe_top.specs.Kinds.{Kind, rests, looks, branches, edits, begins, goes_on, kind_of, named_by}
use Rattle.lathe_top.specs.Lathe.{LatheState, AreAtRest}
use Rattle.lathe_top.specs.Made.{made_limit, made_texts, made_text}
use Rattle.lathe_top.specs.Outside.{outside_in}
use Rattle.lathe_top.specs.Branched.{IsBranched}
use Rattle.lathe_top.specs.Edited.{IsEdited}
use Rattle.lathe_top.specs.Kept.{RestsWhole}
use Rattle.lathe_top.specs.OverFiles.{IsOfFilesAlone, IsOverFiles}
use Rattle.lathe_top.specs.Ran.{IsRun, IsRunAnew, IsResumed}
use Rattle.lathe_top.specs.Zoned.{IsZoned}

-- What the program works on, at one moment: the shelf of the files, the disk of the journal with
-- the turrets of both paths, the second disk, and the sink of the answer.
pub record TopState (E : Type 0) : Type 1 where
  -- the shelf of the files
  pub shelf : ShelfState
  -- the disk of the journal with the turrets
  pub lathe : LatheState
  -- the second disk, which a branch is written to, as the code has it
  pub second : E
  -- the sink of the answer
  pub sink : SinkState

-- what the program works on, from its four parts
abbrev pub top_state : {E : Type 0} → ShelfState → LatheState → E → SinkState → TopState E
top_state shelf lathe second sink = record { shelf = shelf; lathe = lathe; second = second; sink = sink }

-- All that is known of a call: its words, and what it works on before and after it.
pub record Call (E : Type 0) : Type 1 where
  -- the words, each as its bytes
  pub words : List (List ℕ)
  -- what it works on, before the call
  pub before : TopState E
  -- what it works on, after the call
  pub after : TopState E

-- a call, from its words and what it works on before and after
abbrev pub call_of : {E : Type 0} → List (List ℕ) → TopState E → TopState E → Call E
call_of words before after = record { words = words; before = before; after = after }

-- the command of a call, if its words are one
abbrev pub command_of : {E : Type 0} → Call E → Option Command
command_of call = listed_command call.words

-- the shelf was not called
abbrev pub AsksNothing : {E : Type 0} → TopState E → TopState E → Type 0
AsksNothing old new = new.shelf ≡ old.shelf

-- the second disk is the one that it was, with all that it holds and had been asked for
abbrev pub SparesSecond : {E : Type 0} → TopState E → TopState E → Type 0
SparesSecond old new = new.second ≡ old.second

-- What a command of a kind does to the second disk: nothing, unless it branches. What a branch does
-- to it is in Branched.
abbrev pub LeavesSecond : {E : Type 0} → Kind → E → E → Type 0
LeavesSecond rests old new = new ≡ old
LeavesSecond looks old new = new ≡ old
LeavesSecond branches old new = Unit {0}
LeavesSecond edits old new = new ≡ old
LeavesSecond (begins limit) old new = new ≡ old
LeavesSecond (goes_on limit) old new = new ≡ old

-- What there is to tell of a command, and what it did to the disks and to the turrets. A command
-- that names no file does not call the shelf.
abbrev pub IsDueTo : {D E : Type 0} → (D → DiskState) → (E → DiskState) → Command → TopState E → TopState E → Answer → Type 0
IsDueTo state second (command.Verify left right settings) old new answer =
    IsOfFilesAlone pair_texts (files_of left right settings) IsJudged old.lathe new.lathe old.shelf new.shelf answer
IsDueTo state second (command.Waits left right settings outside) old new answer =
    IsOfFilesAlone pair_texts (files_of left right settings) (AreWaits (outside_in outside)) old.lathe new.lathe old.shelf new.shelf answer
IsDueTo state second (command.Races left right settings) old new answer =
    IsOfFilesAlone pair_texts (files_of left right settings) (IsOfPair IsRaceAnswer) old.lathe new.lathe old.shelf new.shelf answer
IsDueTo state second (command.Trace left right settings limit) old new answer =
    IsOfFilesAlone pair_texts (files_of left right settings) (IsTraced limit)
    old.lathe new.lathe old.shelf new.shelf answer
IsDueTo state second (command.Run left right settings limit turrets) old new answer =
    IsOverFiles pair_texts (files_of left right settings) (IsRunAnew state limit) old.lathe new.lathe old.shelf new.shelf answer
IsDueTo state second (command.Make number turrets) old new answer =
    IsRun state made_limit (made_text number) (made_texts number) old.lathe new.lathe answer × AsksNothing old new
IsDueTo state second (command.Resume limit turrets) old new answer = IsResumed state limit old.lathe new.lathe answer × AsksNothing old new
IsDueTo state second (command.Edit name) old new answer =
    IsOverFiles only_text (edits_named name) IsEdited old.lathe new.lathe old.shelf new.shelf answer
IsDueTo state second command.Moves old new answer =
    IsShown (IsShowing showing.Moves) old.lathe.disk new.lathe.disk answer × AreAtRest old.lathe new.lathe × AsksNothing old new
IsDueTo state second command.State old new answer =
    IsShown (IsShowing showing.State) old.lathe.disk new.lathe.disk answer × AreAtRest old.lathe new.lathe × AsksNothing old new
IsDueTo state second (command.Zones zones) old new answer =
    IsOverFiles only_text (zones_named zones) IsZoned old.lathe new.lathe old.shelf new.shelf answer
IsDueTo state second (command.ZonesOf zones left right settings) old new answer =
    IsOfFilesAlone zones_and_pair (zones_before zones (files_of left right settings)) (AreZonesFor DEFAULT_BLOCKS)
    old.lathe new.lathe old.shelf new.shelf answer
IsDueTo state second (command.Branch meetings) old new answer =
    IsBranched second meetings old.lathe.disk new.lathe.disk old.second new.second answer × AreAtRest old.lathe new.lathe × AsksNothing old new
IsDueTo state second (command.Expand tape) old new answer =
    IsOfFilesAlone only_text (tape_named tape) IsExpanded old.lathe new.lathe old.shelf new.shelf answer
IsDueTo state second (command.Plain tape settings) old new answer =
    IsOfFilesAlone tape_texts (tape_with_settings tape settings) IsPlained old.lathe new.lathe old.shelf new.shelf answer

-- the command was done, and the call ended with this status
abbrev pub Performs : {D E : Type 0} → (D → DiskState) → (E → DiskState) → Command → TopState E → TopState E → ℕ → Type 0
Performs state second command old new status =
    Ends (λ answer. IsDueTo state second command old new answer × LeavesSecond (kind_of (Some command)) old.second new.second)
    old.sink new.sink status

-- What there is to tell of a call, and what it did: its words are no command; or there was no
-- memory to read them; or it is what its command does. Only a command that branches calls the
-- second disk.
pub data IsDue {D E : Type 0} (state : D → DiskState) (second : E → DiskState) (call : Call E) : Answer → Type 0 where
  -- the words are no command
  usage : command_of call ≡ None → RestsWhole call.before.lathe call.after.lathe → AsksNothing call.before call.after
      → SparesSecond call.before call.after → IsDue state second call (tells exit.usage (codes "usage\n"))
  -- there was no memory to read the words
  unread : RestsWhole call.before.lathe call.after.lathe → AsksNothing call.before call.after → SparesSecond call.before call.after
      → IsDue state second call nothing
  -- the words are this command, and its answer is due
  commanded : {command : Command} {answer : Answer} → command_of call ≡ Some command
      → IsDueTo state second command call.before call.after answer
      → LeavesSecond (kind_of (Some command)) call.before.second call.after.second → IsDue state second call answer

-- The call did this and ended with this status: what there is to tell was told, or cut off by a
-- fault of the sink, or memory ran out for it; and the disks and the turrets are as their command
-- leaves them, whichever it is.
abbrev pub IsDone : {D E : Type 0} → (D → DiskState) → (E → DiskState) → Call E → ℕ → Type 0
IsDone state second call status = Ends (IsDue state second call) call.before.sink call.after.sink status

-- the call ended with this status, and no call of the sink failed; or with a fault of the sink, if
-- one rose; or with 12, as memory ran out or a thread was refused
pub data IsOr (old new : SinkState) (status : ℕ) : ℕ → Type 0 where
  -- the status itself
  itself : NoPutFailed old new → IsOr old new status status
  -- the sink failed
  sink_failed : Rose old.faults new.faults → IsOr old new status exit.sink_fault
  -- memory ran out, or a thread was refused
  memory_wanting : NoPutFailed old new → IsOr old new status exit.no_memory

-- the text stands whole after what was there, the status is its own, and no call of the sink failed;
-- or the sink failed after a part of it; or memory ran out after a part, or a thread was refused
-- before it
pub data IsTold (old new : SinkState) (status : ℕ) (text : List ℕ) : ℕ → Type 0 where
  -- the text was written whole
  in_full : NoPutFailed old new → Writes old new text → IsTold old new status text status
  -- the sink failed after the first n bytes
  cut_off : Rose old.faults new.faults → (n : ℕ) → Writes old new (take n text) → IsTold old new status text exit.sink_fault
  -- memory ran out after the first n bytes, or a thread was refused and n is 0
  left_off : NoPutFailed old new → (n : ℕ) → Writes old new (take n text) → IsTold old new status text exit.no_memory

-- if files are named, the shelf makes known what it holds, and did not fail
abbrev pub ServesFiles : {E : Type 0} → List Named → Call E → Type 0
ServesFiles [] call = Unit {0}
ServesFiles (file ∷ files) call = ((told : Files) × (call.before.shelf.files ≡ Some told))
    × (Rose call.before.shelf.faults call.after.shelf.faults → ⊥)

-- the disk makes its bytes known, and did not fail
pub record ServesDisk (old new : DiskState) : Type 0 where
  -- the bytes of the disk before the call
  pub bytes : List ℕ
  -- a read of the disk gives these bytes
  pub tells : Reads old bytes
  -- no call of the disk failed
  pub calm : DiskRose old.faults new.faults → ⊥

-- the disk of the journal makes its bytes known, and did not fail
abbrev pub ServesJournal : {E : Type 0} → Call E → Type 0
ServesJournal call = ServesDisk call.before.lathe.disk call.after.lathe.disk

-- no turret failed
abbrev pub ServesTurrets : {E : Type 0} → Call E → Type 0
ServesTurrets call = (path : Path) → Rose (of_path call.before.lathe.turrets path).faults
    (of_path call.after.lathe.turrets path).faults → ⊥

-- what a command of a kind uses besides files makes known what it holds, and did not fail
abbrev pub ServesKind : {E : Type 0} → (E → DiskState) → Kind → Call E → Type 0
ServesKind second rests call = Unit {0}
ServesKind second looks call = ServesJournal call
ServesKind second branches call = ServesJournal call × ServesDisk (second call.before.second) (second call.after.second)
ServesKind second edits call = ServesJournal call
ServesKind second (begins limit) call = ServesJournal call × ServesTurrets call
ServesKind second (goes_on limit) call = ServesJournal call × ServesTurrets call

-- all that the command of a call uses makes known what it holds, and did not fail
pub record Serves {E : Type 0} (second : E → DiskState) (call : Call E) : Type 0 where
  -- the shelf, for the files that the command names
  pub files : ServesFiles (named_by (command_of call)) call
  -- the disks and the turrets that the command's kind uses
  pub others : ServesKind second (kind_of (command_of call)) call

-- The causes of a call have one order, whatever the outside makes known. If the count of faults of
-- the sink rose, the status is 5. Else, if that of either disk rose, it is 6. Else, if that of a
-- turret rose, it is 7. If what the command uses makes known what it holds and did not fail, what is
-- due is told, with its text and its status. Instead of each but the first memory may have run out,
-- or a thread been refused.
pub record GetsItsStatus {D E : Type 0} (state : D → DiskState) (second : E → DiskState) (call : Call E) (result : ℕ) : Type 0 where
  -- words that are no command are told so, with status 2
  pub usage : command_of call ≡ None → IsTold call.before.sink call.after.sink exit.usage (codes "usage\n") result
  -- if a call of the sink failed, the status is 5
  pub sink : call.before.sink.faults < call.after.sink.faults → result ≡ exit.sink_fault
  -- if a call of the journal's disk failed, the status is 6
  pub disk : call.before.lathe.disk.faults < call.after.lathe.disk.faults → IsOr call.before.sink call.after.sink exit.disk_fault result
  -- if a call of the second disk failed, the status is 6
  pub second_disk : (second call.before.second).faults < (second call.after.second).faults
      → IsOr call.before.sink call.after.sink exit.disk_fault result
  -- if no call of the journal's disk but one of a turret failed, the status is 7
  pub turret : (DiskRose call.before.lathe.disk.faults call.after.lathe.disk.faults → ⊥) → (path : Path)
      → (of_path call.before.lathe.turrets path).faults < (of_path call.after.lathe.turrets path).faults
      → IsOr call.before.sink call.after.sink exit.turret_fault result
  -- if all that the command uses serves, what is due is told with its status
  pub served : Serves second call → (status : ℕ) (text : List ℕ) → IsDue state second call (tells status text)
      → IsTold call.before.sink call.after.sink status text result
