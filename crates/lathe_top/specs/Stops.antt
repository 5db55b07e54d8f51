-- What a stop at any moment of a call leaves.
-- The public laws of src/laws.rt are said in these words; no other crate takes them.
use Rattle.std.specs.Prelude.{◌≡◌, ◌⊎◌, ℕ, List, [], ◌∷◌, length, map, take, Option}
use Rattle.nc_outside.specs.Received.{TurretState}
use Rattle.nc_number.specs.declared.both.Both.{Both}
use Rattle.command_words.specs.declared.command.Command.{Command}
use Rattle.disk_model.specs.Device.{DiskState, Reads, IsSettled}
use Rattle.gate_file.specs.Chain.{IsNoRun}
use Rattle.run_records.specs.Entries.{Entry}
use Rattle.run_records.specs.declared.header.Header.{Header}
use Rattle.run_journal.specs.Meaning.{a_run}
use Rattle.nc_restart.specs.Lives.{AreOneHistory}
use Rattle.nc_restart.specs.Meaning.{StandsForRun}
use Rattle.nc_outside.specs.Files.{ShelfState}
use Rattle.nc_outside.specs.Written.{SinkState}
use Rattle.lathe_top.specs.Done.{Call, top_state, call_of}
use Rattle.lathe_top.specs.Kinds.{kind_of}
use Rattle.lathe_top.specs.Kept.{Leaves}
use Rattle.lathe_top.specs.Lathe.{LatheState, lathe_with}

-- the image stands for a history of the run with this header, which begins with these records
abbrev pub GoesOnAs : Header → List Entry → List ℕ → Type 0
GoesOnAs header found image =
    (history : List Entry) × StandsForRun (a_run header history) image × (take (length found) history ≡ found)

-- the image stands for a history of some run
abbrev pub IsSomeRun : List ℕ → Type 0
IsSomeRun image = (header : Header) × (history : List Entry) × StandsForRun (a_run header history) image

-- the image is not bad: it stands for no run, or for a history of some run
abbrev pub IsNoneOrRun : List ℕ → Type 0
IsNoneOrRun image = IsNoRun image ⊎ IsSomeRun image

-- A call of the program: its command, if its words are one, the disk and the turrets before and
-- after it, and how many moves each turret missed.
pub record CallOver (D : Type 0) : Type 0 where
  -- the command, if the words are one
  pub asked : Option Command
  -- the disk before the call
  pub disk : D
  -- the disk after the call
  pub after : D
  -- the turrets before the call
  pub turrets : Both TurretState
  -- the turrets after the call
  pub moved : Both TurretState
  -- how many moves each turret missed
  pub missed : Both ℕ

-- the disk and the turrets before the call
abbrev pub lathe_before : {D : Type 0} → (D → DiskState) → CallOver D → LatheState
lathe_before state call = lathe_with (state call.disk) call.turrets

-- the disk and the turrets after the call, and the moves that each turret missed
abbrev pub lathe_behind : {D : Type 0} → (D → DiskState) → CallOver D → LatheState
lathe_behind state call = record { disk = state call.after; turrets = call.moved; missed = call.missed }

-- The words of a call, and the shelf, the second disk and the sink before and after it.
pub record Around (E : Type 0) : Type 0 where
  -- the words of the call
  pub words : List (List ℕ)
  -- the shelf before the call
  pub shelf : ShelfState
  -- the shelf after the call
  pub shelf_after : ShelfState
  -- the second disk before the call
  pub second : E
  -- the second disk after the call
  pub second_after : E
  -- the sink before the call
  pub sink : SinkState
  -- the sink after the call
  pub sink_after : SinkState

-- all that is known of the call
abbrev pub call_in : {D E : Type 0} → (D → DiskState) → Around E → CallOver D → Call E
call_in state around call =
    call_of around.words (top_state around.shelf (lathe_before state call) around.second around.sink)
    (top_state around.shelf_after (lathe_behind state call) around.second_after around.sink_after)

-- the disk makes known that it reads as these bytes, and the call leaves it and the turrets as its
-- kind of command does
pub record IsCall {D : Type 0} (state : D → DiskState) (bytes : List ℕ) (call : CallOver D) : Type 0 where
  -- the disk reads as these bytes before the call
  pub reads : Reads (state call.disk) bytes
  -- the call does no more than its kind of command may
  pub leaves : Leaves state (kind_of call.asked) (lathe_before state call) (lathe_behind state call)

-- a stop at some moment of the call leaves this image, also a stop inside a call of the disk
abbrev pub MayLeave : {D : Type 0} → (D → DiskState) → CallOver D → List ℕ → Type 0
MayLeave state call image = (state call.after).image_since (state call.disk).clock image

-- a call, and what the power cut at some moment of it left
pub record StoppedCall (D : Type 0) : Type 0 where
  -- the call
  pub call : CallOver D
  -- what the cut left on the disk
  pub image : List ℕ

-- the call began on a disk that had these bytes and nothing unsettled, and the cut left its image
pub record IsStopped {D : Type 0} (state : D → DiskState) (bytes : List ℕ) (stop : StoppedCall D) : Type 0 where
  -- it is a call over a disk with these bytes
  pub is : IsCall state bytes stop.call
  -- nothing was unsettled on the disk before the call
  pub settled : IsSettled (state stop.call.disk)
  -- the cut may leave this image
  pub left : MayLeave state stop.call stop.image

-- each call begins on the image that the cut before it left
abbrev pub AreStopped : {D : Type 0} → (D → DiskState) → List ℕ → List (StoppedCall D) → Type 0
AreStopped state bytes [] = Unit {0}
AreStopped state bytes (stop ∷ stops) = IsStopped state bytes stop × AreStopped state stop.image stops

-- the images that the cuts left, in order
abbrev pub images_of : {D : Type 0} → List (StoppedCall D) → List (List ℕ)
images_of stops = map (λ stop. stop.image) stops

-- each image stands for no run, and from one on, if any, they are one history
abbrev pub BecomeOneHistory : List (List ℕ) → Type 0
BecomeOneHistory [] = Unit {0}
BecomeOneHistory (image ∷ images) = (IsNoRun image × BecomeOneHistory images)
    ⊎ ((header : Header) × (history : List Entry) × StandsForRun (a_run header history) image × AreOneHistory header history images)
