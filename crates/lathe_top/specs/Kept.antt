-- What a call does to the disk and to the turrets, by the kind of its command. What it answers is
-- in Ran, Edited, Branched and Zoned.
-- What `top` promises is said in it; no other crate takes it.
use Rattle.std.specs.Prelude.{◌≡◌, ◌⊎◌, ℕ, ◌+◌, ◌*◌, ◌≤◌, true, List, [], ◌++◌, length, take, Result, Err}
use Rattle.disk_model.specs.Device.{DiskState, Reads, Rose}
use Rattle.disk_model.specs.Moments.{LeavesOnly, Unwritten, Uses}
use Rattle.gate_file.specs.declared.fault.GateFault.{GateFault}
use Rattle.gate_file.specs.Chain.{IsRunThere}
use Rattle.nc_verify.specs.declared.verified.Verified.{Verified}
use Rattle.nc_verify.specs.Verdict.{Texts}
use Rattle.edit_texts.specs.declared.edit_list.PathEdit.{PathEdit}
use Rattle.run_edits.specs.Made.{edits_end, records_of}
use Rattle.run_records.specs.Entries.{Entry}
use Rattle.run_records.specs.declared.header.Header.{Header}
use Rattle.run_records.specs.declared.version.Version.{Version}
use Rattle.run_records.specs.declared.version.Version.TheVariants.{Two}
use Rattle.run_records.specs.Headers.{header_bytes}
use Rattle.run_journal.specs.Batches.{records_bytes}
use Rattle.run_journal.specs.Beginning.{BeginsRun, IsRunBeginning}
use Rattle.run_journal.specs.Meaning.{a_run}
use Rattle.run_journal.specs.Stands.{Holds, StandsEither}
use Rattle.run_table.specs.Recording.{StandsForPrefix}
use Rattle.nc_restart.specs.declared.fault.RestartFault.{RestartFault}
use Rattle.nc_restart.specs.Pair.{texts_of, IsPairOf}
use Rattle.nc_restart.specs.History.{IsHistory}
use Rattle.nc_restart.specs.Meaning.{StandsForRun}
use Rattle.nc_restart.specs.Recovered.{FoundRun, Recovers}
use Rattle.lathe_top.specs.Kinds.{Kind, rests, looks, branches, edits, begins, goes_on}
use Rattle.lathe_top.specs.Lathe.{LatheState, AreAtRest}
use Rattle.lathe_looks.specs.Standing.{is_over}
use Rattle.lathe_top.specs.Session.{Session, IsSession, machine_found}
use Rattle.lathe_top.specs.Turrets.{IsSessionEnd}

-- how a session opens: by a new journal, or by a recovery
pub data Opening : Type 0 where
  -- a new journal was begun
  anew : Opening
  -- the journal of a run was found
  again : Opening

-- the most calls of the disk that an opening makes
abbrev pub opening_calls : Opening → ℕ
opening_calls anew = 12
opening_calls again = 20

-- the byte past which no write of a session ends: fourteen bytes, the header, and of each record
-- its bytes and six more
abbrev pub end_of : Session → ℕ
end_of s = 14 + length (header_bytes s.header) + length (records_bytes s.history) + 6 * length s.history

-- what a crash leaves while a session opens: an image from before; or, if that is by a new journal,
-- no run, or the journal without a record
abbrev pub IsOfOpening : Opening → Session → (List ℕ → Type 0) → List ℕ → Type 0
IsOfOpening anew s image c = IsRunBeginning image s.header c
IsOfOpening again s image c = image c

-- the disk holds these records of the session, in a journal of this version
abbrev pub HoldsIn : Version → Session → List Entry → DiskState → Type 0
HoldsIn version s entries disk = (end : ℕ) × Holds s.header version entries disk end

-- The journal has the version that it had at its opening: `begun` is the disk at that moment, and
-- `new` now.
pub record KeepsVersion (s : Session) (least : ℕ) (begun new : DiskState) : Type 0 where
  -- the version of the journal
  pub version : Version
  -- a journal that was begun with version 2 has this version
  pub second : s.header.version ≡ Two → version ≡ Two
  -- at its opening the journal had all that was found, and this version
  pub opened : HoldsIn version s s.found begun
  -- now it has `least` records, and this version
  pub now : HoldsIn version s (take least s.history) new

-- What a session does to the disk, in two spans of time. Up to the moment at which the opening
-- answered, a crash leaves an image of the opening; from then on a prefix of the history that has
-- all that was found; and now one of `least` records at least. A run that was over is only looked
-- at. The last two fields say how far the disk is used.
pub record KeepsSession {D : Type 0} (state : D → DiskState) (opening : Opening) (s : Session) (least : ℕ) (old new : DiskState) : Type 0 where
  -- the disk at the moment at which the opening answered
  pub begun : D
  -- up to that moment a crash leaves an image of the opening
  pub opens : (bytes : List ℕ) → Reads old bytes → LeavesOnly (IsOfOpening opening s old.image) old (state begun)
  -- from then on a crash leaves a prefix of the history that has all that was found
  pub goes : (bytes : List ℕ) → Reads old bytes → LeavesOnly (StandsForPrefix s.header (length s.found) s.history) (state begun) new
  -- now a crash leaves a prefix of `least` records at least
  pub left : (bytes : List ℕ) → Reads old bytes → (c : List ℕ) → new.image c → StandsForPrefix s.header least s.history c
  -- to a run that was over at its opening nothing is written from then on
  pub over : is_over (machine_found s) ≡ true → Unwritten (state begun) new
  -- a call of the disk failed, or the journal keeps the version that it had at its opening
  pub version : (bytes : List ℕ) → Reads old bytes → Rose old.faults new.faults ⊎ KeepsVersion s least (state begun) new
  -- how many calls of the disk there were at most, and how far they reach
  pub uses : Uses (opening_calls opening + 4 * length s.history) (end_of s) old new
  -- the count of faults doesn't sink
  pub later : old.faults ≤ new.faults

-- the disk had no run, if it tells its content
abbrev pub HadNoRun : DiskState → Type 0
HadNoRun old = (bytes : List ℕ) → Reads old bytes → IsRunThere bytes → ⊥

-- How a session opened. A new journal has no records, and the disk had no run. A recovery found
-- what the disk stands for.
abbrev pub IsOpened : Opening → Session → DiskState → Type 0
IsOpened anew s old = (s.found ≡ []) × HadNoRun old
IsOpened again s old = (bytes : List ℕ) → Reads old bytes → StandsForRun (a_run s.header s.found) bytes

-- the call made no call of the disk
pub record Untouched (old new : DiskState) : Type 0 where
  -- nothing was written
  pub unwritten : Unwritten old new
  -- there was no call, and no write reaches further than before
  pub uses : Uses 0 0 old new
  -- the count of faults stayed
  pub faults : new.faults ≡ old.faults

-- the call looked for a run on the disk, and wrote nothing
pub record IsLook (old new : DiskState) : Type 0 where
  -- what the recovery found
  pub result : Result FoundRun RestartFault
  -- the recovery wrote nothing
  pub recovers : Recovers old new result

-- the header of a new journal of these texts: it has them, and version 2
pub record IsNewHeader (texts : Texts) (header : Header) : Type 0 where
  -- the header has these texts
  pub same : texts_of header ≡ texts
  -- the version of the journal is 2
  pub version : header.version ≡ Two

-- a new journal for these texts, which are accepted, was refused
pub record IsRefusedBeginning (texts : Texts) (fault : GateFault) (old new : DiskState) : Type 0 where
  -- the header that the new journal was to have
  pub header : Header
  -- the header has these texts, and version 2
  pub fresh : IsNewHeader texts header
  -- the pair that the texts are
  pub pair : Verified
  -- the texts are accepted, as this pair
  pub accepted : IsPairOf (texts_of header) pair
  -- the beginning failed with this fault
  pub begins : BeginsRun {A = Unit {0}} header old new (Err fault)

-- neither the disk nor a turret was called, and no move was missed
pub record RestsWhole (old new : LatheState) : Type 0 where
  -- the disk was not called
  pub disk : Untouched old.disk new.disk
  -- no turret was called, and no move was missed
  pub turrets : AreAtRest old new

-- no turret was called, and the call looked for a run at most
pub record OnlyLooks (old new : LatheState) : Type 0 where
  -- the disk was not called, or a run was looked for there
  pub disk : Untouched old.disk new.disk ⊎ IsLook old.disk new.disk
  -- no turret was called, and no move was missed
  pub turrets : AreAtRest old new

-- no turret was called, and a new journal was refused, or not asked for
pub record OnlyBegins (old new : LatheState) : Type 0 where
  -- the disk was not called, or a new journal on it was refused
  pub disk : Untouched old.disk new.disk ⊎ ((texts : Texts) × (fault : GateFault) × IsRefusedBeginning texts fault old.disk new.disk)
  -- no turret was called, and no move was missed
  pub turrets : AreAtRest old new

-- a session of at most so many records
pub record HasSession {D : Type 0} (state : D → DiskState) (opening : Opening) (limit : ℕ) (old new : LatheState) : Type 0 where
  -- the session that the call made
  pub session : Session
  -- it is a session of an accepted pair
  pub is : IsSession session
  -- how it opened on the disk
  pub opened : IsOpened opening session old.disk
  -- how many records the disk holds at least
  pub least : ℕ
  -- how it ended, and what the turrets got
  pub ended : IsSessionEnd limit session least old new
  -- what it did to the disk
  pub keeps : KeepsSession state opening session least old.disk new.disk

-- An editing of a run: the header of its journal, the pair that its texts are, the records that
-- were found, and the edits.
pub record Editing : Type 0 where
  -- the header of the journal
  pub header : Header
  -- the accepted pair of its texts
  pub pair : Verified
  -- the records that were found
  pub found : List Entry
  -- the edits that are asked for
  pub edits : List PathEdit

-- the records of the edits
abbrev pub made_of : Editing → List Entry
made_of e = records_of e.edits

-- the records that were found, and those of the edits in their order
abbrev pub history_with : Editing → List Entry
history_with e = e.found ++ made_of e

-- The header's texts are accepted; what was found is a history of their pair, and so it is with the
-- edits after it.
pub record IsEditing (e : Editing) : Type 0 where
  -- the header's texts are accepted, as this pair
  pub accepted : IsPairOf (texts_of e.header) e.pair
  -- the records that were found are a history of the pair
  pub found_is : IsHistory e.pair e.found
  -- these records and those of the edits are a history of the pair
  pub history_is : IsHistory e.pair (history_with e)

-- the image stands for what was found, or for that and all edits
abbrev pub HasAllOrNone : Editing → List ℕ → Type 0
HasAllOrNone e image = StandsEither e.header e.found (made_of e) image

-- What edits do to the disk. A crash at any moment leaves an image from before, or what was found,
-- or that and all edits; now it leaves one of the last two. The last two fields say how far the
-- disk is used.
pub record KeepsEdits (e : Editing) (old new : DiskState) : Type 0 where
  -- at any moment a crash leaves an image from before, or what was found with all edits or none
  pub any_moment : (bytes : List ℕ) → Reads old bytes → LeavesOnly (λ c. old.image c ⊎ HasAllOrNone e c) old new
  -- now a crash leaves what was found, with all edits or none
  pub left : (bytes : List ℕ) → Reads old bytes → (c : List ℕ) → new.image c → HasAllOrNone e c
  -- how many calls of the disk there were at most, and how far they reach
  pub uses : Uses (opening_calls again + 4 * length (history_with e)) (edits_end e.header (history_with e)) old new
  -- the count of faults doesn't sink
  pub later : old.faults ≤ new.faults

-- the run was found on the disk, and its edits were written or the disk failed in that
pub record IsWriting (e : Editing) (old new : DiskState) : Type 0 where
  -- the edits may follow the records that were found
  pub is : IsEditing e
  -- the disk stood for the records that were found
  pub opened : (bytes : List ℕ) → Reads old bytes → StandsForRun (a_run e.header e.found) bytes
  -- what the edits did to the disk
  pub keeps : KeepsEdits e old new

-- edits were written or the disk failed in that; no turret was called
pub record HasEdits (old new : LatheState) : Type 0 where
  -- the run, and its edits
  pub editing : Editing
  -- what the writing of the edits did to the disk
  pub writing : IsWriting editing old.disk new.disk
  -- no turret was called
  pub turrets : AreAtRest old new

-- What a command of a kind does to the disk and to the turrets. Only a command that begins or goes
-- on calls a turret.
abbrev pub Leaves : {D : Type 0} → (D → DiskState) → Kind → LatheState → LatheState → Type 0
Leaves state rests old new = RestsWhole old new
Leaves state looks old new = OnlyLooks old new
Leaves state branches old new = OnlyLooks old new
Leaves state edits old new = OnlyLooks old new ⊎ HasEdits old new
Leaves state (begins limit) old new = OnlyBegins old new ⊎ HasSession state anew limit old new
Leaves state (goes_on limit) old new = OnlyLooks old new ⊎ HasSession state again limit old new
