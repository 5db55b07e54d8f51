-- How a journal is opened: what is found, or the one reason why it can't be.
use Rattle.std.specs.Prelude.{◌≡◌, ℕ, ◌+◌, ◌*◌, ◌≤◌, List, length, Result, Ok, Err, IfOk, IfErr}
use Rattle.disk_model.specs.Device.{DiskState, Reads, IsSettled}
use Rattle.nc_number.specs.Faults.{Rose}
use Rattle.disk_model.specs.Moments.{Unwritten, Uses}
use Rattle.gate_file.specs.declared.fault.GateFault.{GateFault}
use Rattle.gate_file.specs.declared.fault.GateFault.TheVariants.{DiskFault as GateDisk, NoRun as GateNone, RunThere as GateThere, Cut as GateCut, NoMemory as GateMemory}
use Rattle.gate_file.specs.Chain.{Spells, IsNoRun, IsCutAt}
use Rattle.gate_file.specs.Gate.{Keeps, OpeningUses}
use Rattle.run_records.specs.Entries.{Entry}
use Rattle.run_records.specs.declared.header.Header.{Header}
use Rattle.run_records.specs.declared.version.Version.{Version}
use Rattle.run_records.specs.Headers.{header_bytes}
use Rattle.run_journal.specs.declared.fault.JournalFault.{JournalFault}
use Rattle.run_journal.specs.declared.fault.JournalFault.TheVariants.{DiskFault, NoRun, Cut, BadRecord, NoMemory}
use Rattle.run_journal.specs.declared.opening.Opened.{Opened}
use Rattle.run_journal.specs.Batches.{Piece, bodies_of, version_behind, IsRun}
use Rattle.run_journal.specs.Places.{places}
use Rattle.run_journal.specs.Bad.{IsBadAt}

-- why a journal is not opened: a call of the disk failed, or the file holds no run, an entry that
-- is cut short or bodies that are no run (and then all that a read gives is on the disk), or memory
-- ran out, of which nothing is said
abbrev pub RefusesRun : JournalFault → DiskState → DiskState → Type 0
RefusesRun DiskFault old new = Rose old.faults new.faults
RefusesRun NoRun old new = IsSettled new × ((bytes : List ℕ) → Reads old bytes → IsNoRun bytes)
RefusesRun (Cut at) old new = IsSettled new × ((bytes : List ℕ) → Reads old bytes → IsCutAt at bytes)
RefusesRun (BadRecord offset cause) old new =
    IsSettled new × ((bytes : List ℕ) → Reads old bytes → IsBadAt offset cause bytes)
RefusesRun NoMemory old new = Unit {0}

-- a journal is refused as its file of gates is (`RunThere` is no fault of an opening)
abbrev pub IsFaultOf : GateFault → JournalFault → Type 0
IsFaultOf GateDisk fault = fault ≡ DiskFault
IsFaultOf GateNone fault = fault ≡ NoRun
IsFaultOf GateThere fault = ⊥
IsFaultOf (GateCut at) fault = fault ≡ Cut at
IsFaultOf GateMemory fault = fault ≡ NoMemory

-- what an opening found: the header, the version by now, the records, where each of them begins,
-- and where the shut gate stands
pub record Found : Type 0 where
  -- the header of the run
  pub header : Header
  -- the version of the journal by now
  pub version : Version
  -- the records, in order
  pub entries : List Entry
  -- where each record begins in the file
  pub offsets : List ℕ
  -- where the shut gate stands
  pub end : ℕ

-- what it found are these pieces, which the file spells and the disk keeps
pub record IsFound (pieces : List Piece) (old new : DiskState) (found : Found) : Type 0 where
  -- the pieces are a run of the header and the records
  pub run : IsRun found.header pieces found.entries
  -- the version by now is that after the pieces
  pub version : version_behind found.header.version pieces ≡ found.version
  -- each offset is where the record stands
  pub offsets : found.offsets ≡ places (5 + length (header_bytes found.header)) pieces
  -- the file spells the bodies of the header and the pieces, and the disk keeps them
  pub file : (bytes : List ℕ) → Reads old bytes → Spells (bodies_of found.header pieces) bytes
      × Keeps (bodies_of found.header pieces) new found.end
  -- four calls a piece and some more, and nothing is written
  pub uses : Uses (4 * (length pieces + 2) + 4) 0 old new

-- the answer is a fault of the disk
abbrev pub IsDiskFault : {A : Type 0} → Result A JournalFault → Type 0
IsDiskFault (Ok answer) = ⊥
IsDiskFault (Err fault) = fault ≡ DiskFault

-- What a call that opens a journal promises.
pub record FindsRun (old new : DiskState) (result : Result Found JournalFault) : Type 0 where
  -- an Ok says what the file holds
  pub found : IfOk result (λ found. (pieces : List Piece) × IsFound pieces old new found)
  -- an error says why
  pub refused : IfErr result (λ fault. RefusesRun fault old new)
  -- the count of faults of the disk does not fall
  pub later : old.faults ≤ new.faults
  -- no call of the disk failed, but where that is the answer
  pub calm : (IsDiskFault result → ⊥) → new.faults ≡ old.faults
  -- a crash at any moment of the call leaves an image from before it
  pub unwritten : Unwritten old new
  -- how many calls of the disk there are
  pub uses : (bytes : List ℕ) → Reads old bytes → OpeningUses bytes old new

-- the disk in an answer that gives it back either way
abbrev pub disk_opened : {D : Type 0} → Result (Opened D) (D × JournalFault) → D
disk_opened (Ok opened) = opened.journal.file.disk
disk_opened (Err fault) = fault.0

-- what an opening found, or its fault, without the disk
abbrev pub found_with : {D : Type 0} → Result (Opened D) (D × JournalFault) → Result Found JournalFault
found_with (Ok opened) =
    Ok (record {
      header = opened.header;
      version = opened.journal.version;
      entries = opened.entries.items;
      offsets = opened.offsets;
      end = opened.journal.file.end;
    })
found_with (Err fault) = Err fault.1
