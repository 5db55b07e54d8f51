-- The history of a run, the journal that holds a prefix of it, and what a call may do to both and
-- to the disk.
use Rattle.std.specs.Prelude.{◌≡◌, ℕ, ◌+◌, ◌-◌, ◌*◌, ◌≤◌, ◌<◌, ◌++◌, false, List, length, take, drop, IsTrue, Result, OnOk, OnErr, is_ok, if◌then◌else◌}
use Rattle.disk_model.specs.Device.{DiskState, Reads}
use Rattle.disk_model.specs.Moments.{LeavesOnly, Uses}
use Rattle.nc_number.specs.declared.limits.TheConstants.{MOST_PENDING, MOST_RECORDS}
use Rattle.run_records.specs.Entries.{Entry}
use Rattle.run_records.specs.declared.header.Header.{Header}
use Rattle.run_journal.specs.Batches.{records_bytes, batch_bytes}
use Rattle.run_journal.specs.Kept.{Log}
use Rattle.run_journal.specs.Stands.{Stands, Holds, Pends}

-- the records of a run, for how many there is room, how many of them the journal has written, and
-- the journal
pub record RecordingView (D : Type 0) : Type 0 where
  -- all records, also those that pend
  pub history : List Entry
  -- for how many records the list has room
  pub room : ℕ
  -- how many of them are on the disk
  pub flushed : ℕ
  -- the journal, with the batch that pends
  pub log : Log D

-- The history is the part that is flushed and the part that pends, which has 64 records at most.
pub record IsGathered {D : Type 0} (r : RecordingView D) : Type 0 where
  -- no more records are flushed than there are
  pub within : r.flushed ≤ length r.history
  -- 64 records pend at most
  pub few : length r.history ≤ r.flushed + MOST_PENDING
  -- the batch holds just the records that pend
  pub pends : Pends r.log.version (drop r.flushed r.history) r.log.batch
  -- the journal counts all records
  pub counted : r.log.count ≡ length r.history

-- the image stands for a prefix of the history, of so many records at least
abbrev pub StandsForPrefix : Header → ℕ → List Entry → List ℕ → Type 0
StandsForPrefix header least history image =
    (n : ℕ) × (least ≤ n) × (n ≤ length history) × Stands header (take n history) image

-- The disk holds the header and the flushed part of the history, in a journal of the version that
-- it has by now, until it has failed. What a crash may leave of it stands, at any time, for a
-- prefix of the history that has the flushed part.
pub record IsJournaled {D : Type 0} (state : D → DiskState) (header : Header) (r : RecordingView D) : Type 0 where
  -- while the journal may be written, the disk holds the flushed part
  pub held : (bytes : List ℕ) → Reads (state r.log.file.disk) bytes → IsTrue r.log.file.live
      → Holds header r.log.version (take r.flushed r.history) (state r.log.file.disk) r.log.file.end
  -- what a crash may leave of the disk stands for a prefix of the history
  pub left : (bytes : List ℕ) → Reads (state r.log.file.disk) bytes
      → (c : List ℕ) → (state r.log.file.disk).image c → StandsForPrefix header r.flushed r.history c

-- What a call keeps of the journal of a run with this header. A crash at any moment of the call
-- leaves a prefix of the history that has all that was flushed before.
pub record KeepsJournal {D : Type 0} (state : D → DiskState) (header : Header) (old new : RecordingView D) : Type 0 where
  -- the journal is that of the new history
  pub journaled : IsJournaled state header new
  -- at any moment a crash leaves a prefix with all that was flushed before
  pub any_moment : (bytes : List ℕ) → Reads (state old.log.file.disk) bytes
      → LeavesOnly (StandsForPrefix header old.flushed new.history) (state old.log.file.disk) (state new.log.file.disk)

-- how many records were sent to the disk: those that are flushed, or all once it has failed
abbrev pub sent_count : {D : Type 0} → RecordingView D → ℕ
sent_count r = if r.log.file.live then r.flushed else length r.history

-- the most bytes that these records take in the file: their own, and six for each batch, which has
-- one record at least
abbrev pub most_bytes : List Entry → ℕ
most_bytes entries = length (records_bytes entries) + 6 * length entries

-- What was asked of the disk while the new recording came of the old one: four calls at most for
-- each record that was sent, and no write further than the bytes of all that pended reach.
pub record Sends {D : Type 0} (state : D → DiskState) (old new : RecordingView D) : Type 0 where
  -- no more records are flushed than there are
  pub within : new.flushed ≤ length new.history
  -- no fewer records are sent than before
  pub more : sent_count old ≤ sent_count new
  -- four calls at most for each record that was sent, and how far they reach
  pub uses : Uses (4 * (sent_count new - sent_count old))
      (old.log.file.end + 1 + most_bytes (drop old.flushed new.history))
      (state old.log.file.disk) (state new.log.file.disk)
  -- the file has room left for what still pends, within the bytes of what pended
  pub end : IsTrue new.log.file.live → new.log.file.end + most_bytes (drop new.flushed new.history)
      ≤ old.log.file.end + most_bytes (drop old.flushed new.history)

-- What came of a recording: these records were added, and as many or more of all are flushed.
pub record Follows {D : Type 0} (state : D → DiskState) (made : List Entry) (old new : RecordingView D) : Type 0 where
  -- the records made come after the old ones
  pub history : new.history ≡ old.history ++ made
  -- no fewer records are flushed than before
  pub flushed : old.flushed ≤ new.flushed
  -- the journal is not raised
  pub version : new.log.version ≡ old.log.version
  -- the journal of the old history is kept as that of the new one
  pub journal : (header : Header) → IsJournaled state header old → KeepsJournal state header old new
  -- how much was asked of the disk
  pub sends : old.flushed ≤ length old.history → Sends state old new
  -- a disk that made its bytes known still does
  pub told : (bytes : List ℕ) → Reads (state old.log.file.disk) bytes → (c : List ℕ) × Reads (state new.log.file.disk) c
  -- no call is made once the disk has failed
  pub rests : old.log.file.live ≡ false → new.log.file ≡ old.log.file
  -- the count of faults doesn't sink
  pub later : (state old.log.file.disk).faults ≤ (state new.log.file.disk).faults
  -- while the journal may be written no call has failed
  pub calm : IsTrue new.log.file.live → (state new.log.file.disk).faults ≡ (state old.log.file.disk).faults

-- What a call does that adds these records to the history, and may flush.
pub record Records {D : Type 0} (state : D → DiskState) (made : List Entry) (old new : RecordingView D) : Type 0 where
  -- what may come of a recording by these records
  pub follows : Follows state made old new
  -- the room for records stays
  pub room : new.room ≡ old.room
  -- it makes four calls of the disk at most, and writes no further than the one batch of all that
  -- pends reaches
  pub uses : Uses 4 (old.log.file.end + length (batch_bytes (drop old.flushed new.history)) + 6)
      (state old.log.file.disk) (state new.log.file.disk)

-- A recording to which these records were added. They pend, and the disk is not touched.
pub record IsNoted {D : Type 0} (state : D → DiskState) (made : List Entry) (old new : RecordingView D) : Type 0 where
  -- if a record was added, no more records were flushed than there were
  pub within : 1 ≤ length made → old.flushed ≤ length old.history
  -- the records made stand after the old ones
  pub history : new.history ≡ old.history ++ made
  -- the file of the journal stays, with its disk
  pub file : new.log.file ≡ old.log.file
  -- no more records are on the disk
  pub flushed : new.flushed ≡ old.flushed
  -- the journal is not raised
  pub version : new.log.version ≡ old.log.version
  -- the room for records stays
  pub room : new.room ≡ old.room
  -- the journal stays that of the history
  pub journal : (header : Header) → IsJournaled state header old → IsJournaled state header new

-- a recording to which one record more may be added
pub record MayNote {D : Type 0} (r : RecordingView D) : Type 0 where
  -- the journal may be written
  pub live : IsTrue r.log.file.live
  -- fewer than 64 records pend
  pub few : length r.history < r.flushed + MOST_PENDING
  -- there are fewer records than a journal may have
  pub most : length r.history < MOST_RECORDS
  -- the list has room for one record more
  pub room : length r.history < r.room

-- What a flush makes of the recording: all is flushed, or the disk failed.
pub record IsFlush {D T E : Type 0} (old new : RecordingView D) (result : Result T E) : Type 0 where
  -- no more records were flushed than there were
  pub within : old.flushed ≤ length old.history
  -- if it is done, all records are flushed
  pub flushed : OnOk result (new.flushed ≡ length old.history)
  -- if the disk failed, no more records count as flushed
  pub stays : OnErr result (new.flushed ≡ old.flushed)
  -- the journal may be written still just if the flush is done
  pub live : new.log.file.live ≡ is_ok result
  -- if nothing pended, the disk was not called
  pub idle : old.flushed ≡ length old.history → new.log.file ≡ old.log.file
