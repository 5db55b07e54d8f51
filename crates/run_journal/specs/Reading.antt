-- How the bodies of a journal are read: what src/reading.rt promises, function by function. For
-- this crate alone.
use Rattle.std.specs.Prelude.{◌≡◌, ℕ, ◌+◌, ◌<◌, List, ◌++◌, length, take, map, Some}
use Rattle.gate_file.specs.Chain.{ends_at}
use Rattle.run_records.specs.declared.bad_record.BadRecord.{BadRecord}
use Rattle.run_records.specs.declared.header.Header.{Header}
use Rattle.run_records.specs.declared.version.Version.{Version}
use Rattle.run_records.specs.Entries.{Entry}
use Rattle.run_records.specs.Headers.{header_bytes}
use Rattle.run_journal.specs.declared.fault.JournalFault.{JournalFault}
use Rattle.run_journal.specs.declared.fault.JournalFault.TheVariants.{DiskFault, NoRun, Cut, BadRecord as Bad, NoMemory}
use Rattle.run_journal.specs.Bad.{cause_for, IsBadBatch, IsBadPiece, IsBadRun}
use Rattle.run_journal.specs.Batches.{Piece, records_bytes, batch_bytes, piece_bytes, bodies_of, records_in, records_of, version_after, version_behind, AreEntries, IsBatch, IsPiece, ArePieces, IsRun}
use Rattle.run_journal.specs.Places.{record_places, places}

-- why the body at an offset is not read as a batch of a journal of this version
abbrev pub RefusesBatch : Version → ℕ → List ℕ → JournalFault → Type 0
RefusesBatch version at body (Bad offset cause) = (place : ℕ) × (offset ≡ at + place) × IsBadBatch version body place cause
RefusesBatch version at body NoMemory = Unit {0}
RefusesBatch version at body DiskFault = ⊥
RefusesBatch version at body NoRun = ⊥
RefusesBatch version at body (Cut place) = ⊥

-- why the body at an offset is not read as a piece of a journal of this version
abbrev pub RefusesBody : Version → ℕ → List ℕ → JournalFault → Type 0
RefusesBody version at body (Bad offset cause) = (place : ℕ) × (offset ≡ at + place) × IsBadPiece version body place cause
RefusesBody version at body NoMemory = Unit {0}
RefusesBody version at body DiskFault = ⊥
RefusesBody version at body NoRun = ⊥
RefusesBody version at body (Cut place) = ⊥

-- why bodies are not read
abbrev pub RefusesBodies : List (List ℕ) → JournalFault → Type 0
RefusesBodies bodies (Bad offset cause) = IsBadRun bodies offset cause
RefusesBodies bodies NoMemory = Unit {0}
RefusesBodies bodies DiskFault = ⊥
RefusesBodies bodies NoRun = ⊥
RefusesBodies bodies (Cut place) = ⊥

-- `count` records are read from these bytes, the first of which stands at the offset `at`; the rest
-- is left
pub record IsRecordsRead (version : Version) (count at : ℕ) (bytes rest : List ℕ) (old new : List Entry) (places_old places_new : List ℕ) : Type 0 where
  -- the records that are read
  pub batch : List Entry
  -- they are as many as counted
  pub count_is : length batch ≡ count
  -- they may stand in a journal of this version
  pub are : AreEntries version batch
  -- the bytes are theirs and the rest
  pub bytes_are : bytes ≡ records_bytes batch ++ rest
  -- they are put after the records before
  pub entries : new ≡ old ++ batch
  -- their offsets are put after the offsets before
  pub offsets : places_new ≡ places_old ++ record_places at batch

-- after fewer than `count` whole records, which take `place` bytes, stands none, for this cause
pub record IsUnread (version : Version) (count : ℕ) (bytes : List ℕ) (place : ℕ) (cause : BadRecord) : Type 0 where
  -- the whole records
  pub whole : List Entry
  -- what stands after them
  pub rest : List ℕ
  -- they are fewer than counted
  pub few : length whole < count
  -- they may stand in a journal of this version
  pub are : AreEntries version whole
  -- the bytes are theirs and the rest
  pub bytes_are : bytes ≡ records_bytes whole ++ rest
  -- they take so many bytes
  pub place_is : place ≡ length (records_bytes whole)
  -- what follows them is no record, for this cause
  pub none : cause_for version rest ≡ Some cause

-- the body at the offset `at` is a batch, which is read: the lists of records and of their offsets
-- grow by those of the batch
pub record IsBatchRead (version : Version) (at : ℕ) (body : List ℕ) (old new : List Entry) (places_old places_new : List ℕ) : Type 0 where
  -- the batch
  pub batch : List Entry
  -- it may stand in a journal of this version
  pub is : IsBatch version batch
  -- the body is its own
  pub body_is : body ≡ batch_bytes batch
  -- its records are put after the records before
  pub entries : new ≡ old ++ batch
  -- their offsets are put after those before; the count takes one byte
  pub offsets : places_new ≡ places_old ++ record_places (at + 1) batch

-- the body at the offset `at` is a piece of a journal that has this version so far, and is read;
-- `behind` is the version after the piece
pub record IsPieceRead (version behind : Version) (at : ℕ) (body : List ℕ) (old new : List Entry) (places_old places_new : List ℕ) : Type 0 where
  -- the piece
  pub piece : Piece
  -- it may stand in a journal of this version
  pub is : IsPiece version piece
  -- the version after it
  pub version_is : version_after version piece ≡ behind
  -- the body is its own
  pub body_is : body ≡ piece_bytes piece
  -- its records are put after the records before
  pub entries : new ≡ old ++ records_in piece
  -- their offsets are put after those before; the count takes one byte
  pub offsets : places_new ≡ places_old ++ record_places (at + 1) (records_in piece)

-- the bodies after the first one, up to an index, are pieces of a journal of this version, which
-- are read; `behind` is the version after them
pub record AreRead (version behind : Version) (bodies : List (List ℕ)) (index : ℕ) (entries : List Entry) (offsets : List ℕ) : Type 0 where
  -- the pieces so far
  pub pieces : List Piece
  -- each may stand where it stands
  pub are : ArePieces version pieces
  -- the version after them
  pub version_is : version_behind version pieces ≡ behind
  -- the bodies up to the index are the first one and theirs
  pub bodies_are : take index bodies ≡ take 1 bodies ++ map piece_bytes pieces
  -- the records are theirs
  pub entries_are : entries ≡ records_of pieces
  -- the offsets are where those stand
  pub offsets_are : offsets ≡ places (ends_at (take 1 bodies)) pieces

-- the bodies are a header and pieces; this is the version after them
pub record IsContents (header : Header) (version : Version) (entries : List Entry) (offsets : List ℕ) (bodies : List (List ℕ)) : Type 0 where
  -- the pieces after the header
  pub pieces : List Piece
  -- they are a run of the header and the records
  pub run : IsRun header pieces entries
  -- the version after them
  pub version_is : version_behind header.version pieces ≡ version
  -- the bodies are those of the header and the pieces
  pub bodies_are : bodies ≡ bodies_of header pieces
  -- the offsets are where the records stand
  pub offsets_are : offsets ≡ places (5 + length (header_bytes header)) pieces
