-- Why a body is no piece, and why a file of gates is no run. Which causes a record by itself has is
-- in run_records.
use Rattle.std.specs.Prelude.{◌≡◌, ◌⊎◌, ℕ, ◌+◌, ◌≤◌, ◌<◌, Bool, false, not, ◌&&◌, List, [], ◌∷◌, ◌++◌, length, Option, Some, if◌then◌else◌}
use Rattle.nc_number.specs.declared.limits.TheConstants.{MOST_PENDING}
use Rattle.gate_file.specs.Chain.{Spells, ends_at}
use Rattle.run_records.specs.declared.bad_record.BadRecord.{BadRecord}
use Rattle.run_records.specs.declared.bad_record.BadRecord.TheVariants.{NoKind, WrongLength, WrongCount, NoHeader}
use Rattle.run_records.specs.Entries.{Entry}
use Rattle.run_records.specs.declared.header.Header.{Header}
use Rattle.run_records.specs.declared.version.Version.{Version}
use Rattle.run_records.specs.declared.version.Version.TheVariants.{One, Two}
use Rattle.run_records.specs.Causes.{has_bad_path, is_edit, cause_of}
use Rattle.run_records.specs.Headers.{header_bytes, IsShort}
use Rattle.run_journal.specs.Batches.{Piece, records_bytes, raising_mark, bodies_of, version_behind, AreEntries, ArePieces}

-- whether the journal is of version 1, and the bytes begin with a path and the kind of an edit
abbrev pub is_early_edit : Version → List ℕ → Bool
is_early_edit One bytes = not (has_bad_path bytes) && is_edit bytes
is_early_edit Two bytes = false

-- Why bytes begin with no record that may stand in a journal of this version: the least cause that
-- holds of the bytes that are there. In version 1 an edit has no kind, whatever follows.
abbrev pub cause_for : Version → List ℕ → Option BadRecord
cause_for version bytes = if is_early_edit version bytes then Some NoKind else cause_of bytes

-- a body of a count from 1 to 64, so many whole records, and what stands after them
pub record Begins (version : Version) (count : ℕ) (whole : List Entry) (rest body : List ℕ) : Type 0 where
  -- at least one record is counted
  pub some : 1 ≤ count
  -- at most 64 are
  pub few : count ≤ MOST_PENDING
  -- the whole records may stand in a journal of this version
  pub are : AreEntries version whole
  -- the body is its count, these records and the rest
  pub bytes : body ≡ count ∷ (records_bytes whole ++ rest)

-- A body is no batch that may stand in a journal of this version, for this cause at this place of
-- the body, counted in bytes from its first.
pub data IsBadBatch (version : Version) (body : List ℕ) : ℕ → BadRecord → Type 0 where
  -- it is empty
  empty : body ≡ [] → IsBadBatch version body 0 WrongCount
  -- it counts no records, or more than 64
  uncounted : (count : ℕ) (rest : List ℕ) → body ≡ count ∷ rest → (count ≡ 0) ⊎ (MOST_PENDING < count) → IsBadBatch version body 0 WrongCount
  -- after fewer whole records than it counts stands none
  unread : (count : ℕ) (whole : List Entry) (rest : List ℕ) (cause : BadRecord) → Begins version count whole rest body
      → length whole < count → cause_for version rest ≡ Some cause
      → IsBadBatch version body (1 + length (records_bytes whole)) cause
  -- all its records are whole, and it goes on after them
  late : (whole : List Entry) (rest : List ℕ) → Begins version (length whole) whole rest body → (rest ≡ [] → ⊥)
      → IsBadBatch version body 0 WrongLength

-- A body is no piece: it is not the mark that raises a journal of version 1, and it is no batch,
-- for this cause at this place of the body.
pub record IsBadPiece (version : Version) (body : List ℕ) (place : ℕ) (cause : BadRecord) : Type 0 where
  -- the body is not a mark that may stand there
  pub unmarked : version ≡ One → body ≡ raising_mark → ⊥
  -- it is no batch
  pub batch : IsBadBatch version body place cause

-- Bodies are no run, for this cause at this offset of their file: the first one that is bad
-- decides.
pub data IsBadRun (bodies : List (List ℕ)) : ℕ → BadRecord → Type 0 where
  -- the first body is no header: told at offset 5, behind its gate and its length
  unheaded : (first : List ℕ) (others : List (List ℕ)) → bodies ≡ first ∷ others
      → ((header : Header) → IsShort header → first ≡ header_bytes header → ⊥) → IsBadRun bodies 5 NoHeader
  -- after a header and some pieces stands a body that is none: told at its place in that body,
  -- which begins five bytes behind the end of those before
  broken : (header : Header) (before : List Piece) (body : List ℕ) (after : List (List ℕ)) (place : ℕ) (cause : BadRecord)
      → IsShort header → ArePieces header.version before → bodies ≡ bodies_of header before ++ body ∷ after
      → IsBadPiece (version_behind header.version before) body place cause
      → IsBadRun bodies (ends_at (bodies_of header before) + 5 + place) cause

-- the image spells bodies that are no run
abbrev pub IsBadAt : ℕ → BadRecord → List ℕ → Type 0
IsBadAt offset cause image = (bodies : List (List ℕ)) × Spells bodies image × IsBadRun bodies offset cause
