-- Records in batches, the mark by which a journal is raised, and the bodies of a journal: its
-- header, and then these pieces. What the header's and a record's bytes are is in run_records; the
-- gates between the bodies are in gate_file.
use Rattle.std.specs.Prelude.{◌≡◌, ℕ, ◌≤◌, List, [], ◌∷◌, length, map, None}
use Rattle.std.specs.List.{flat_map}
use Rattle.nc_number.specs.declared.limits.TheConstants.{MOST_PENDING}
use Rattle.run_records.specs.declared.header.Header.{Header}
use Rattle.run_records.specs.declared.version.Version.{Version}
use Rattle.run_records.specs.declared.version.Version.TheVariants.{One, Two}
use Rattle.run_records.specs.Entries.{Entry, edit_of}
use Rattle.run_records.specs.Headers.{header_bytes, IsShort}
use Rattle.run_records.specs.Spelling.{entry_bytes, IsEntry}

-- the bytes of records, one after another
abbrev pub records_bytes : List Entry → List ℕ
records_bytes entries = flat_map entry_bytes entries

-- a batch's body: its count, and that many records
abbrev pub batch_bytes : List Entry → List ℕ
batch_bytes batch = length batch ∷ records_bytes batch

-- the body that raises a journal to version 2: 255, which counts no batch, and 2 in two bytes. Its
-- bytes stand in src/journal.rt (`RAISING_MARK`) and src/reading.rt (`is_mark`) too.
abbrev pub raising_mark : List ℕ
raising_mark = 255 ∷ 0 ∷ 2 ∷ []

-- what a body after the header is
pub data Piece : Type 0 where
  -- a batch of records
  a_batch : List Entry → Piece
  -- the mark that raises the journal
  the_mark : Piece

-- the body that a piece is
abbrev pub piece_bytes : Piece → List ℕ
piece_bytes (a_batch batch) = batch_bytes batch
piece_bytes the_mark = raising_mark

-- the bodies of a journal: its header, and its pieces
abbrev pub bodies_of : Header → List Piece → List (List ℕ)
bodies_of header pieces = header_bytes header ∷ map piece_bytes pieces

-- the records of a piece: the mark is none
abbrev pub records_in : Piece → List Entry
records_in (a_batch batch) = batch
records_in the_mark = []

-- the records of pieces, in order
abbrev pub records_of : List Piece → List Entry
records_of pieces = flat_map records_in pieces

-- a journal of this version may have the record: in version 1 stand steps alone
abbrev pub MayStand : Version → Entry → Type 0
MayStand version entry = version ≡ One → edit_of entry.kind ≡ None

-- records that a journal of this version may have
abbrev pub AreEntries : Version → List Entry → Type 0
AreEntries version [] = Unit {0}
AreEntries version (entry ∷ entries) = (IsEntry entry × MayStand version entry) × AreEntries version entries

-- a batch has 1 to 64 records
pub record IsBatch (version : Version) (batch : List Entry) : Type 0 where
  -- at least one record
  pub some : 1 ≤ length batch
  -- at most 64
  pub few : length batch ≤ MOST_PENDING
  -- a journal of this version may have them
  pub are : AreEntries version batch

-- a piece that may stand in a journal that has this version so far: the mark stands in version 1
-- alone
abbrev pub IsPiece : Version → Piece → Type 0
IsPiece version (a_batch batch) = IsBatch version batch
IsPiece version the_mark = version ≡ One

-- the version of a journal after a piece
abbrev pub version_after : Version → Piece → Version
version_after version (a_batch batch) = version
version_after version the_mark = Two

-- the version of a journal after pieces
abbrev pub version_behind : Version → List Piece → Version
version_behind version [] = version
version_behind version (piece ∷ pieces) = version_behind (version_after version piece) pieces

-- each piece may stand where it stands, so that the mark stands once, and no edit before it
abbrev pub ArePieces : Version → List Piece → Type 0
ArePieces version [] = Unit {0}
ArePieces version (piece ∷ pieces) = IsPiece version piece × ArePieces (version_after version piece) pieces

-- a run: a short header, and pieces whose records join to these
pub record IsRun (header : Header) (pieces : List Piece) (entries : List Entry) : Type 0 where
  -- the header's texts fit
  pub short : IsShort header
  -- the pieces may stand where they stand
  pub are : ArePieces header.version pieces
  -- the records are those of the pieces, in order
  pub joins : entries ≡ records_of pieces
