-- Which records a journal holds: of an image, and of a disk that keeps it.
use Rattle.std.specs.Prelude.{◌≡◌, ◌⊎◌, ℕ, List, ◌++◌}
use Rattle.disk_model.specs.Device.{DiskState}
use Rattle.gate_file.specs.Chain.{Spells}
use Rattle.gate_file.specs.Gate.{Keeps}
use Rattle.run_records.specs.declared.header.Header.{Header}
use Rattle.run_records.specs.declared.version.Version.{Version}
use Rattle.run_records.specs.Entries.{Entry}
use Rattle.run_journal.specs.Batches.{Piece, batch_bytes, bodies_of, version_behind, AreEntries, IsRun}

-- the image stands for this header and these records; where a mark stands among them it does not
-- say
abbrev pub Stands : Header → List Entry → List ℕ → Type 0
Stands header entries image =
    (pieces : List Piece) × IsRun header pieces entries × Spells (bodies_of header pieces) image

-- The disk holds this header and these records in a journal that has this version by now; all of it
-- is on the disk, and the shut gate stands at this offset.
abbrev pub Holds : Header → Version → List Entry → DiskState → ℕ → Type 0
Holds header version entries disk end =
    (pieces : List Piece) × IsRun header pieces entries × (version_behind header.version pieces ≡ version)
    × Keeps (bodies_of header pieces) disk end

-- the image stands for the records, or for them and those that are written next
abbrev pub StandsEither : Header → List Entry → List Entry → List ℕ → Type 0
StandsEither header entries pending image = Stands header entries image ⊎ Stands header (entries ++ pending) image

-- The body that is to be written next spells these records, or counts none; a journal of this
-- version may have them.
pub record Pends (version : Version) (pending : List Entry) (batch : List ℕ) : Type 0 where
  -- the body is their batch
  pub bytes : batch ≡ batch_bytes pending
  -- a journal of this version may have them
  pub are : AreEntries version pending
