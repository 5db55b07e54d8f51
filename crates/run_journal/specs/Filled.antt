-- A journal that is written at once: a header, and records in batches of 64. `journal_bodies`
-- (src/filling.rt) makes one.
use Rattle.std.specs.Prelude.{◌≡◌, ℕ, List, [], ◌∷◌, length}
use Rattle.nc_number.specs.declared.limits.TheConstants.{MOST_PENDING}
use Rattle.run_records.specs.declared.header.Header.{Header}
use Rattle.run_records.specs.declared.version.Version.TheVariants.{Two}
use Rattle.run_records.specs.Entries.{Entry}
use Rattle.run_journal.specs.Batches.{Piece, bodies_of, records_in, IsRun}

-- the header with the same three texts, of a journal of version 2
abbrev pub newest : Header → Header
newest header = record header { version = Two }

-- each piece but the last has 64 records
abbrev pub AreFull : List Piece → Type 0
AreFull [] = Unit {0}
AreFull (last ∷ []) = Unit {0}
AreFull (piece ∷ next ∷ pieces) = (length (records_in piece) ≡ MOST_PENDING) × AreFull (next ∷ pieces)

-- the bodies are those of this header and these records, of which each batch but the last has 64
pub record IsFilled (header : Header) (entries : List Entry) (bodies : List (List ℕ)) : Type 0 where
  -- the pieces after the header
  pub pieces : List Piece
  -- they are a run of this header and these records
  pub run : IsRun header pieces entries
  -- each but the last has 64 records
  pub full : AreFull pieces
  -- the bodies are those of the header and the pieces
  pub are : bodies ≡ bodies_of header pieces
