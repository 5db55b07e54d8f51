-- What the journal of a run stands for, where it counts too whether the texts of its header are
-- accepted and its records are a history of their pair. Meaning.antt of run_journal says what the
-- bytes alone stand for.
use Rattle.std.specs.Prelude.{ℕ, ◌+◌, List, length, get_or}
use Rattle.gate_file.specs.Chain.{Spells, IsNoRun, IsCutAt}
use Rattle.run_records.specs.declared.bad_record.BadRecord.{BadRecord}
use Rattle.run_records.specs.declared.bad_record.BadRecord.TheVariants.{RefusedTapes}
use Rattle.run_records.specs.Entries.{Entry}
use Rattle.run_records.specs.declared.header.Header.{Header}
use Rattle.run_records.specs.Headers.{header_bytes}
use Rattle.run_journal.specs.Bad.{IsBadAt}
use Rattle.run_journal.specs.Batches.{Piece, bodies_of, IsRun}
use Rattle.run_journal.specs.Meaning.{Meaning, no_run, cut_at, bad_at, a_run}
use Rattle.run_journal.specs.Places.{places}
use Rattle.run_journal.specs.Stands.{Stands}
use Rattle.nc_verify.specs.declared.refusal.Refusal.{Refusal}
use Rattle.nc_verify.specs.declared.verified.Verified.{Verified}
use Rattle.nc_verify.specs.Verdict.{IsRefusalOf}
use Rattle.nc_restart.specs.Pair.{texts_of, IsPairOf}
use Rattle.nc_restart.specs.History.{IsHistory, IsOutOfPlaceAt}

-- the texts of the header are accepted, and the records are a history of their pair
pub record HasHistory (header : Header) (entries : List Entry) : Type 0 where
  -- the pair of the header's texts
  pub pair : Verified
  -- the texts are accepted
  pub accepted : IsPairOf (texts_of header) pair
  -- the records are a history of the pair
  pub history : IsHistory pair entries

-- the offset of the first byte of each record in these pieces, which stand after this header
abbrev pub places_in : Header → List Piece → List ℕ
places_in header pieces = places (5 + length (header_bytes header)) pieces

-- Records of a header that were read are no run all the same: its texts are refused, or one of the
-- records may not stand where it stands. The places are those where the records begin.
pub data IsBadReading (header : Header) (entries : List Entry) (begins : List ℕ) : ℕ → BadRecord → Type 0 where
  -- the texts of the header are refused: told at the header's own offset, 5
  refused : (refusal : Refusal) → IsRefusalOf (texts_of header) refusal → IsBadReading header entries begins 5 RefusedTapes
  -- the texts are accepted, and a record is out of place: told at its offset
  out_of_place : (pair : Verified) (index : ℕ) (cause : BadRecord) → IsPairOf (texts_of header) pair
      → IsOutOfPlaceAt pair entries index cause → IsBadReading header entries begins (get_or begins index 0) cause

-- The image stands for no run, for this cause at this offset: what it spells is no header and
-- pieces, or it is, and they are bad.
pub data IsBadRunAt (offset : ℕ) (cause : BadRecord) (image : List ℕ) : Type 0 where
  -- its bodies are no header and pieces
  unread : IsBadAt offset cause image → IsBadRunAt offset cause image
  -- it has a header and records, which are no run
  misread : (header : Header) (pieces : List Piece) (entries : List Entry) → IsRun header pieces entries
      → Spells (bodies_of header pieces) image → IsBadReading header entries (places_in header pieces) offset cause
      → IsBadRunAt offset cause image

-- what an image stands for, where the pair and its machine count too
abbrev pub StandsForRun : Meaning → List ℕ → Type 0
StandsForRun no_run image = IsNoRun image
StandsForRun (cut_at offset) image = IsCutAt offset image
StandsForRun (bad_at offset cause) image = IsBadRunAt offset cause image
StandsForRun (a_run header entries) image = Stands header entries image × HasHistory header entries
