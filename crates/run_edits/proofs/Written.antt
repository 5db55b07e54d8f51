-- What writing edits leaves on the disk of a journal, from the raising of the journal and the flush
-- of the batch. `write_edits` and `make_all` (src/making.rt) rest on it.
use Rattle.std.proofs.Common.{◌≡◌, inl, ℕ, ◌+◌, ◌*◌, ◌≤◌, ◌==◌, false, List, [], ◌∷◌, ◌++◌, length, Ok, Err, refl, sym, ap, subst, arith, ◌∙◌, length-append}
use Rattle.std.proofs.lemmas.List.Concat.{flat_map-append}
use Rattle.disk_model.specs.Device.{DiskState, Reads, Rose}
use Rattle.disk_model.specs.Moments.{LeavesOnly, Uses}
use Rattle.disk_model.proofs.Runs.{joined}
use Rattle.edit_texts.specs.declared.edit_list.PathEdit.{PathEdit}
use Rattle.gate_file.specs.declared.fault.DiskFault.{DiskFault}
use Rattle.nc_number.specs.declared.fault.Failing.TheVariants.{Fault}
use Rattle.gate_file.specs.Gate.{Gate}
use Rattle.run_records.specs.Entries.{Entry}
use Rattle.run_records.specs.declared.header.Header.{Header}
use Rattle.run_records.specs.declared.version.Version.{Version}
use Rattle.run_records.specs.declared.version.Version.TheVariants.{Two}
use Rattle.run_journal.specs.Batches.{batch_bytes, records_bytes}
use Rattle.run_journal.specs.Kept.{Log}
use Rattle.run_journal.specs.Stands.{Holds, Pends, Stands, StandsEither}
use Rattle.run_records.specs.Spelling.{entry_bytes}
use Rattle.run_edits.specs.Made.{MakesEdits, edits_end, records_of}
use Rattle.run_edits.specs.Writing.{mark_size}
use Rattle.run_edits.proofs.Held.{held_end}

-- A journal before (`old`), once raised (`mid`), with the records of the edits noted (`noted`), and
-- after the flush (`new`). The records of the edits are `made`.
module _ {D : Type 0} (state : D → DiskState) (old mid noted : Log D) (new : Log D) (made : List Entry)
    (file : noted.file ≡ mid.file) (version : noted.version ≡ Two) (pends : Pends Two made noted.batch)
    (raised : (header : Header) (entries : List Entry) → Holds header old.version entries (state old.file.disk) old.file.end
    → Holds header Two entries (state mid.file.disk) mid.file.end) where
  -- the journal with the noted records still holds the run that was found
  held : (header : Header) (entries : List Entry) → Holds header old.version entries (state old.file.disk) old.file.end
      → Holds header noted.version entries (state noted.file.disk) noted.file.end
  held header entries holds =
      subst (λ (v : Version). Holds header v entries (state noted.file.disk) noted.file.end) (sym version)
      (subst (λ (f : Gate D). Holds header Two entries (state f.disk) f.end) (sym file) (raised header entries holds))

  -- the records of the edits are those that are to be written
  pending : Pends noted.version made noted.batch
  pending = subst (λ (v : Version). Pends v made noted.batch) (sym version) pends

  -- at every moment the disk holds the run that was found, or it and all edits
  pub written_moment : (header : Header) (entries : List Entry) → Holds header old.version entries (state old.file.disk) old.file.end
      → LeavesOnly (Stands header entries) (state old.file.disk) (state mid.file.disk)
      → ((header : Header) (entries pending : List Entry) → Pends noted.version pending noted.batch
      → Holds header noted.version entries (state noted.file.disk) noted.file.end
      → LeavesOnly (StandsEither header entries pending) (state noted.file.disk) (state new.file.disk))
      → LeavesOnly (StandsEither header entries made) (state old.file.disk) (state new.file.disk)
  written_moment header entries holds first second =
      joined (Stands header entries) (StandsEither header entries made) (StandsEither header entries made) (state old.file.disk) (state mid.file.disk)
      (state new.file.disk) first
      (subst (λ (f : Gate D). LeavesOnly (StandsEither header entries made) (state f.disk) (state new.file.disk)) file
      (second header entries made pending (held header entries holds)))
      (λ x here. inl here) (λ x here. here)

  -- after an Ok whatever a crash may leave of the disk stands for the run that was found and all
  -- edits
  pub written_whole : ((disk : D) (header : Header) (version : Version) (entries : List Entry) (end : ℕ)
      → Holds header version entries (state disk) end → (c : List ℕ) → (state disk).image c → Stands header entries c)
      → ((header : Header) (entries pending : List Entry) → Pends noted.version pending noted.batch
      → Holds header noted.version entries (state noted.file.disk) noted.file.end
      → Holds header new.version (entries ++ pending) (state new.file.disk) new.file.end)
      → (header : Header) (entries : List Entry) → Holds header old.version entries (state old.file.disk) old.file.end
      → (c : List ℕ) → (state new.file.disk).image c → Stands header (entries ++ made) c
  written_whole leaves acknowledged header entries holds c image =
      leaves new.file.disk header new.version (entries ++ made) new.file.end (acknowledged header entries made pending (held header entries holds)) c image

-- edits, if there are any, have records
pub none_made : (edits : List PathEdit) → (length edits == 0) ≡ false → records_of edits ≡ [] → ⊥
none_made [] some none = absurd cc
none_made (what ∷ edits) some none = absurd cc

-- a list that is not empty has a length of 1 at least
some_records : (made : List Entry) → (made ≡ [] → ⊥) → 1 ≤ length made
some_records [] some = absurd (some refl)
some_records (one ∷ made) some = omega arith

-- what making all edits promises, from what writing them did
module _ {D : Type 0} (state : D → DiskState) (old new : Log D) (header : Header) (found made : List Entry) (some : made ≡ [] → ⊥)
    (holds : (bytes : List ℕ) → Reads (state old.file.disk) bytes → Holds header old.version found (state old.file.disk) old.file.end)
    (moment : (header : Header) (entries : List Entry) → Holds header old.version entries (state old.file.disk) old.file.end
    → LeavesOnly (StandsEither header entries made) (state old.file.disk) (state new.file.disk))
    (uses : Uses 8 (old.file.end + mark_size old.version + 6 + length (batch_bytes made)) (state old.file.disk) (state new.file.disk)) where
  -- no write ended past the bound for the run and its edits
  uses_all : Uses 8 (edits_end header (found ++ made)) (state old.file.disk) (state new.file.disk)
  uses_all =
      let bytes_are : length (records_bytes (found ++ made)) ≡ length (records_bytes found) + length (records_bytes made) =
      ap length (flat_map-append entry_bytes found made) ∙ length-append (records_bytes found) (records_bytes made) in
      let count = length-append found made in
      record {
        calls = uses.calls;
        reach = λ bytes reads.
            let end = held_end header old.version found (state old.file.disk) old.file.end (holds bytes reads) in
            omega (arith, uses.reach bytes reads, end, bytes_are, count, some_records made some);
        told = uses.told;
        untold = uses.untold;
        allows = uses.allows;
      }

  -- if all edits were written, they are made as promised
  pub when_made : ((header : Header) (entries : List Entry) → Holds header old.version entries (state old.file.disk) old.file.end
      → (c : List ℕ) → (state new.file.disk).image c → Stands header (entries ++ made) c)
      → (state old.file.disk).faults ≤ (state new.file.disk).faults → (state new.file.disk).faults ≡ (state old.file.disk).faults
      → MakesEdits state header found made old.file.disk new.file.disk (Ok tt)
  when_made whole later calm = record {
    none = λ none. absurd (some none);
    whole = λ bytes reads. whole header found (holds bytes reads);
    any_moment = λ bytes reads. moment header found (holds bytes reads);
    refused = tt;
    calm = calm;
    later = later;
    uses = uses_all;
  }

  -- if the disk failed before all edits were written, the fault is told as promised
  pub when_failed : (fault : DiskFault) → (state old.file.disk).faults ≤ (state new.file.disk).faults
      → Rose (state old.file.disk).faults (state new.file.disk).faults
      → MakesEdits state header found made old.file.disk new.file.disk (Err (Fault fault))
  when_failed fault later rose = record {
    none = λ none. absurd (some none);
    whole = tt;
    any_moment = λ bytes reads. moment header found (holds bytes reads);
    refused = rose;
    calm = tt;
    later = later;
    uses = uses_all;
  }
