-- The journal holds a prefix of the history, after one record more and after a flush.
-- For the proofs of `note` and `flush` (src/recording.rt).
use Rattle.std.proofs.Common.{◌≡◌, inl, inr, ℕ, ◌+◌, ◌≤◌, true, false, List, [], ◌∷◌, ◌++◌, length, take, drop, refl, sym, ◌∙◌, ap, subst, arith, length-append, take-append-drop, append-nil}
use Rattle.std.specs.Prelude.{IsTrue}
use Rattle.std.proofs.lemmas.List.{take_all, take-append-le, drop-append-le, length-drop, drop_all}
use Rattle.disk_model.specs.Device.{DiskState, IsCoherent, Reads}
use Rattle.disk_model.specs.Moments.{LeavesOnly, Uses}
use Rattle.disk_model.proofs.Runs.{widened, image_now, told_before}
use Rattle.gate_file.specs.Gate.{Gate}
use Rattle.run_records.specs.Entries.{Entry}
use Rattle.run_records.specs.declared.header.Header.{Header}
use Rattle.run_records.specs.declared.version.Version.{Version}
use Rattle.run_journal.specs.Batches.{batch_bytes}
use Rattle.run_journal.specs.Kept.{Log, pending_in}
use Rattle.run_journal.specs.Stands.{Pends, Stands, Holds, StandsEither}
use Rattle.run_table.specs.Recording.{StandsForPrefix, IsJournaled, KeepsJournal, Records}
use Rattle.run_table.proofs.RecordingsFollow.{sends_flushed, sends_failed}

-- a batch counts what pends
counts : (version : Version) (pending : List Entry) (batch : List ℕ) → Pends version pending batch → pending_in batch ≡ length pending
counts version pending batch pends = ap pending_in pends.bytes

-- a history with one record more
module _ (before after : List Entry) (flushed : ℕ) (e : Entry) (within : flushed ≤ length before) (is : after ≡ before ++ e ∷ []) where
  -- with one record more, the records that pend are one more
  pub drop_after : drop flushed after ≡ drop flushed before ++ e ∷ []
  drop_after = ap (drop flushed) is ∙ drop-append-le flushed before (e ∷ []) within

  -- with one record more, the history is longer by one
  pub longer : length after ≡ length before + 1
  longer = ap length is ∙ length-append before (e ∷ [])

  -- the first records are the same in the longer history
  take_after : (n : ℕ) → n ≤ length before → take n after ≡ take n before
  take_after n le = ap (take n) is ∙ take-append-le n before (e ∷ []) le

  -- an image that stood for a prefix of the history stands for one of the longer history
  pub prefix_after : (header : Header) (c : List ℕ) → StandsForPrefix header flushed before c → StandsForPrefix header flushed after c
  prefix_after header c stands =
      (stands.0, stands.1, omega (arith, longer, stands.2), subst (λ (l : List Entry). Stands header l c) (sym (take_after stands.0 stands.2)) stands.3)

  -- a disk that held the flushed part of the history holds that of the longer history
  pub holds_after : (header : Header) (version : Version) (disk : DiskState) (end : ℕ) → Holds header version (take flushed before) disk end → Holds header version (take flushed after) disk end
  holds_after header version disk end holds = subst (λ (l : List Entry). Holds header version l disk end) (sym (take_after flushed within)) holds

-- what a disk holds and what a crash may leave of it, for a journal of this file, version and
-- flushed count
abbrev AreHeld : {D : Type 0} → (D → DiskState) → Header → Version → ℕ → List Entry → Gate D → Type 0
AreHeld state header version flushed history file =
    ((bytes : List ℕ) → Reads (state file.disk) bytes → IsTrue file.live → Holds header version (take flushed history) (state file.disk) file.end)
    × ((bytes : List ℕ) → Reads (state file.disk) bytes → (c : List ℕ) → (state file.disk).image c → StandsForPrefix header flushed history c)

-- if one record more pends, the journal still holds a prefix of the history
pub noted : {D : Type 0} (state : D → DiskState) (header : Header) (before after : List Entry) (flushed room room' : ℕ) (e : Entry) (log log' : Log D)
    → flushed ≤ length before → after ≡ before ++ e ∷ [] → log'.file ≡ log.file → log'.version ≡ log.version
    → IsJournaled state header (record { history = before; room = room; flushed = flushed; log = log })
    → IsJournaled state header (record { history = after; room = room'; flushed = flushed; log = log' })
noted state header before after flushed room room' e log log' within is same version j =
    let at : AreHeld state header log.version flushed after log.file = (
      λ bytes reads live. holds_after before after flushed e within is header log.version (state log.file.disk) log.file.end (j.held bytes reads live),
      λ bytes reads c image. prefix_after before after flushed e within is header c (j.left bytes reads c image),
    ) in
    let there : AreHeld state header log'.version flushed after log'.file =
    subst (λ (v : Version). AreHeld state header v flushed after log'.file) (sym version) (subst (AreHeld state header log.version flushed after) (sym same) at) in
    record { held = there.0; left = there.1 }

-- the steps of a flush of all that pends
module _ {D : Type 0} (state : D → DiskState) (header : Header) (history : List Entry) (room flushed : ℕ) (log log' : Log D)
    (within : flushed ≤ length history) (pends : Pends log.version (drop flushed history) log.batch) (live : IsTrue log.file.live)
    (j : IsJournaled state header (record { history = history; room = room; flushed = flushed; log = log }))
    (any_moment : (header : Header) (entries pending : List Entry) → Pends log.version pending log.batch → Holds header log.version entries (state log.file.disk) log.file.end
    → LeavesOnly (StandsEither header entries pending) (state log.file.disk) (state log'.file.disk))
    (m end : ℕ) (uses : Uses m end (state log.file.disk) (state log'.file.disk)) where
  -- the flushed part and the part that pends are the history
  all_flushed : take flushed history ++ drop flushed history ≡ history
  all_flushed = take-append-drop flushed history

  -- an image of the part flushed so far, or of all, stands for a prefix
  either : (c : List ℕ) → StandsEither header (take flushed history) (drop flushed history) c → StandsForPrefix header flushed history c
  either c (inl stands) = (flushed, omega arith, within, stands)
  either c (inr stands) =
      (length history, within, omega arith, subst (λ (l : List Entry). Stands header l c) (all_flushed ∙ sym (take_all (length history) history (omega arith))) stands)

  -- at each moment of the flush a crash leaves an image that stands for a prefix
  moments : (bytes : List ℕ) → Reads (state log.file.disk) bytes → LeavesOnly (StandsForPrefix header flushed history) (state log.file.disk) (state log'.file.disk)
  moments bytes reads =
      widened (StandsEither header (take flushed history) (drop flushed history)) (StandsForPrefix header flushed history) (state log.file.disk) (state log'.file.disk)
      (any_moment header (take flushed history) (drop flushed history) pends (j.held bytes reads live)) either

  -- a flush that is done leaves all records on the disk
  pub flush_done : (room' now : ℕ) → now ≡ length history
      → ((disk : D) (header : Header) (version : Version) (entries : List Entry) (end : ℕ) → Holds header version entries (state disk) end → (c : List ℕ) → (state disk).image c → Stands header entries c)
      → ((header : Header) (entries pending : List Entry) → Pends log.version pending log.batch → Holds header log.version entries (state log.file.disk) log.file.end
      → Holds header log'.version (entries ++ pending) (state log'.file.disk) log'.file.end)
      → KeepsJournal state header (record { history = history; room = room; flushed = flushed; log = log }) (record { history = history; room = room'; flushed = now; log = log' })
  flush_done room' now all law acknowledged =
      let held : (bytes : List ℕ) → Reads (state log'.file.disk) bytes → Holds header log'.version (take now history) (state log'.file.disk) log'.file.end =
      λ bytes reads.
      let told = told_before m end (state log.file.disk) (state log'.file.disk) uses bytes reads in
      let holds = acknowledged header (take flushed history) (drop flushed history) pends (j.held told.0 told.1 live) in
      subst (λ (l : List Entry). Holds header log'.version l (state log'.file.disk) log'.file.end) (all_flushed ∙ sym (take_all now history (omega (arith, all)))) holds in
      record {
        journaled = record {
          held = λ bytes reads still. held bytes reads;
          left = λ bytes reads c image.
              (now, omega arith, omega (arith, all), law log'.file.disk header log'.version (take now history) log'.file.end (held bytes reads) c image);
        };
        any_moment = moments;
      }

  -- a flush that failed leaves a prefix with all that was flushed before
  pub flush_failed : (room' : ℕ) → log'.file.live ≡ false → IsCoherent (state log'.file.disk)
      → KeepsJournal state header (record { history = history; room = room; flushed = flushed; log = log }) (record { history = history; room = room'; flushed = flushed; log = log' })
  flush_failed room' dead coherent = record {
    journaled = record {
      held = λ bytes reads still. absurd (let clash : IsTrue false = subst IsTrue dead still in cc);
      left = λ bytes reads c image.
          let told = told_before m end (state log.file.disk) (state log'.file.disk) uses bytes reads in
          image_now (StandsForPrefix header flushed history) (state log.file.disk) (state log'.file.disk) coherent (moments told.0 told.1) c image;
    };
    any_moment = moments;
  }

-- a flush as one call
module _ {D : Type 0} (state : D → DiskState) (history : List Entry) (room flushed : ℕ) (log log' : Log D)
    (within : flushed ≤ length history) (pends : Pends log.version (drop flushed history) log.batch) (live : IsTrue log.file.live)
    (any_moment : (header : Header) (entries pending : List Entry) → Pends log.version pending log.batch → Holds header log.version entries (state log.file.disk) log.file.end
    → LeavesOnly (StandsEither header entries pending) (state log.file.disk) (state log'.file.disk))
    (uses : Uses 4 (log.file.end + length log.batch + 6) (state log.file.disk) (state log'.file.disk))
    (later : (state log.file.disk).faults ≤ (state log'.file.disk).faults)
    (version : log'.version ≡ log.version)
    (idle : pending_in log.batch ≡ 0 → log' ≡ log) where
  -- a flush makes four calls of the disk at most, within the bytes of its own batch
  reaches : Uses 4 (log.file.end + length (batch_bytes (drop flushed history)) + 6) (state log.file.disk) (state log'.file.disk)
  reaches = subst (λ (l : List ℕ). Uses 4 (log.file.end + length l + 6) (state log.file.disk) (state log'.file.disk)) pends.bytes uses

  -- if nothing pends, a flush doesn't touch the disk
  none_pends : flushed ≡ length history → log'.file ≡ log.file
  none_pends all =
      let none : pending_in log.batch ≡ 0 = counts log.version (drop flushed history) log.batch pends ∙ ap length (drop_all flushed history (omega (arith, all))) in
      ap (λ (l : Log D). l.file) (idle none)

  -- once the disk has failed, a flush doesn't touch it
  lasts : log.file.live ≡ false → log'.file ≡ log.file
  lasts dead = let clash : IsTrue false = subst IsTrue dead live in absurd cc

  -- a flush that is done keeps all that a call promises of a recording
  pub done : (now : ℕ) → now ≡ length history → log'.file.live ≡ true
      → (state log'.file.disk).faults ≡ (state log.file.disk).faults
      → (1 ≤ pending_in log.batch → log'.file.end ≡ log.file.end + 5 + length log.batch)
      → ((disk : D) (header : Header) (version : Version) (entries : List Entry) (end : ℕ) → Holds header version entries (state disk) end → (c : List ℕ) → (state disk).image c → Stands header entries c)
      → ((header : Header) (entries pending : List Entry) → Pends log.version pending log.batch → Holds header log.version entries (state log.file.disk) log.file.end
      → Holds header log'.version (entries ++ pending) (state log'.file.disk) log'.file.end)
      → Records state [] (record { history = history; room = room; flushed = flushed; log = log }) (record { history = history; room = room; flushed = now; log = log' })
  done now all still calm moved law acknowledged = record {
    follows = record {
      history = sym (append-nil history);
      flushed = omega (arith, all, within);
      version = version;
      journal = λ header j. flush_done state header history room flushed log log' within pends live j any_moment 4 (log.file.end + length log.batch + 6) uses room now all law acknowledged;
      sends = λ inside. sends_flushed state history room flushed now log log' within pends.bytes live none_pends uses all still
          (λ some. moved (omega (arith, some, counts log.version (drop flushed history) log.batch pends, length-drop flushed history)));
      told = uses.told;
      rests = lasts;
      later = later;
      calm = λ lives. calm;
    };
    room = refl;
    uses = reaches;
  }

  -- a flush that failed keeps all that a call promises of a recording
  pub not_done : log'.file.live ≡ false → IsCoherent (state log'.file.disk)
      → Records state [] (record { history = history; room = room; flushed = flushed; log = log }) (record { history = history; room = room; flushed = flushed; log = log' })
  not_done dead coherent = record {
    follows = record {
      history = sym (append-nil history);
      flushed = omega arith;
      version = version;
      journal = λ header j. flush_failed state header history room flushed log log' within pends live j any_moment 4 (log.file.end + length log.batch + 6) uses room dead coherent;
      sends = λ inside. sends_failed state history room flushed flushed log log' within pends.bytes live none_pends uses refl dead;
      told = uses.told;
      rests = lasts;
      later = later;
      calm = λ lives. absurd (let clash : IsTrue false = subst IsTrue dead lives in cc);
    };
    room = refl;
    uses = reaches;
  }
