-- A run is recovered or refused as its journal is opened and its records are done again. `recover`
-- (src/recovery.rt) rests on it.
use Rattle.std.proofs.Common.{◌≡◌, ℕ, ◌+◌, ◌*◌, ◌≤◌, List, [], ◌∷◌, length, sym, ap, subst, ◌∙◌, arith, Some, Ok, Err, length-append}
use Rattle.disk_model.specs.Device.{DiskState, Reads, Only, IsSettled}
use Rattle.disk_model.specs.Moments.{Uses}
use Rattle.gate_file.specs.Gate.{Keeps}
use Rattle.run_records.specs.declared.version.Version.{Version}
use Rattle.run_records.specs.declared.version.Version.TheVariants.{One, Two}
use Rattle.run_journal.specs.declared.fault.JournalFault.{JournalFault}
use Rattle.run_journal.specs.declared.fault.JournalFault.TheVariants as journal
use Rattle.run_journal.specs.Batches.{Piece, a_batch, the_mark, bodies_of, records_of, ArePieces}
use Rattle.run_journal.specs.Stands.{Holds}
use Rattle.run_journal.specs.Opening.{RefusesRun, Found, FindsRun}
use Rattle.run_journal.proofs.Openings.{kept_settled}
use Rattle.nc_verify.specs.declared.verified.Verified.{Verified}
use Rattle.nc_restart.specs.declared.fault.RestartFault.{RestartFault}
use Rattle.nc_restart.specs.declared.fault.RestartFault.TheVariants.{DiskFault, NoRun, Cut, BadRecord, NoMemory}
use Rattle.nc_restart.specs.Pair.{texts_of, IsPairOf}
use Rattle.nc_restart.specs.History.{IsHistory}
use Rattle.nc_restart.specs.Meaning.{IsBadReading, unread, misread}
use Rattle.nc_restart.specs.Reading.{RefusesReading}
use Rattle.nc_restart.specs.Recovered.{fault_of, RefusesRecovery, Recovers}

-- behind a raising mark, or behind a header of version 2, no mark may stand, so there are at most as
-- many pieces as records
few_marked : (pieces : List Piece) → ArePieces Two pieces → length pieces ≤ length (records_of pieces)
few_marked [] are = omega arith
few_marked (a_batch batch ∷ pieces) are =
    omega (arith, few_marked pieces are.1, are.0.some, length-append batch (records_of pieces))
few_marked (the_mark ∷ pieces) are = absurd (let clash : Two ≡ One = are.0 in cc)

-- a journal has at most one piece more than records
few_pieces : (version : Version) (pieces : List Piece) → ArePieces version pieces → length pieces ≤ length (records_of pieces) + 1
few_pieces version [] are = omega arith
few_pieces version (a_batch batch ∷ pieces) are =
    omega (arith, few_pieces version pieces are.1, are.0.some, length-append batch (records_of pieces))
few_pieces version (the_mark ∷ pieces) are = omega (arith, few_marked pieces are.1)

-- a bound on calls of the disk may be raised
uses_more : (count more : ℕ) (old new : DiskState) → count ≤ more → Uses count 0 old new → Uses more 0 old new
uses_more count more old new less uses = record {
  calls = λ bytes reads. omega (arith, less, uses.calls bytes reads);
  reach = uses.reach;
  told = uses.told;
  untold = uses.untold;
  allows = uses.allows;
}

-- a journal that is refused at its opening is refused at the recovery, for the same cause
refused_alike : (old new : DiskState) (fault : JournalFault) → RefusesRun fault old new → RefusesRecovery (fault_of fault) old new
refused_alike old new journal.DiskFault refused = refused
refused_alike old new journal.NoRun refused = refused
refused_alike old new (journal.Cut at) refused = refused
refused_alike old new (journal.BadRecord offset cause) refused = (refused.0, λ bytes reads. unread (refused.1 bytes reads))
refused_alike old new journal.NoMemory refused = tt

-- a journal that can't be opened recovers no run
not_opened : (old new : DiskState) (fault : JournalFault) → FindsRun old new (Err fault) → Recovers old new (Err (fault_of fault))
not_opened old new fault finds = record {
  found = tt;
  refused = refused_alike old new fault finds.refused;
  later = finds.later;
  calm = λ other. finds.calm (λ is. other (ap fault_of is));
  unwritten = finds.unwritten;
  uses = finds.uses;
}

-- a journal that was opened, and what was found in it
module _ (old new : DiskState) (found : Found) (finds : FindsRun old new (Ok found)) where
  -- all that a read of the disk gives is on the disk
  settled : IsSettled new
  settled bytes reads =
      let is = finds.found in
      let keeps = (is.1.file bytes (sym finds.unwritten.same ∙ reads)).1 in
      kept_settled (bodies_of found.header is.0) new found.end bytes keeps reads

  -- if the header and the records that were found are no run, the recovery is refused for that
  refused_reading : (fault : RestartFault) → RefusesReading found.header found.entries found.offsets fault → RefusesRecovery fault old new
  refused_reading (BadRecord offset cause) bad =
      let is = finds.found in (
        settled,
        λ bytes reads. misread found.header is.0 found.entries is.1.run (is.1.file bytes reads).0
            (subst (λ (begins : List ℕ). IsBadReading found.header found.entries begins offset cause) (is.1.offsets) bad),
      )
  refused_reading NoMemory bad = tt
  refused_reading DiskFault bad = absurd bad
  refused_reading NoRun bad = absurd bad
  refused_reading (Cut at) bad = absurd bad

  -- a journal that was opened and whose machine can't be made anew recovers no run
  pub not_rebuilt : (fault : RestartFault) → RefusesReading found.header found.entries found.offsets fault → Recovers old new (Err fault)
  not_rebuilt fault bad = record {
    found = tt;
    refused = refused_reading fault bad;
    later = finds.later;
    calm = λ other. finds.calm (λ is. is);
    unwritten = finds.unwritten;
    uses = finds.uses;
  }

  -- where the disk tells its content, it holds the header and the records that were found
  pub held : (bytes : List ℕ) → Reads new bytes → Holds found.header found.version found.entries new found.end
  held bytes reads =
      let is = finds.found in
      (is.0, is.1.run, is.1.version, (is.1.file bytes (sym finds.unwritten.same ∙ reads)).1)

  -- if the texts of the header are accepted and the records are a history, that run is recovered
  pub rebuilt : (pair : Verified) → IsPairOf (texts_of found.header) pair → IsHistory pair found.entries
      → Recovers old new (Ok (record { header = found.header; entries = found.entries }))
  rebuilt pair accepted history =
      let is = finds.found in
      let joined : length found.entries ≡ length (records_of is.0) = ap length is.1.run.joins in
      let pieces = few_pieces found.header.version is.0 is.1.run.are in
      record {
        found = record {
          means = λ bytes reads. ((is.0, is.1.run, (is.1.file bytes reads).0), record { pair = pair; accepted = accepted; history = history });
          uses = uses_more (4 * (length is.0 + 2) + 4) (4 * length found.entries + 16) old new (omega (arith, joined, pieces)) is.1.uses;
        };
        refused = tt;
        later = finds.later;
        calm = λ other. finds.calm (λ is. is);
        unwritten = finds.unwritten;
        uses = finds.uses;
      }
