-- A journal is opened as its file of gates is, and its bodies are read. `open_journal`
-- (src/opening.rt) and `read_contents` (src/reading.rt) rest on it.
use Rattle.std.proofs.Common.{◌≡◌, ℕ, ◌+◌, ◌*◌, List, [], ◌∷◌, length, take, get_or, refl, sym, ◌∙◌, ap, subst, arith, Some, Ok, Err}
use Rattle.std.proofs.lemmas.List.{length-map}
use Rattle.disk_model.specs.Device.{DiskState, Reads, Only}
use Rattle.disk_model.specs.Moments.{Uses}
use Rattle.gate_file.specs.declared.fault.GateFault.{GateFault}
use Rattle.gate_file.specs.declared.fault.GateFault.TheVariants.{DiskFault as GateDisk, NoRun as GateNone, RunThere as GateThere, Cut as GateCut, NoMemory as GateMemory}
use Rattle.gate_file.specs.Chain.{Spells, ends_at}
use Rattle.gate_file.specs.Gate.{Keeps}
use Rattle.gate_file.specs.Opening.{Finds, RefusesOpening}
use Rattle.run_records.specs.declared.bad_record.BadRecord.TheVariants.{NoHeader}
use Rattle.run_records.specs.Entries.{Entry}
use Rattle.run_records.specs.declared.header.Header.{Header}
use Rattle.run_records.specs.declared.version.Version.{Version}
use Rattle.run_records.specs.Headers.{header_bytes, IsShort}
use Rattle.run_journal.specs.declared.fault.JournalFault.{JournalFault}
use Rattle.run_journal.specs.declared.fault.JournalFault.TheVariants.{DiskFault, NoRun, Cut, BadRecord as Bad, NoMemory}
use Rattle.run_journal.specs.Bad.{IsBadRun, unheaded}
use Rattle.run_journal.specs.Batches.{piece_bytes}
use Rattle.run_journal.specs.Opening.{RefusesRun, IsFaultOf, FindsRun}
use Rattle.run_journal.specs.Reading.{IsContents, RefusesBodies}

-- if the first body is no header, the bodies are bad at offset 5
pub no_header : (bodies : List (List ℕ)) (offset : ℕ) → (bodies ≡ [] → ⊥) → offset ≡ ends_at (take 0 bodies) + 5 → ((header : Header) → IsShort header → get_or bodies 0 [] ≡ header_bytes header → ⊥) → IsBadRun bodies offset NoHeader
no_header [] offset some here none = absurd (some refl)
no_header (body ∷ bodies) offset some here none =
    let five : 5 ≡ offset = omega (arith, here) in
    subst (λ (n : ℕ). IsBadRun (body ∷ bodies) n NoHeader) five (unheaded body bodies refl none)

-- what a file keeps is on the disk
pub kept_settled : (bodies : List (List ℕ)) (disk : DiskState) (end : ℕ) (bytes : List ℕ) → Keeps bodies disk end → Reads disk bytes → Only bytes disk.image
kept_settled bodies disk end bytes keeps reads =
    let both : Some keeps.bytes ≡ Some bytes = sym keeps.reads ∙ reads in
    let same : keeps.bytes ≡ bytes = cc in
    subst (λ (l : List ℕ). Only l disk.image) same keeps.only

-- the disk before and after the opening of its file of gates
module _ (old new : DiskState) where
  -- if the file of gates is refused, so is the journal, for the same reason
  refused_alike : (gate : GateFault) (fault : JournalFault) → IsFaultOf gate fault → RefusesOpening gate old new → RefusesRun fault old new
  refused_alike GateDisk fault same refused = subst (λ (f : JournalFault). RefusesRun f old new) (sym same) refused
  refused_alike GateNone fault same refused = subst (λ (f : JournalFault). RefusesRun f old new) (sym same) refused
  refused_alike GateThere fault same refused = absurd same
  refused_alike (GateCut at) fault same refused = subst (λ (f : JournalFault). RefusesRun f old new) (sym same) refused
  refused_alike GateMemory fault same refused = subst (λ (f : JournalFault). RefusesRun f old new) (sym same) tt

  -- an opening whose file of gates is refused answers that fault
  pub not_opened : (gate : GateFault) (fault : JournalFault) → Finds old new (Err gate) → IsFaultOf gate fault → FindsRun old new (Err fault)
  not_opened gate fault finds same = record {
    found = tt;
    refused = refused_alike gate fault same finds.refused;
    later = finds.later;
    calm = λ other. finds.calm (λ is. other (subst (λ (g : GateFault). IsFaultOf g fault) is same));
    unwritten = finds.unwritten;
    uses = finds.uses;
  }

  -- the file of gates has these bodies and ends here
  module _ (bodies : List (List ℕ)) (end : ℕ) (finds : Finds old new (Ok (bodies, end))) where
    -- if the bodies are refused, so is the journal, for the same reason
    bad_refused : (fault : JournalFault) → RefusesBodies bodies fault → RefusesRun fault old new
    bad_refused (Bad offset cause) bad = (
      (λ bytes reads. kept_settled bodies new end bytes (finds.found bytes (sym finds.unwritten.same ∙ reads)).1 reads),
      (λ bytes reads. (bodies, (finds.found bytes reads).0, bad)),
    )
    bad_refused NoMemory bad = tt
    bad_refused DiskFault bad = absurd bad
    bad_refused NoRun bad = absurd bad
    bad_refused (Cut at) bad = absurd bad

    -- an opening whose bodies are refused answers that fault
    pub not_read : (fault : JournalFault) → RefusesBodies bodies fault → FindsRun old new (Err fault)
    not_read fault bad = record {
      found = tt;
      refused = bad_refused fault bad;
      later = finds.later;
      calm = λ other. finds.calm (λ is. is);
      unwritten = finds.unwritten;
      uses = finds.uses;
    }

    -- if the bodies are a run, the answer is what it holds
    pub run_found : (header : Header) (version : Version) (entries : List Entry) (offsets : List ℕ) → IsContents header version entries offsets bodies
        → FindsRun old new (Ok (record { header = header; version = version; entries = entries; offsets = offsets; end = end }))
    run_found header version entries offsets is =
        let count : length bodies ≡ 1 + length is.pieces = omega (arith, ap length is.bodies_are, length-map is.pieces piece_bytes) in
        let used : 4 * (length bodies + 1) + 4 ≡ 4 * (length is.pieces + 2) + 4 = omega (arith, count) in
        record {
          found = (
            is.pieces,
            record {
              run = is.run;
              version = is.version_is;
              offsets = is.offsets_are;
              file = λ bytes reads. subst (λ (l : List (List ℕ)). Spells l bytes × Keeps l new end) is.bodies_are (finds.found bytes reads);
              uses = subst (λ (n : ℕ). Uses n 0 old new) used finds.uses_ok;
            },
          );
          refused = tt;
          later = finds.later;
          calm = λ other. finds.calm (λ is. is);
          unwritten = finds.unwritten;
          uses = finds.uses;
        }
