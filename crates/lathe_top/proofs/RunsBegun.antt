-- What `run` and `make` answer after the beginning of a journal, or after a refusal.
-- For the proofs of `run_pair` and `run_texts` (src/beginning.rt) and `tell_unbegun`
-- (src/refusing.rt).
use Rattle.std.proofs.Common.{◌≡◌, ◌⊎◌, inl, inr, ℕ, ◌≤◌, false, List, [], length, Ok, Err, refl, sym, ap, subst, arith, ◌∙◌}
use Rattle.nc_outside.specs.Received.{TurretState}
use Rattle.nc_number.specs.declared.both.Both.{Both}
use Rattle.disk_model.specs.Device.{DiskState}
use Rattle.gate_file.specs.declared.fault.GateFault.{GateFault}
use Rattle.gate_file.specs.declared.fault.GateFault.TheVariants as gate
use Rattle.nc_number.specs.declared.fault.Failing.{Failing}
use Rattle.nc_number.specs.declared.fault.Failing.TheVariants.{Fault, NoMemory}
use Rattle.block_order.specs.Answers.{IfFault}
use Rattle.nc_verify.specs.declared.refusal.Refusal.{Refusal}
use Rattle.nc_verify.specs.declared.verified.Verified.{Verified}
use Rattle.nc_verify.specs.Verdict.{Texts, IsRefusalOf}
use Rattle.run_records.specs.Entries.{Entry}
use Rattle.run_records.specs.declared.header.Header.{Header}
use Rattle.run_records.specs.declared.version.Version.TheVariants.{Two}
use Rattle.run_records.specs.Headers.{IsShort}
use Rattle.run_journal.specs.Beginning.{BeginsRun}
use Rattle.run_table.specs.Begun.{IsBegun}
use Rattle.run_table.specs.Kept.{TableView}
use Rattle.two_path.specs.Machine.{MachineView}
use Rattle.nc_number.specs.declared.limits.TheConstants.{LONGEST_TAPE}
use Rattle.nc_restart.specs.Pair.{texts_of, IsPairOf, machine_behind}
use Rattle.lathe_calls.specs.Answers.{Answer, nothing}
use Rattle.lathe_calls.specs.Judged.{IsRefusing}
use Rattle.lathe_looks.specs.Standing.{is_over}
use Rattle.lathe_calls.specs.declared.pair_texts.TheConstants.{LONGEST_SETTINGS}
use Rattle.lathe_top.specs.Going.{Standing, IsReport, report, stayed, standing_run}
use Rattle.lathe_top.specs.Kept.{IsRefusedBeginning, RestsWhole}
use Rattle.lathe_top.specs.Lathe.{LatheState, lathe_with}
use Rattle.lathe_top.specs.Ran.{TextOf, IsRun, refused, unjudged, ran, reported, unprepared, unbegun_answer}
use Rattle.lathe_top.specs.Session.{Session}
use Rattle.lathe_top.proofs.Opened.{NoneIsStuck, begun_keeps, ending_since, is_session, unprepared_since}

-- the machine of a table that has begun is the one after its records
pub begun_behind : {D : Type 0} (pair : Verified) (t : TableView D) → IsBegun pair t
    → t.machine ≡ machine_behind t.verified t.recording.history
begun_behind pair t begun =
    let at_start : machine_behind t.verified t.recording.history ≡ machine_behind pair [] =
    ap (λ (l : List Entry). machine_behind t.verified l) begun.history ∙ ap (λ (p : Verified). machine_behind p []) begun.pair in
    begun.machine ∙ sym at_start

-- the machine of a table that has begun is not over
pub begun_unended : {D : Type 0} (pair : Verified) (t : TableView D) → IsBegun pair t → is_over t.machine ≡ false
begun_unended pair t begun = subst (λ (m : MachineView). is_over m ≡ false) (sym begun.machine) refl

-- what holds of the run of a table that was begun holds of a run of the pair without records
pub of_begun : {D : Type 0} (Of : Standing → Type 0) (header : Header) (pair : Verified) (t : TableView D) → IsBegun pair t
    → Of (standing_run header t.verified t.recording.history) → Of (standing_run header pair [])
of_begun Of header pair t begun there =
    subst (λ (l : List Entry). Of (standing_run header pair l)) begun.history
    (subst (λ (p : Verified). Of (standing_run header p t.recording.history)) begun.pair there)

-- A journal was begun on the disk, for a pair that is accepted. `a` is the disk before the call and
-- `begun` after the beginning; `before` are the turrets before, and `c` is what the run leaves.
module _ {A D : Type 0} (state : D → DiskState) (law : NoneIsStuck) (limit : ℕ) (header : Header) (pair : Verified) (a : DiskState) (begun : D)
    (before : Both TurretState) (c : LatheState) (answer : A) (begins : BeginsRun {A = A} header a (state begun) (Ok answer))
    (accepted : IsPairOf (texts_of header) pair) (version : header.version ≡ Two) where
  -- what is told of the run that goes on after the beginning is what `run` answers
  pub begun_run : (text_of : TextOf) (told : Answer)
      → IsReport limit text_of (standing_run header pair []) (lathe_with (state begun) before) c told
      → IsRun state limit text_of (texts_of header) (lathe_with a before) c told
  begun_run text_of told (report history {reason} least goes ends keeps) =
      let s : Session = record { header = header; pair = pair; found = []; history = history } in
      ran s (is_session law (standing_run header pair []) history accepted goes) (record { same = refl; version = version }) (refl, begins.vacant)
      (reported least (ending_since limit s a (state begun) before c reason least (begins.calm (λ fault. fault)) ends)
      (begun_keeps state header a begun c.disk answer begins pair history least keeps))
  begun_run text_of told (stayed history least goes none keeps) =
      let s : Session = record { header = header; pair = pair; found = []; history = history } in
      ran s (is_session law (standing_run header pair []) history accepted goes) (record { same = refl; version = version }) (refl, begins.vacant)
      (unprepared least (unprepared_since s a (state begun) before c least none)
      (begun_keeps state header a begun c.disk answer begins pair history least keeps))

-- a beginning that failed is a refused beginning for these texts
pub refused_beginning : {A : Type 0} (header : Header) (pair : Verified) (fault : GateFault) (a c : DiskState) → IsPairOf (texts_of header) pair
    → header.version ≡ Two → BeginsRun {A = A} header a c (Err fault) → IsRefusedBeginning (texts_of header) fault a c
refused_beginning header pair fault a c accepted version begins = record {
  header = header;
  fresh = record { same = refl; version = version };
  pair = pair;
  accepted = accepted;
  begins = record {
    held = tt;
    vacant = tt;
    spares = begins.spares;
    refused = begins.refused;
    later = begins.later;
    calm = begins.calm;
    any_moment = begins.any_moment;
    uses = begins.uses;
  };
}

-- for `NoRun`, `Cut` and out of memory nothing is told
pub none_told : (fault : GateFault) → (fault ≡ gate.NoRun) ⊎ (((at : ℕ) × (fault ≡ gate.Cut at)) ⊎ (fault ≡ gate.NoMemory)) → nothing ≡ unbegun_answer fault
none_told fault (inl is) = sym (ap unbegun_answer is)
none_told fault (inr (inl is)) = sym (ap unbegun_answer is.1)
none_told fault (inr (inr is)) = sym (ap unbegun_answer is)

-- the line of a refusal, or nothing without memory, is due to `run` of texts with that refusal
pub run_refused : {D : Type 0} (state : D → DiskState) (limit : ℕ) (text_of : TextOf) (texts : Texts) (a c : LatheState) (error : Failing Refusal)
    → RestsWhole a c → IfFault error (IsRefusalOf texts) → (answer : Answer) → IsRefusing error answer → IsRun state limit text_of texts a c answer
run_refused state limit text_of texts a c (Fault refusal) rest of_texts answer is =
    subst (IsRun state limit text_of texts a c) (sym is.2) (refused of_texts is.1 rest)
run_refused state limit text_of texts a c NoMemory rest of_texts answer is =
    subst (IsRun state limit text_of texts a c) (sym is) (unjudged rest)

-- a header of texts that are no longer than their limits is short
short_header : (header : Header) (texts : Texts) → header.left ≡ texts.left → header.right ≡ texts.right → header.settings ≡ texts.settings
    → length texts.left ≤ LONGEST_TAPE → length texts.right ≤ LONGEST_TAPE → length texts.settings ≤ LONGEST_SETTINGS → IsShort header
short_header header texts left right settings few_left few_right few_settings =
    omega (arith, ap length left, ap length right, ap length settings, few_left, few_right, few_settings)
