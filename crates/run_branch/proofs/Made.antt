-- What making a branch does to its disk, from what filling a file of gates did. `branch`
-- (src/branching.rt) rests on it.
use Rattle.std.proofs.Common.{◌≡◌, inl, inr, ℕ, ◌+◌, ◌*◌, ◌≤◌, ◌<◌, List, ◌∷◌, ◌++◌, length, take, drop, Some, Ok, Err, refl, sym, ap, subst, arith, length-append, take-append-drop}
use Rattle.std.proofs.lemmas.List.Concat.{flat_map-append}
use Rattle.disk_model.specs.Device.{DiskState, IsCoherent}
use Rattle.disk_model.specs.Moments.{LeavesOnly, Uses}
use Rattle.disk_model.proofs.Runs.{no_call, unwritten_none, uses_none, uses_widened, widened}
use Rattle.gate_file.specs.declared.fault.GateFault.{GateFault}
use Rattle.gate_file.specs.declared.fault.GateFault.TheVariants.{DiskFault, NoRun, RunThere as GateThere, Cut, NoMemory as GateMemory}
use Rattle.gate_file.specs.Chain.{Spells, ends_at}
use Rattle.gate_file.specs.Creation.{Begins}
use Rattle.gate_file.specs.First.{IsBeginning}
use Rattle.gate_file.specs.Gate.{Gate, Keeps}
use Rattle.run_records.specs.declared.header.Header.{Header}
use Rattle.run_records.specs.declared.version.Version.TheVariants.{Two}
use Rattle.run_records.specs.Entries.{Entry}
use Rattle.run_records.specs.Headers.{header_bytes}
use Rattle.run_records.specs.Spelling.{entry_bytes}
use Rattle.run_journal.specs.Batches.{records_bytes, bodies_of, records_of}
use Rattle.run_journal.specs.Filled.{newest, IsFilled}
use Rattle.run_journal.proofs.Ends.{pieces_end}
use Rattle.run_branch.specs.declared.fault.BranchFault.{BranchFault}
use Rattle.run_branch.specs.declared.fault.BranchFault.TheVariants.{NoMeeting, RunThere, NewDisk, NoMemory}
use Rattle.run_branch.specs.Branches.{Branches, IsBranch, IsBranching, RefusesBranch, branch_end}
use Rattle.run_branch.specs.Faults.{IsFaultOf, IsOfBeginning}
use Rattle.run_branch.specs.Meetings.{meetings, branch_point}
use Rattle.run_branch.proofs.Points.{enough}

-- a prefix of the records has no more bytes than all of them, six more counted for each record
prefix_small : (entries : List Entry) (k : ℕ) → length (records_bytes (take k entries)) + 6 * length (take k entries)
    ≤ length (records_bytes entries) + 6 * length entries
prefix_small entries k =
    let front = take k entries in
    let behind = drop k entries in
    let split : entries ≡ front ++ behind = sym (take-append-drop k entries) in
    let joined = ap length (flat_map-append entry_bytes front behind) in
    let bytes : length (records_bytes entries) ≡ length (records_bytes (front ++ behind)) = ap (λ (l : List Entry). length (records_bytes l)) split in
    omega (arith, ap length split, length-append front behind, joined, length-append (records_bytes front) (records_bytes behind), bytes)

-- the bodies of a branch end where it may end at most
filled_end : (header : Header) (entries : List Entry) (k : ℕ) (bodies : List (List ℕ)) → IsFilled (newest header) (take k entries) bodies
    → ends_at bodies + 1 ≤ branch_end header entries
filled_end header entries k bodies filled =
    let end : ends_at bodies ≡ ends_at (bodies_of (newest header) filled.pieces) = ap ends_at filled.are in
    let front : length (header_bytes (newest header)) ≡ length (header_bytes header) = refl in
    let records : length (records_bytes (take k entries)) ≡ length (records_bytes (records_of filled.pieces)) =
    ap (λ (l : List Entry). length (records_bytes l)) filled.run.joins in
    omega (arith, end, front, records, ap length filled.run.joins, pieces_end Two filled.pieces filled.run.are, prefix_small entries k)

-- a branch of these records at their n-th meeting
module _ {E : Type 0} (state : E → DiskState) (header : Header) (entries : List Entry) (n : ℕ) where
  -- a run of fewer meetings is refused, and the disk is not called
  pub no_meeting : (disk : E) → IsCoherent (state disk) → meetings entries < n → Branches state header entries n disk disk (Err NoMeeting)
  no_meeting disk coherent less = record {
    no_meeting = (λ is. less, λ fewer. refl);
    uncalled = λ is. refl;
    count = tt;
    whole = tt;
    vacant = tt;
    spares = λ bytes reads there. unwritten_none (state disk) coherent;
    refused = unwritten_none (state disk) coherent;
    later = omega arith;
    calm = λ other. refl;
    any_moment = λ bytes reads. no_call (IsBranching (state disk).image header entries n) (state disk) coherent (λ c image. inl image);
    uses = uses_none 12 (branch_end header entries) (state disk);
  }

  -- without memory for the bodies the branch is refused, and the disk is not called
  pub no_memory : (disk : E) → IsCoherent (state disk) → n ≤ meetings entries → Branches state header entries n disk disk (Err NoMemory)
  no_memory disk coherent some = record {
    no_meeting = (λ (is : NoMemory ≡ NoMeeting). absurd cc, λ fewer. absurd (omega (arith, some, fewer)));
    uncalled = λ (is : NoMemory ≡ NoMeeting). absurd cc;
    count = tt;
    whole = tt;
    vacant = tt;
    spares = λ bytes reads there. unwritten_none (state disk) coherent;
    refused = unwritten_none (state disk) coherent;
    later = omega arith;
    calm = λ other. refl;
    any_moment = λ bytes reads. no_call (IsBranching (state disk).image header entries n) (state disk) coherent (λ c image. inl image);
    uses = uses_none 12 (branch_end header entries) (state disk);
  }

  -- the branch has k records, and these are its bodies
  module _ (k : ℕ) (point : branch_point n entries ≡ Some k) (bodies : List (List ℕ)) (filled : IsFilled (newest header) (take k entries) bodies) where
    -- an image of these bytes is the branch
    stands : (c : List ℕ) → Spells bodies c → IsBranch header entries n c
    stands c spells =
        (k, point, (filled.pieces, filled.run, subst (λ (l : List (List ℕ)). Spells l c) filled.are spells))

    -- a disk that keeps them leaves the branch only
    kept : (disk : DiskState) (end : ℕ) → Keeps bodies disk end → (c : List ℕ) → disk.image c → IsBranch header entries n c
    kept disk end keeps c image =
        stands c (subst (Spells bodies) (sym (keeps.only c image)) (0 ∷ keeps.behind, keeps.opens, (keeps.behind, refl)))

    -- a crash at any moment leaves what was before, or no run, or the branch
    moments : (old new : DiskState) → LeavesOnly (IsBeginning old.image bodies) old new
        → LeavesOnly (IsBranching old.image header entries n) old new
    moments old new run = widened (IsBeginning old.image bodies) (IsBranching old.image header entries n) old new run (λ c. elim_each c) where
      -- each image of a file of gates that is begun so is one of those
      elim_each : (c : List ℕ) → IsBeginning old.image bodies c → IsBranching old.image header entries n c
      elim_each c (inl before) = inl before
      elim_each c (inr (inl none)) = inr (inl none)
      elim_each c (inr (inr spells)) = inr (inr (stands c spells))

    -- the calls of the disk and the bytes that a branch takes
    uses : (old new : DiskState) → Uses 12 (ends_at bodies + 1) old new → Uses 12 (branch_end header entries) old new
    uses old new used =
        uses_widened 12 12 (ends_at bodies + 1) (branch_end header entries) old new used (omega arith) (filled_end header entries k bodies filled)

    -- if the file of gates is begun, the branch is made
    pub made : (before after : E) (file : Gate E) → Begins bodies (state before) (state after) (Ok file)
        → Branches state header entries n before after (Ok k)
    made before after file begins = record {
      no_meeting = (λ none. absurd none, λ less. absurd (omega (arith, less, enough entries n k point)));
      uncalled = λ none. absurd none;
      count = point;
      whole = λ bytes reads. kept (state after) (ends_at bodies) (begins.kept bytes reads);
      vacant = begins.vacant;
      spares = begins.spares;
      refused = tt;
      later = begins.later;
      calm = λ calm. begins.calm (λ fault. fault);
      any_moment = λ bytes reads. moments (state before) (state after) (begins.any_moment bytes reads);
      uses = uses (state before) (state after) begins.uses;
    }

    -- if it is refused, the branch is refused for the same reason
    refused_for : (before after : E) (fault : GateFault) (answer : BranchFault) → Begins {A = Gate E} bodies (state before) (state after) (Err fault)
        → (answer ≡ NoMeeting → ⊥) → RefusesBranch answer (state before) (state after)
        → ((answer ≡ NewDisk → ⊥) → (state after).faults ≡ (state before).faults)
        → Branches state header entries n before after (Err answer)
    refused_for before after fault answer begins other refuses calm = record {
      no_meeting = (λ is. absurd (other is), λ less. absurd (omega (arith, less, enough entries n k point)));
      uncalled = λ is. absurd (other is);
      count = tt;
      whole = tt;
      vacant = tt;
      spares = begins.spares;
      refused = refuses;
      later = begins.later;
      calm = calm;
      any_moment = λ bytes reads. moments (state before) (state after) (begins.any_moment bytes reads);
      uses = uses (state before) (state after) begins.uses;
    }

    -- a branch whose file of gates is refused answers that fault
    pub not_made : (before after : E) (fault : GateFault) (answer : BranchFault) → IsFaultOf fault answer
        → Begins {A = Gate E} bodies (state before) (state after) (Err fault) → Branches state header entries n before after (Err answer)
    not_made before after DiskFault answer is begins =
        subst (λ (a : BranchFault). Branches state header entries n before after (Err a)) (sym is)
        (refused_for before after DiskFault NewDisk begins (λ (same : NewDisk ≡ NoMeeting). absurd cc) begins.refused (λ other. absurd (other refl)))
    not_made before after GateThere answer is begins =
        subst (λ (a : BranchFault). Branches state header entries n before after (Err a)) (sym is)
        (refused_for before after GateThere RunThere begins (λ (same : RunThere ≡ NoMeeting). absurd cc) begins.refused
        (λ other. begins.calm (λ (same : GateThere ≡ DiskFault). absurd cc)))
    not_made before after GateMemory answer is begins =
        subst (λ (a : BranchFault). Branches state header entries n before after (Err a)) (sym is)
        (refused_for before after GateMemory NoMemory begins (λ (same : NoMemory ≡ NoMeeting). absurd cc) begins.refused
        (λ other. begins.calm (λ (same : GateMemory ≡ DiskFault). absurd cc)))
    not_made before after NoRun answer is begins = absurd is
    not_made before after (Cut at) answer is begins = absurd is

    -- the fault of a refused file of gates is one that its beginning may answer
    pub of_beginning : (before after : DiskState) (fault : GateFault) → Begins {A = Gate E} bodies before after (Err fault) → IsOfBeginning fault
    of_beginning before after DiskFault begins = tt
    of_beginning before after GateThere begins = tt
    of_beginning before after GateMemory begins = tt
    of_beginning before after NoRun begins = absurd begins.refused
    of_beginning before after (Cut at) begins = absurd begins.refused
