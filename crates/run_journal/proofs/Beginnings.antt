-- A journal is begun as its file of gates is, with the header as the first body.
-- `Journal::begin` (src/journal.rt) rests on it.
use Rattle.std.proofs.Common.{◌≡◌, inl, inr, ℕ, ◌+◌, List, [], ◌∷◌, length, refl, subst, arith, Ok, Err}
use Rattle.disk_model.specs.Device.{DiskState}
use Rattle.disk_model.specs.Moments.{Uses}
use Rattle.disk_model.proofs.Runs.{widened, uses_widened}
use Rattle.gate_file.specs.declared.fault.GateFault.{GateFault}
use Rattle.gate_file.specs.Chain.{ends_at}
use Rattle.gate_file.specs.Creation.{Begins}
use Rattle.gate_file.specs.First.{IsBeginning}
use Rattle.gate_file.specs.Gate.{Keeps}
use Rattle.run_records.specs.declared.header.Header.{Header}
use Rattle.run_records.specs.Headers.{header_bytes, IsShort}
use Rattle.run_journal.specs.Batches.{IsRun}
use Rattle.run_journal.specs.Beginning.{IsRunBeginning, BeginsRun}

-- a short header alone is a run without a record
no_record : (header : Header) → IsShort header → IsRun header [] []
no_record header short = record { short = short; are = tt; joins = refl }

-- an image from before, of no run or of the first body alone is one while a journal is begun
begins : (image : List ℕ → Type 0) (header : Header) → IsShort header → (c : List ℕ) → IsBeginning image (header_bytes header ∷ []) c → IsRunBeginning image header c
begins image header short c (inl before) = inl before
begins image header short c (inr (inl none)) = inr (inl none)
begins image header short c (inr (inr spells)) = inr (inr ([], no_record header short, spells))

-- a file of gates with one body has its shut gate at the length of the body and five
header_end : (body : List ℕ) → ends_at (body ∷ []) ≡ 5 + length body
header_end body = omega arith

-- what the file of gates uses with the header as its first body is what beginning a journal may use
header_used : (body : List ℕ) (old new : DiskState) → Uses 12 (ends_at (body ∷ []) + 1) old new → Uses 12 (length body + 6) old new
header_used body old new uses = uses_widened 12 12 _ (length body + 6) old new uses (omega arith) (omega (arith, header_end body))

-- the header is the first body of the file of gates
module _ {A B : Type 0} (header : Header) (short : IsShort header) (body : List ℕ) (is : body ≡ header_bytes header) (old new : DiskState) where
  -- if the file of gates was created with the header, the journal is begun
  pub begun : (a : A) (b : B) → Begins (body ∷ []) old new (Ok b) → BeginsRun header old new (Ok a)
  begun a b call =
      let first : List ℕ = header_bytes header in
      let same : Begins (first ∷ []) old new (Ok b) = subst (λ (l : List ℕ). Begins (l ∷ []) old new (Ok b)) is call in
      record {
        held = λ bytes reads. ([], no_record header short, refl, subst (Keeps (first ∷ []) new) (header_end first) (same.kept bytes reads));
        vacant = same.vacant;
        spares = same.spares;
        refused = tt;
        later = same.later;
        calm = same.calm;
        any_moment = λ bytes reads. widened (IsBeginning old.image (first ∷ [])) (IsRunBeginning old.image header) old new (same.any_moment bytes reads) (begins old.image header short);
        uses = header_used first old new same.uses;
      }

  -- if it was refused, the journal is refused for the same reason
  pub not_begun : (fault : GateFault) → Begins {A = B} (body ∷ []) old new (Err fault) → BeginsRun {A = A} header old new (Err fault)
  not_begun fault call =
      let first : List ℕ = header_bytes header in
      let same : Begins {A = B} (first ∷ []) old new (Err fault) = subst (λ (l : List ℕ). Begins {A = B} (l ∷ []) old new (Err fault)) is call in
      record {
        held = tt;
        vacant = tt;
        spares = same.spares;
        refused = same.refused;
        later = same.later;
        calm = same.calm;
        any_moment = λ bytes reads. widened (IsBeginning old.image (first ∷ [])) (IsRunBeginning old.image header) old new (same.any_moment bytes reads) (begins old.image header short);
        uses = header_used first old new same.uses;
      }
