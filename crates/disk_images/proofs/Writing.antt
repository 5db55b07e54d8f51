-- What a write to a disk that keeps its images does, done or failed. For the proof of `write_at`
-- (src/disk.rt).
use Rattle.std.proofs.Common.{◌≡◌, ◌⊎◌, inl, inr, ℕ, ◌+◌, ◌^◌, ◌<◌, true, false, List, length, Result, Ok, Err, Some, refl, sym, ap, ◌∙◌, subst}
use Rattle.std.specs.Prelude.{IsOk, IsErr}
use Rattle.disk_model.specs.Calls.{Writes}
use Rattle.disk_model.specs.Device.{Tears, written_over}
use Rattle.nc_number.specs.Faults.{next}
use Rattle.disk_model.proofs.Written.{torn_by_write, torn_not}
use Rattle.disk_images.specs.Images.{Images, IsKept, after_request, after_write, images_with_write, images_state, next_fails, images_after_write, refuses_write, with_fault}
use Rattle.disk_images.proofs.Moments.{tears_not}
use Rattle.disk_images.proofs.Torn.{tears_grown}
use Rattle.disk_images.proofs.Coming.{has_fault, no_fault}

-- after a step that may fail, the disk is what is due or as it was
pub done_or_not : {T E : Type 0} (r : Result T E) (old due new : Images) → (IsOk r → new ≡ due) → (IsErr r → new ≡ old) → (new ≡ due) ⊎ (new ≡ old)
done_or_not (Ok x) old due new ok err = inl (ok refl)
done_or_not (Err e) old due new ok err = inr (err refl)

-- a write that is refused counts a call and a fault
pub write_refused : (d : Images) (at : ℕ) (bytes : List ℕ) → refuses_write d (at + length bytes) ≡ true
    → after_write d at bytes ≡ with_fault (after_request d (at + length bytes))
write_refused d at bytes is = rw is refl

-- a write that is to fail by its number may still be torn over each image
pub write_listed : (d : Images) (at : ℕ) (bytes : List ℕ) → refuses_write d (at + length bytes) ≡ false → next_fails d ≡ true
    → after_write d at bytes ≡ with_fault (images_with_write (after_request d (at + length bytes)) at bytes)
write_listed d at bytes is fails = rw (is, fails) refl

-- a write that isn't to fail is made of what a read gives
pub write_done : (d : Images) (at : ℕ) (bytes : List ℕ) → refuses_write d (at + length bytes) ≡ false → next_fails d ≡ false
    → after_write d at bytes ≡ images_after_write (after_request d (at + length bytes)) at bytes
write_done d at bytes is fails = rw (is, fails) refl

-- a write of these bytes at this place: `d` is the disk before it, `new` the disk after it
module _ {T E : Type 0} (d new : Images) (at : ℕ) (bytes : List ℕ) (kept : IsKept d) where
  -- a write that failed, and wrote nothing or counts as written, keeps the trait's clause on writes
  pub failed_writes : (e : E) → (new ≡ with_fault (after_request d (at + length bytes))) ⊎ (new ≡ with_fault (images_with_write (after_request d (at + length bytes)) at bytes))
      → Writes {T = T} {E = E} at bytes (images_state d) (images_state new) (Err e)
  failed_writes e (inl is) = record {
    written = tt;
    small = tt;
    tears = subst (λ (n : Images). Tears at (length bytes) (images_state d) (images_state n)) (sym is)
        (tears_not d at (length bytes) (next d.faults) kept (torn_not at (length bytes)));
    cause = has_fault e d new (ap (λ (n : Images). n.faults) is) kept.faults_fit;
  }
  failed_writes e (inr is) = record {
    written = tt;
    small = tt;
    tears = subst (λ (n : Images). Tears at (length bytes) (images_state d) (images_state n)) (sym is)
        (tears_grown d at bytes d.bytes (next d.faults) kept (torn_not at (length bytes) d.bytes));
    cause = has_fault e d new (ap (λ (n : Images). n.faults) is) kept.faults_fit;
  }

  -- a write that succeeded keeps the trait's clause on writes
  pub done_writes : (x : T) → at + length bytes < 2 ^ 62 → new ≡ images_after_write (after_request d (at + length bytes)) at bytes
      → Writes {T = T} {E = E} at bytes (images_state d) (images_state new) (Ok x)
  done_writes x short is = record {
    written = λ before reads. let same : d.bytes ≡ before = cc in
        ap (λ (n : Images). Some n.bytes) is ∙ ap (λ (b : List ℕ). Some (written_over b at bytes)) same;
    small = short;
    tears = subst (λ (n : Images). Tears at (length bytes) (images_state d) (images_state n)) (sym is)
        (tears_grown d at bytes (written_over d.bytes at bytes) d.faults kept (torn_by_write d.bytes at bytes));
    cause = no_fault x d new (ap (λ (n : Images). n.faults) is);
  }
