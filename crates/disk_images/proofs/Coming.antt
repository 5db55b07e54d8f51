-- What comes of a call: its faults, and whether the disk is then what is due or memory ran out. For
-- Writing, and the proofs of `write_at` and `sync` (src/disk.rt). The numbers are those of specs/Images;
-- 2^62 is `LENGTH_LIMIT` of src/disk.rt too.
use Rattle.std.proofs.Common.{◌≡◌, ℕ, ◌+◌, ◌-◌, ◌^◌, ◌<◌, ◌||◌, Bool, true, false, true≢false, inl, inr, List, [], Ok, Err, refl, sym, ◌∙◌, arith, subst}
use Rattle.std.specs.Prelude.{nat_le, ◌==◌}
use Rattle.std.specs.List.{list_any}
use Rattle.std.proofs.lemmas.Bool.Decides.{nat_tests}
use Rattle.disk_model.specs.Device.{HasCause, IsSettled}
use Rattle.nc_number.specs.Faults.{next}
use Rattle.disk_images.specs.Among.{IsAmong}
use Rattle.disk_images.specs.Images.{Images, after_look, after_settling, after_sync, images_state, next_fails, refuses_write, write_fails}
use Rattle.disk_images.specs.Outcome.{Comes, as_due, for_want_of_memory}

-- if a call fails exactly as it is to and the disk is what is due, that is one outcome
pub comes_due : (fails : Bool) (due counted new : Images) (failed : Bool) → fails ≡ failed → new ≡ due → Comes fails due counted new failed
comes_due fails due counted new failed same is = subst (λ (b : Bool). Comes fails due counted new b) same (as_due is)

-- if a call fails and only the call and its fault are counted, memory ran out: the other outcome
pub comes_wanting : (fails : Bool) (due counted new : Images) (failed : Bool) → failed ≡ true → new ≡ counted → Comes fails due counted new failed
comes_wanting fails due counted new failed same is = subst (λ (b : Bool). Comes fails due counted new b) (sym same) (for_want_of_memory is)

-- a call that fails and has its fault counted keeps the trait's clause on faults
pub has_fault : {T E : Type 0} (e : E) (d new : Images) → new.faults ≡ next d.faults → d.faults < 2 ^ 64
    → HasCause {T = T} {E = E} (images_state d) (images_state new) (Err e)
has_fault e d new is fits = record {
  later = omega (arith, is, fits);
  failed = λ _. omega (arith, is);
  calm = λ ok. absurd (true≢false (sym ok));
}

-- a call that succeeds and counts no fault keeps the trait's clause on faults
pub no_fault : {T E : Type 0} (x : T) (d new : Images) → new.faults ≡ d.faults → HasCause {T = T} {E = E} (images_state d) (images_state new) (Ok x)
no_fault x d new is = record {
  later = omega (arith, is);
  failed = λ err. absurd (true≢false (sym err));
  calm = λ _. is;
}

-- if a crash may leave nothing but what a read gives, as after a sync, all is on the disk
pub only_read : (d : Images) → d.others ≡ [] → IsSettled (images_state d)
only_read d none bytes reads c (inl is) = let same : d.bytes ≡ bytes = cc in is ∙ same
only_read d none bytes reads c (inr other) = absurd (subst (λ (l : List (List ℕ)). IsAmong l c) none other)

-- a sync that is to fail does no more than a call that writes nothing
pub sync_fails : (d : Images) → next_fails d ≡ true → after_sync d ≡ after_look d
sync_fails d is = rw is refl

-- a sync that isn't to fail puts all that was written on the disk
pub sync_passes : (d : Images) → next_fails d ≡ false → after_sync d ≡ after_settling (after_look d)
sync_passes d is = rw is refl

-- a call that isn't to fail counts no fault
pub look_calm : (d : Images) → next_fails d ≡ false → (after_look d).faults ≡ d.faults
look_calm d is = rw is refl

-- if neither of two causes of a fault holds, the first does not
spent_or : (spent listed : Bool) → spent || listed ≡ false → spent ≡ false
spent_or true listed is = is
spent_or false listed is = refl

-- a call that does not fail is counted
pub short_of : (d : Images) → next_fails d ≡ false → d.calls < next d.calls
short_of d is = let unspent : nat_le (2 ^ 64 - 1) d.calls ≡ false = spent_or (nat_le (2 ^ 64 - 1) d.calls) (list_any (λ n. n == d.calls + 1) d.failing) is in grind (arith, nat_tests)

-- if a write is refused, it fails, whether or not its number is listed
or_fails : (spent listed long : Bool) → spent || long ≡ true → (spent || listed) || long ≡ true
or_fails true listed long is = refl
or_fails false true long is = refl
or_fails false false long is = is

-- a write that is refused fails
pub refused_fails : (d : Images) (end : ℕ) → refuses_write d end ≡ true → write_fails d end ≡ true
refused_fails d end is = or_fails (nat_le (2 ^ 64 - 1) d.calls) (list_any (λ n. n == d.calls + 1) d.failing) (nat_le (2 ^ 62) end) is

-- if a write fails by its number, it fails, however long it is
or_listed : (fails long : Bool) → fails ≡ true → fails || long ≡ true
or_listed fails long is = rw is refl

-- a write that is to fail by its number fails
pub listed_fails : (d : Images) (end : ℕ) → next_fails d ≡ true → write_fails d end ≡ true
listed_fails d end is = or_listed (next_fails d) (nat_le (2 ^ 62) end) is

-- if a write is neither refused nor to fail by its number, it passes (truth values)
or_passes : (spent fails long : Bool) → spent || long ≡ false → fails ≡ false → fails || long ≡ false
or_passes true fails long is none = absurd (true≢false is)
or_passes false fails long is none = rw none is

-- a write that is neither refused nor to fail by its number passes
pub write_passes : (d : Images) (end : ℕ) → refuses_write d end ≡ false → next_fails d ≡ false → write_fails d end ≡ false
write_passes d end is none = or_passes (nat_le (2 ^ 64 - 1) d.calls) (next_fails d) (nat_le (2 ^ 62) end) is none

-- if a write is not refused, it is not too long
or_long : (spent long : Bool) → spent || long ≡ false → long ≡ false
or_long true long is = absurd (true≢false is)
or_long false long is = is

-- a write that is not refused ends below 2^62
pub write_short : (d : Images) (end : ℕ) → refuses_write d end ≡ false → end < 2 ^ 62
write_short d end is = let short : nat_le (2 ^ 62) end ≡ false = or_long (nat_le (2 ^ 64 - 1) d.calls) (nat_le (2 ^ 62) end) is in grind (arith, nat_tests)
