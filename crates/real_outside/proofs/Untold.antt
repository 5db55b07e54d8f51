-- The calls of a disk of which nothing is told keep the contract of a disk.
-- The proofs of src/file_disk.rt use it.
use Rattle.std.proofs.Common.{inl, ℕ, ◌+◌, ◌^◌, ◌≤◌, ◌<◌, List, length, arith, refl, Ok, Err}
use Rattle.std.proofs.lemmas.Option.{none-some}
use Rattle.disk_model.specs.Device.{Looks, Tears, Torn, HasCause}
use Rattle.nc_number.specs.Faults.{Rose}
use Rattle.disk_model.specs.Calls.{Measures, Fetches, Writes, Syncs}
use Rattle.real_outside.specs.Untold.{untold_disk}

-- a call of a disk that tells nothing, which had `before` faults before and has `now` faults now
module _ (before now : ℕ) where
  -- such a call may have only looked
  looks : Looks (untold_disk before) (untold_disk now)
  looks = record {
    time = record {
      later = omega arith;
      moves = omega arith;
      covered = λ c here. tt;
      inside = λ c since. (c, tt, refl);
      before = λ t c le since. inl tt;
    };
    same = refl;
    counted = λ bytes told. absurd (none-some bytes told);
    reach = λ bytes told. absurd (none-some bytes told);
    allows = λ calls end never. never;
  }

  -- bytes that did not change are no torn write
  unharmed : (at n : ℕ) (c : List ℕ) → Torn at n c c
  unharmed at n c = record {
    no_shorter = omega arith;
    no_longer = omega arith;
    outside = λ i within outside. refl;
  }

  -- such a call may leave any bytes at a crash, also those of a write cut off
  tears : (at n : ℕ) → Tears at n (untold_disk before) (untold_disk now)
  tears at n = record {
    time = record {
      later = omega arith;
      moves = omega arith;
      covered = λ c here. tt;
      inside = λ c since. (c, tt, unharmed at n c);
      before = λ t c le since. inl tt;
    };
    told = λ bytes told. absurd (none-some bytes told);
    untold = λ none. none;
    counted = λ bytes told. absurd (none-some bytes told);
    reach = λ bytes told. absurd (none-some bytes told);
    allows = λ calls end never. never;
  }

-- a call that failed and was counted
module _ {E : Type 0} (before now : ℕ) (fault : E) (counts : (before ≤ now) × Rose before now) where
  -- an error has its cause: the count went up, or nothing is told
  cause : {T : Type 0} → HasCause {T = T} (untold_disk before) (untold_disk now) (Err fault)
  cause = record { later = counts.0; failed = λ failed. counts.1; calm = λ ok. absurd cc }

  -- a length that the system did not give is a fault that is counted
  pub failed_measure : Measures (untold_disk before) (untold_disk now) (Err fault)
  failed_measure = record { size = tt; small = tt; looks = looks before now; cause = cause }

  -- a read that failed is a fault that is counted
  pub failed_fetch : (at : ℕ) (old new : List ℕ) → Fetches at old new (untold_disk before) (untold_disk now) (Err fault)
  failed_fetch at old new =
      record { within = tt; count = tt; got = tt; looks = looks before now; cause = cause }

  -- a write that failed is a fault that is counted
  pub failed_write : {T : Type 0} (at : ℕ) (bytes : List ℕ)
      → Writes {T = T} at bytes (untold_disk before) (untold_disk now) (Err fault)
  failed_write at bytes =
      record { written = tt; small = tt; tears = tears before now at (length bytes); cause = cause }

  -- a sync that failed is a fault that is counted
  pub failed_sync : {T : Type 0} → Syncs {T = T} (untold_disk before) (untold_disk now) (Err fault)
  failed_sync = record { settled = tt; looks = looks before now; cause = cause }

-- a write that was done, within the length that a file may have
pub done_write : {T E : Type 0} (faults : ℕ) (done : T) (at : ℕ) (bytes : List ℕ) → at + length bytes < 2 ^ 62
    → Writes {E = E} at bytes (untold_disk faults) (untold_disk faults) (Ok done)
done_write faults done at bytes small = record {
  written = λ before told. absurd (none-some before told);
  small = small;
  tears = tears faults faults at (length bytes);
  cause = record { later = omega arith; failed = λ failed. absurd cc; calm = λ ok. refl };
}
