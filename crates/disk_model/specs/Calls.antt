-- What each call of a disk does, from its state before to its state after. The trait Disk states
-- its calls by these.
use Rattle.std.specs.Prelude.{◌≡◌, ℕ, ◌+◌, ◌-◌, ◌^◌, ◌≤◌, ◌<◌, min, List, ◌++◌, length, take, drop, Result, IfOk, OnOk}
use Rattle.disk_model.specs.Device.{DiskState, Reads, written_over, Looks, Tears, HasCause, IsSettled}

-- the call answers the number of bytes
pub record Measures {E : Type 0} (old new : DiskState) (result : Result ℕ E) : Type 0 where
  -- a disk that tells its content answers the length of that
  pub size : IfOk result (λ n. (bytes : List ℕ) → Reads old bytes → n ≡ length bytes)
  -- the number is below 2^62
  pub small : IfOk result (λ n. n < 2 ^ 62)
  -- the call writes nothing
  pub looks : Looks old new
  -- an error raised the count of faults, or that stands at its last value; an Ok left it
  pub cause : HasCause old new result

-- the call puts the bytes from an offset on into a slice, as many as there are and fit, and answers
-- how many
pub record Fetches {E : Type 0} (at : ℕ) (before after : List ℕ) (old new : DiskState) (result : Result ℕ E)
    : Type 0 where
  -- the answer is no more than the slice has room for
  pub within : IfOk result (λ n. n ≤ length before)
  -- a disk that tells its content gives as many as there are, up to the slice's length
  pub count : IfOk result (λ n. (bytes : List ℕ) → Reads old bytes → n ≡ min (length before) (length bytes - at))
  -- the slice begins with the bytes that were read, its rest is as before
  pub got : IfOk result (λ n. (bytes : List ℕ) → Reads old bytes → after ≡ take n (drop at bytes) ++ drop n before)
  -- the call writes nothing
  pub looks : Looks old new
  -- an error raised the count of faults, or that stands at its last value; an Ok left it
  pub cause : HasCause old new result

-- the call writes the bytes at an offset, over what is there and past the end
pub record Writes {T E : Type 0} (at : ℕ) (bytes : List ℕ) (old new : DiskState) (result : Result T E) : Type 0 where
  -- after a write that succeeded a read gives the bytes in their place
  pub written : OnOk result ((before : List ℕ) → Reads old before → Reads new (written_over before at bytes))
  -- a write that succeeded ends below 2^62
  pub small : OnOk result (at + length bytes < 2 ^ 62)
  -- done or failed, it tears nothing but its range and what lies behind the old end
  pub tears : Tears at (length bytes) old new
  -- an error raised the count of faults, or that stands at its last value; an Ok left it
  pub cause : HasCause old new result

-- the call puts on the disk what was written
pub record Syncs {T E : Type 0} (old new : DiskState) (result : Result T E) : Type 0 where
  -- after a sync that succeeded a crash leaves what a read gives
  pub settled : OnOk result (IsSettled new)
  -- done or failed, the call adds no image and changes nothing that a read gives
  pub looks : Looks old new
  -- an error raised the count of faults, or that stands at its last value; an Ok left it
  pub cause : HasCause old new result
