-- What a disk holds, and what a crash may leave of it. Runs of several calls are in Moments.
use Rattle.std.specs.Prelude.{◌≡◌, ◌⊎◌, ℕ, ◌+◌, ◌-◌, ◌≤◌, ◌<◌, max, List, ◌++◌, length, take, drop, slice_index, replicate, Option, Some, None, Result, IsOk, IsErr}
pub use Rattle.nc_number.specs.Faults.{next, Rose}

-- All that can be said of a disk at one moment.
pub record DiskState : Type 1 where
  pub reads : Option (List ℕ)  -- what a read gives, where the disk tells its content
  pub image : List ℕ → Type 0  -- a crash now may leave these bytes
  pub image_since : ℕ → List ℕ → Type 0  -- a crash at some moment since that time may have left them
  pub clock : ℕ  -- the time, which each call moves
  pub calls : ℕ  -- how many calls the disk has had
  pub reach : ℕ  -- the greatest end that a write was asked for
  pub faults : ℕ  -- how many calls have failed
  pub allows : ℕ → ℕ → Type 0  -- up to so many calls, and to this end of what writes are asked for, none fails

-- the disk tells its content, and a read gives these bytes
abbrev pub Reads : DiskState → List ℕ → Type 0
Reads disk bytes = disk.reads ≡ Some bytes

-- old, with these bytes at this offset; where that is past the end, zeros stand between
abbrev pub written_over : List ℕ → ℕ → List ℕ → List ℕ
written_over old at bytes = take at (old ++ replicate (at - length old) 0) ++ bytes ++ drop (at + length bytes) old

-- What a write of n bytes that did not end may leave: any bytes in its range and behind the old
-- end, and any length from the old one up to the range's end. The rest stays.
pub record Torn (at n : ℕ) (old new : List ℕ) : Type 0 where
  -- the file is no shorter than before
  pub no_shorter : length old ≤ length new
  -- the file ends no later than before or where the write ends
  pub no_longer : length new ≤ max (length old) (at + n)
  -- a byte of before outside the range of the write stays
  pub outside : (i : ℕ) → i < length old → (i < at) ⊎ (at + n ≤ i) → slice_index new i ≡ slice_index old i

-- an image stays as it is: the step of a call that writes nothing
abbrev pub Stays : List ℕ → List ℕ → Type 0
Stays old new = new ≡ old

-- One call: at each moment inside it a crash leaves what it might have left before, after a step of
-- this kind.
pub record Elapses (step : List ℕ → List ℕ → Type 0) (old new : DiskState) : Type 0 where
  -- time does not go back
  pub later : old.clock ≤ new.clock
  -- the call moves the time by at least one, as far as the clock goes
  pub moves : next old.clock ≤ new.clock
  -- what a crash might have left before the call is an image since that time
  pub covered : (c : List ℕ) → old.image c → new.image_since old.clock c
  -- what a crash may leave since then is an image from before the call, after a step
  pub inside : (c : List ℕ) → new.image_since old.clock c → (b : List ℕ) × old.image b × step b c
  -- an image since an earlier time was one before the call, or is one since the call began
  pub before : (t : ℕ) (c : List ℕ) → t ≤ old.clock → new.image_since t c
      → old.image_since t c ⊎ new.image_since old.clock c

-- A call that writes no bytes: a length, a read, or a sync, done or failed.
pub record Looks (old new : DiskState) : Type 0 where
  -- the call makes no image but those of before
  pub time : Elapses Stays old new
  -- a read gives what it gave
  pub same : new.reads ≡ old.reads
  -- a disk that tells its content counts the call
  pub counted : (bytes : List ℕ) → Reads old bytes → new.calls ≡ next old.calls
  -- a disk that tells its content was asked for no further write
  pub reach : (bytes : List ℕ) → Reads old bytes → new.reach ≡ old.reach
  -- what the disk allowed it still allows
  pub allows : (calls end : ℕ) → old.allows calls end → new.allows calls end

-- A write of n bytes, done or failed.
pub record Tears (at n : ℕ) (old new : DiskState) : Type 0 where
  -- images are torn in the range of the write and behind their old end
  pub time : Elapses (Torn at n) old new
  -- a disk that tells its content goes on telling, and what a read gives may be torn too
  pub told : (bytes : List ℕ) → Reads old bytes → (c : List ℕ) × Reads new c × Torn at n bytes c
  -- a disk that tells no content still tells none
  pub untold : old.reads ≡ None → new.reads ≡ None
  -- a disk that tells its content counts the call
  pub counted : (bytes : List ℕ) → Reads old bytes → new.calls ≡ next old.calls
  -- for a disk that tells its content the end of the write counts as asked for
  pub reach : (bytes : List ℕ) → Reads old bytes → new.reach ≡ max old.reach (at + n)
  -- what the disk allowed it still allows
  pub allows : (calls end : ℕ) → old.allows calls end → new.allows calls end

-- The count of faults never falls. An error comes only where it rose or stands at the last value of
-- u64, and an Ok only where it stayed.
pub record HasCause {T E : Type 0} (old new : DiskState) (result : Result T E) : Type 0 where
  -- the count does not fall
  pub later : old.faults ≤ new.faults
  -- an error raised it, or it stands at its last value
  pub failed : IsErr result → Rose old.faults new.faults
  -- an Ok left it
  pub calm : IsOk result → new.faults ≡ old.faults

-- of the images that a crash may leave there is none but these bytes
abbrev pub Only : List ℕ → (List ℕ → Type 0) → Type 0
Only bytes image = (c : List ℕ) → image c → c ≡ bytes

-- all that was written is on the disk: a crash leaves what a read gives
abbrev pub IsSettled : DiskState → Type 0
IsSettled disk = (bytes : List ℕ) → Reads disk bytes → Only bytes disk.image

-- The facts of a disk agree with one another, and a disk that tells its content and allows what it
-- was used for has had no fault.
pub record IsCoherent (disk : DiskState) : Type 0 where
  -- an image of now is one since any time before
  pub counts_now : (t : ℕ) (c : List ℕ) → t ≤ disk.clock → disk.image c → disk.image_since t c
  -- since now there are no other images
  pub only_now : (c : List ℕ) → disk.image_since disk.clock c → disk.image c
  -- what a read gives is an image
  pub as_read : (bytes : List ℕ) → Reads disk bytes → disk.image bytes
  -- a disk that allows what it was used for has had no fault
  pub enough : (bytes : List ℕ) (calls end : ℕ) → Reads disk bytes → disk.allows calls end
      → disk.calls ≤ calls → disk.reach ≤ end → disk.faults ≡ 0
