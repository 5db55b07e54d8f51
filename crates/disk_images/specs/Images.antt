-- What a disk in memory holds that keeps every image, and what each call makes of it. An image is
-- the bytes of the whole file that a crash may leave. No other crate cites it.
use Rattle.std.specs.Prelude.{◌⊎◌, ℕ, zero, suc, ◌+◌, ◌-◌, ◌^◌, ◌<◌, ◌==◌, ◌||◌, nat_le, nat_lt, Bool, List, [], ◌∷◌, ◌++◌, length, take, max, Some, if◌then◌else◌}
use Rattle.std.specs.List.{flat_map, list_any}
use Rattle.disk_model.specs.Device.{DiskState, written_over}
use Rattle.nc_number.specs.Faults.{next}
use Rattle.disk_images.specs.Among.{IsAmong, Ended, AreEnded, WasLeft, all_ended, left_since}

-- what the disk holds; a moment is how many calls it has had
pub record Images : Type 0 where
  pub bytes : List ℕ  -- what a read gives
  pub others : List (List ℕ)  -- what else a crash now may leave
  pub past : List Ended  -- what a crash before a sync may have left, since the disk was made
  pub failing : List ℕ  -- the numbers of the calls that are to fail, from 1
  -- how many calls it has had
  pub calls : ℕ
  -- where the farthest write that was asked for ends
  pub reach : ℕ
  -- how many calls failed
  pub faults : ℕ

-- what a crash now may leave: what a read gives, and the others
abbrev pub images_now : Images → List (List ℕ)
images_now d = d.bytes ∷ d.others

-- what a crash at that time, or later, may have left
abbrev pub images_since : Images → ℕ → List (List ℕ)
images_since d since = images_now d ++ (if nat_lt since d.calls then left_since since d.past else [])

-- All that can be said of such a disk. It allows no calls without a fault: each may want memory.
abbrev pub images_state : Images → DiskState
images_state d = record {
  reads = Some d.bytes;
  image = IsAmong (images_now d);
  image_since = λ since c. IsAmong (images_now d) c ⊎ ((since < d.calls) × WasLeft since d.past c);
  clock = d.calls;
  calls = d.calls;
  reach = d.reach;
  faults = d.faults;
  allows = λ calls end. ⊥;
}

-- what is true of every disk that keeps its images
pub record IsKept (d : Images) : Type 0 where
  -- what a read gives is shorter than 2 ^ 62 bytes
  pub small : length d.bytes < 2 ^ 62
  -- no image was ended later than now
  pub ended : AreEnded d.calls d.past
  -- the count of calls fits 64 bits
  pub calls_fit : d.calls < 2 ^ 64
  -- the count of faults fits 64 bits
  pub faults_fit : d.faults < 2 ^ 64

-- a disk that has had no call
abbrev pub fresh_images : List ℕ → List ℕ → Images
fresh_images bytes failing = record {
  bytes = bytes;
  others = [];
  past = [];
  failing = failing;
  calls = 0;
  reach = 0;
  faults = 0;
}

-- the next call fails: its number is listed, or it can't be counted
abbrev pub next_fails : Images → Bool
next_fails d = nat_le (2 ^ 64 - 1) d.calls || list_any (λ n. n == d.calls + 1) d.failing

-- a write up to this end writes nothing: the call can't be counted, or the file would be too long
abbrev pub refuses_write : Images → ℕ → Bool
refuses_write d end = nat_le (2 ^ 64 - 1) d.calls || nat_le (2 ^ 62) end

-- a write up to this end would fail: as any call would, or because the file would be too long
abbrev pub write_fails : Images → ℕ → Bool
write_fails d end = next_fails d || nat_le (2 ^ 62) end

-- the disk with one fault more
abbrev pub with_fault : Images → Images
with_fault d = record d { faults = next d.faults }

-- the disk after a call that writes nothing: it is counted, and a fault if it fails
abbrev pub after_look : Images → Images
after_look d = record d { calls = next d.calls; faults = (if next_fails d then next d.faults else d.faults) }

-- the disk after a sync that succeeded: from now on a crash leaves what a read gives
abbrev pub after_settling : Images → Images
after_settling d = record d { others = []; past = d.past ++ all_ended d.calls (images_now d) }

-- the disk after a sync, if there is memory: one that is to fail puts nothing on it
abbrev pub after_sync : Images → Images
after_sync d = if next_fails d then after_look d else after_settling (after_look d)

-- the disk after a write up to this end was asked for, whatever it did
abbrev pub after_request : Images → ℕ → Images
after_request d end = record d { calls = next d.calls; reach = max d.reach end }

-- the image with the first byte of a write over it, with the first two, and so on up to so many
unfoldable pub torn_to : List ℕ → ℕ → List ℕ → ℕ → List (List ℕ)
torn_to image at bytes zero = []
torn_to image at bytes (suc count) = torn_to image at bytes count ++ written_over image at (take (suc count) bytes) ∷ []

-- what a write may make of an image, but for leaving it as it is
abbrev pub torn_images : ℕ → List ℕ → List ℕ → List (List ℕ)
torn_images at bytes image = torn_to image at bytes (length bytes)

-- The disk with the images that a write adds: each image so far stays one, and each of them with a
-- first part of the write over it is one.
abbrev pub images_with_write : Images → ℕ → List ℕ → Images
images_with_write d at bytes =
    record d { others = d.others ++ d.bytes ∷ flat_map (torn_images at bytes) (images_now d) }

-- The disk after a write that succeeded: a read gives the bytes, and a crash may leave a first part
-- of them.
abbrev pub images_after_write : Images → ℕ → List ℕ → Images
images_after_write d at bytes = record (images_with_write d at bytes) { bytes = written_over d.bytes at bytes }

-- the disk after a write, if there is memory: one that is refused writes nothing, and one that is
-- to fail by its number writes nothing and counts as written
abbrev pub after_write : Images → ℕ → List ℕ → Images
after_write d at bytes =
    if refuses_write d (at + length bytes) then with_fault (after_request d (at + length bytes))
    else if next_fails d then with_fault (images_with_write (after_request d (at + length bytes)) at bytes)
    else images_after_write (after_request d (at + length bytes)) at bytes
