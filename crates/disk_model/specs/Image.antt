-- What a crash may leave of a disk in memory between two syncs: the images. For the disks in memory
-- of this crate and the law `images_are_torn_writes`; the journal sees images through Device.
use Rattle.std.specs.Prelude.{◌≡◌, ◌⊎◌, ℕ, ◌+◌, ◌≤◌, ◌<◌, max, List, [], ◌∷◌, length, slice_index}
use Rattle.disk_model.specs.declared.stretch.Stretch.{Stretch}

-- the place lies in none of the stretches, which are parts of the file, by offset and length
abbrev pub IsOutside : ℕ → List Stretch → Type 0
IsOutside i [] = Unit {0}
IsOutside i (s ∷ written) = ((i < s.at) ⊎ (s.at + s.len ≤ i)) × IsOutside i written

-- the greatest of the length and the stretches' ends
abbrev pub greatest_end : ℕ → List Stretch → ℕ
greatest_end len [] = len
greatest_end len (s ∷ written) = max (s.at + s.len) (greatest_end len written)

-- An image since a sync: each written stretch, and what lies behind the old end, holds any bytes;
-- the length lies between the synced one and the greatest written end; the rest stays.
pub record IsImage (synced : List ℕ) (written : List Stretch) (c : List ℕ) : Type 0 where
  -- the image is no shorter than what was synced
  pub no_shorter : length synced ≤ length c
  -- the image ends no later than what was synced or the farthest write
  pub no_longer : length c ≤ greatest_end (length synced) written
  -- a synced byte in no written stretch stays
  pub outside : (i : ℕ) → i < length synced → IsOutside i written → slice_index c i ≡ slice_index synced i
