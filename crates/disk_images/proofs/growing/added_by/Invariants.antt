-- The list has what a read gave before the write, and each of the images so far with the first
-- parts of the write over it (loop of `added_by`, src/growing.rt).
use Rattle.std.proofs.Common.{◌≡◌, ◌∷◌, take}
use Rattle.std.specs.List.{flat_map}
use Rattle.disk_images.specs.Images.{torn_images}
use Rattle.disk_images.proofs.growing.added_by.Given as goal

abbrev pub invariant-loop-image : goal.invariant-loop-image
invariant-loop-image l = l.added.items ≡ l.held ∷ flat_map (torn_images l.at l.bytes) (l.held ∷ take l.image-index l.others)
