-- The list has what a read gives and the other images so far (loop of `listed_since`, src/disk.rt).
use Rattle.std.proofs.Common.{◌≡◌, ◌∷◌, take}
use Rattle.disk_images.proofs.disk.ImagesDisk.listed_since.Given as goal

abbrev pub invariant-loop-image : goal.invariant-loop-image
invariant-loop-image l = l.images.items ≡ l.self.bytes ∷ take l.image-index l.self.others
