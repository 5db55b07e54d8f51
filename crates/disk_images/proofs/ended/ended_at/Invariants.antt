-- What a read gave and the images so far are ended (loop of `ended_at`, src/ended.rt).
use Rattle.std.proofs.Common.{◌≡◌, ◌∷◌, take}
use Rattle.disk_images.specs.Among.{all_ended}
use Rattle.disk_images.proofs.ended.ended_at.Given as goal

abbrev pub invariant-loop-image : goal.invariant-loop-image
invariant-loop-image l = l.ended.items ≡ all_ended l.until (l.held ∷ take l.image-index l.others)
