-- The facts of a disk that keeps every image agree with one another, as the trait Disk asks. For
-- src/disk.rt alone.
use Rattle.std.specs.Prelude.{◌≡◌}
use Rattle.std.proofs.Common.{arith, inl, inr, sym}
use Rattle.disk_model.specs.Device.{IsCoherent}
use Rattle.disk_images.specs.Images.{Images, images_state}

-- what a disk that keeps every image tells of reads, images and time agrees; it allows nothing
pub images_coherent : (d : Images) → IsCoherent (images_state d)
images_coherent d = record {
  counts_now = λ t c le now. inl now;
  only_now = λ c since. elim since [ inl now ↦ now | inr past ↦ absurd (omega (arith, past.0)) ];
  as_read = λ bytes is. let same : d.bytes ≡ bytes = cc in inl (sym same);
  enough = λ bytes calls end told allows used asked. absurd allows;
}
