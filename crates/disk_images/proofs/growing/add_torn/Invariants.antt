-- The list has the image with each first part so far of the write over it (loop of `add_torn`,
-- src/growing.rt).
use Rattle.std.proofs.Common.{◌≡◌, ◌++◌}
use Rattle.disk_images.specs.Images.{torn_to}
use Rattle.disk_images.proofs.growing.add_torn.Given as goal

abbrev pub invariant-loop-count : goal.invariant-loop-count
invariant-loop-count l = l.into.items ≡ l.fn.into.items ++ torn_to l.image l.at l.bytes l.count
