-- The images that `images_since` lists are exactly those that a crash since then may have left
-- (src/disk.rt).
use Rattle.disk_images.proofs.Parts.{just_listed}
use Rattle.disk_images.proofs.disk.ImagesDisk.images_since.Goals as goal

pub returns-clause-just : goal.returns-clause-just
returns-clause-just c = just_listed (λ v. v.items) c.args.self.now c.args.since c.listed_since.result c.listed_since.ensures
