-- What a crash between two syncs may leave: without writes only what was synced, and with one write
-- more an image from before it that this write tore (src/laws.rt).
use Rattle.std.proofs.Common.{[], sym, subst}
use Rattle.disk_model.specs.Image.{IsImage}
use Rattle.disk_model.proofs.Images.{image_only, image_synced, image_back, image_torn}
use Rattle.disk_model.proofs.laws.images_are_torn_writes.Goals as goal

pub returns-clause-none : goal.returns-clause-none
returns-clause-none c = λ synced image. (image_only synced image, λ same. subst (IsImage synced []) (sym same) (image_synced synced []))

pub returns-clause-more : goal.returns-clause-more
returns-clause-more c = λ synced written s image. (image_back synced written s image, λ from. image_torn synced written s from.0 image from.1 from.2)
