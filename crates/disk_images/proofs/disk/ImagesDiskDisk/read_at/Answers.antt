-- A disk that keeps its images tells the bytes at a place, or the call fails by its number; no
-- image is added (src/disk.rt).
use Rattle.std.proofs.Common.{rules, sym, subst}
use Rattle.disk_model.specs.Device.{Looks}
use Rattle.disk_images.specs.Images.{Images, images_state}
use Rattle.disk_images.proofs.Moments.{looks_counted}
use Rattle.disk_images.proofs.disk.ImagesDiskDisk.read_at.Goals as goal

pub returns-in_err-look-clause-does : goal.returns-in_err-look-clause-does
returns-in_err-look-clause-does c = record {
  within = search rules;
  count = search rules;
  got = search rules;
  looks = subst (λ (n : Images). Looks (images_state c.args.self.now) (images_state n)) (sym c.look.ensures.model) (looks_counted c.args.self.now _ c.look.ensures.kept);
  cause = search rules;
}

pub returns-clause-does : goal.returns-clause-does
returns-clause-does c = record {
  within = search rules;
  count = search rules;
  got = search rules;
  looks = subst (λ (n : Images). Looks (images_state c.args.self.now) (images_state n)) (sym c.look.ensures.model) (looks_counted c.args.self.now _ c.look.ensures.kept);
  cause = search rules;
}
