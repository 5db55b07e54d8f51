-- A sync of a disk that keeps its images puts all on the disk, or fails by its number or without
-- memory and puts nothing there (src/disk.rt).
use Rattle.std.proofs.Common.{rules, ◌≡◌, true, false, refl, sym, subst, ap, ◌∙◌}
use Rattle.disk_model.specs.Device.{Looks}
use Rattle.nc_number.specs.Faults.{next}
use Rattle.disk_images.specs.Images.{Images, after_settling, images_state, next_fails, with_fault}
use Rattle.disk_images.proofs.Moments.{looks_counted, settled_looks}
use Rattle.disk_images.proofs.Coming.{comes_due, comes_wanting, has_fault, no_fault, only_read, sync_fails, sync_passes, look_calm, short_of}
use Rattle.disk_images.proofs.disk.ImagesDiskDisk.sync.Goals as goal

pub returns-in_err-look-clause-model : goal.returns-in_err-look-clause-model
returns-in_err-look-clause-model c =
    let d = c.args.self.now in
    let fails : next_fails d ≡ true = sym c.in_err-look.ensures.fails in
    comes_due _ _ _ _ _ (search rules) (c.look.ensures.model ∙ sym (sync_fails d fails))

pub returns-in_err-look-clause-does : goal.returns-in_err-look-clause-does
returns-in_err-look-clause-does c = record {
  settled = search rules;
  looks = subst (λ (n : Images). Looks (images_state c.args.self.now) (images_state n)) (sym c.look.ensures.model) (looks_counted c.args.self.now _ c.look.ensures.kept);
  cause = search rules;
}

pub returns-then-is_err-clause-model : goal.returns-then-is_err-clause-model
returns-then-is_err-clause-model c =
    let same : c.settle.new.self ≡ c.look.new.self = c.settle.ensures.err (search rules) in
    comes_wanting _ _ _ _ _ refl (c.count_fault.ensures ∙ ap with_fault same ∙ ap with_fault c.look.ensures.model)

pub returns-then-is_err-clause-does : goal.returns-then-is_err-clause-does
returns-then-is_err-clause-does c =
    let d = c.args.self.now in
    let same : c.settle.new.self ≡ c.look.new.self = c.settle.ensures.err (search rules) in
    let whole = c.count_fault.ensures ∙ ap with_fault same ∙ ap with_fault c.look.ensures.model in
    let passes : next_fails d ≡ false = sym c.in_ok-look.ensures.fails in
    record {
      settled = search rules;
      looks = subst (λ (n : Images). Looks (images_state d) (images_state n)) (sym whole) (looks_counted d _ c.look.ensures.kept);
      cause = has_fault _ d c.count_fault.new.self (ap (λ (n : Images). n.faults) whole ∙ ap next (look_calm d passes)) c.look.ensures.kept.faults_fit;
    }

pub returns-clause-model : goal.returns-clause-model
returns-clause-model c =
    let d = c.args.self.now in
    let settled : c.settle.new.self ≡ after_settling c.look.new.self = c.settle.ensures.ok (search rules) in
    let passes : next_fails d ≡ false = sym c.in_ok-look.ensures.fails in
    comes_due _ _ _ _ _ passes (settled ∙ ap after_settling c.look.ensures.model ∙ sym (sync_passes d passes))

pub returns-clause-does : goal.returns-clause-does
returns-clause-does c =
    let d = c.args.self.now in
    let settled : c.settle.new.self ≡ after_settling c.look.new.self = c.settle.ensures.ok (search rules) in
    let whole = settled ∙ ap after_settling c.look.ensures.model in
    let passes : next_fails d ≡ false = sym c.in_ok-look.ensures.fails in
    record {
      settled = only_read c.settle.new.self (ap (λ (n : Images). n.others) whole);
      looks = subst (λ (n : Images). Looks (images_state d) (images_state n)) (sym whole) (settled_looks d _ c.look.ensures.kept (short_of d passes));
      cause = no_fault _ d c.settle.new.self (ap (λ (n : Images). n.faults) whole ∙ look_calm d passes);
    }
