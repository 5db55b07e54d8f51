-- A write to a disk that keeps its images has four outcomes: it is refused, it fails by its number
-- and may be torn, it runs out of memory and writes nothing, or it is made. Each adds only torn
-- images (src/disk.rt).
use Rattle.std.proofs.Common.{rules, ◌≡◌, inl, inr, ◌+◌, length, true, false, refl, sym, ap, ◌∙◌}
use Rattle.disk_images.specs.Images.{Images, images_with_write, next_fails, images_after_write, refuses_write, with_fault}
use Rattle.disk_images.proofs.Coming.{comes_due, comes_wanting, listed_fails, refused_fails, write_passes, write_short}
use Rattle.disk_images.proofs.Writing.{done_or_not, done_writes, failed_writes, write_done, write_listed, write_refused}
use Rattle.disk_images.proofs.disk.ImagesDiskDisk.write_at.Goals as goal

pub returns-then-refused-clause-model : goal.returns-then-refused-clause-model
returns-then-refused-clause-model c =
    let d = c.args.self.now in
    let end = c.args.at + length c.args.bytes.now in
    let refused : refuses_write d end ≡ true = sym c.count_write-refused.ensures.refused ∙ c.if-refused.true in
    comes_due _ _ _ _ _ (refused_fails d end refused)
    (c.count_fault.ensures ∙ ap with_fault c.count_write-refused.ensures.model ∙ sym (write_refused d c.args.at c.args.bytes.now refused))

pub returns-then-refused-clause-does : goal.returns-then-refused-clause-does
returns-then-refused-clause-does c =
    failed_writes c.args.self.now c.count_fault.new.self c.args.at c.args.bytes.now c.count_write-refused.ensures.kept _
    (inl (c.count_fault.ensures ∙ ap with_fault c.count_write-refused.ensures.model))

pub returns-then-fails-clause-model : goal.returns-then-fails-clause-model
returns-then-fails-clause-model c =
    let d = c.args.self.now in
    let bytes = c.args.bytes.now in
    let end = c.args.at + length bytes in
    let model = c.count_write-refused.ensures.model in
    let passed : refuses_write d end ≡ false = sym c.count_write-refused.ensures.refused ∙ c.if-refused.false in
    let fails : next_fails d ≡ true = sym c.count_write-refused.ensures.fails ∙ c.if-fails.true in
    elim (done_or_not c.grow.result _ _ _ c.grow.ensures.ok c.grow.ensures.err) [
      | inl is ↦ comes_due _ _ _ _ _ (listed_fails d end fails)
          (c.count_fault-then-fails.ensures ∙ ap with_fault (is ∙ ap (λ (k : Images). images_with_write k c.args.at bytes) model) ∙ sym (write_listed d c.args.at bytes passed fails))
      | inr is ↦ comes_wanting _ _ _ _ _ refl (c.count_fault-then-fails.ensures ∙ ap with_fault (is ∙ model))
    ]

pub returns-then-fails-clause-does : goal.returns-then-fails-clause-does
returns-then-fails-clause-does c =
    let bytes = c.args.bytes.now in
    let model = c.count_write-refused.ensures.model in
    failed_writes c.args.self.now c.count_fault-then-fails.new.self c.args.at bytes c.count_write-refused.ensures.kept _
    (elim (done_or_not c.grow.result _ _ _ c.grow.ensures.ok c.grow.ensures.err) [
      | inl is ↦ inr (c.count_fault-then-fails.ensures ∙ ap with_fault (is ∙ ap (λ (k : Images). images_with_write k c.args.at bytes) model))
      | inr is ↦ inl (c.count_fault-then-fails.ensures ∙ ap with_fault (is ∙ model))
    ])

pub returns-then-is_err-clause-model : goal.returns-then-is_err-clause-model
returns-then-is_err-clause-model c =
    let same : c.overwrite.new.self ≡ c.count_write-refused.new.self = c.overwrite.ensures.err (search rules) in
    comes_wanting _ _ _ _ _ refl (c.count_fault-then-is_err.ensures ∙ ap with_fault (same ∙ c.count_write-refused.ensures.model))

pub returns-then-is_err-clause-does : goal.returns-then-is_err-clause-does
returns-then-is_err-clause-does c =
    let same : c.overwrite.new.self ≡ c.count_write-refused.new.self = c.overwrite.ensures.err (search rules) in
    failed_writes c.args.self.now c.count_fault-then-is_err.new.self c.args.at c.args.bytes.now c.count_write-refused.ensures.kept _
    (inl (c.count_fault-then-is_err.ensures ∙ ap with_fault (same ∙ c.count_write-refused.ensures.model)))

pub returns-clause-model : goal.returns-clause-model
returns-clause-model c =
    let d = c.args.self.now in
    let bytes = c.args.bytes.now in
    let end = c.args.at + length bytes in
    let passed : refuses_write d end ≡ false = sym c.count_write-refused.ensures.refused ∙ c.if-refused.false in
    let calm : next_fails d ≡ false = sym c.count_write-refused.ensures.fails ∙ c.if-fails.false in
    let written : c.overwrite.new.self ≡ images_after_write c.count_write-refused.new.self c.args.at bytes = c.overwrite.ensures.ok (search rules) in
    comes_due _ _ _ _ _ (write_passes d end passed calm)
    (written ∙ ap (λ (k : Images). images_after_write k c.args.at bytes) c.count_write-refused.ensures.model ∙ sym (write_done d c.args.at bytes passed calm))

pub returns-clause-does : goal.returns-clause-does
returns-clause-does c =
    let d = c.args.self.now in
    let bytes = c.args.bytes.now in
    let end = c.args.at + length bytes in
    let passed : refuses_write d end ≡ false = sym c.count_write-refused.ensures.refused ∙ c.if-refused.false in
    let written : c.overwrite.new.self ≡ images_after_write c.count_write-refused.new.self c.args.at bytes = c.overwrite.ensures.ok (search rules) in
    done_writes d c.overwrite.new.self c.args.at bytes c.count_write-refused.ensures.kept _ (write_short d end passed)
    (written ∙ ap (λ (k : Images). images_after_write k c.args.at bytes) c.count_write-refused.ensures.model)
