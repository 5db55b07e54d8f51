-- `add_torn` adds the image with each first part of the write over it, one byte more in each turn
-- (src/growing.rt).
use Rattle.std.proofs.Common.{rules, ◌≡◌, ◌+◌, ◌++◌, ◌∷◌, [], take, sym, ◌∙◌, ap, append_assoc, append-nil}
use Rattle.disk_model.specs.Device.{written_over}
use Rattle.disk_images.specs.Images.{torn_to}
use Rattle.disk_images.proofs.Torn.{torn_none, torn_more}
use Rattle.disk_images.proofs.growing.add_torn.Goals as goal

pub loop-count-init : goal.loop-count-init
loop-count-init c =
    sym (ap (λ l. c.args.into.now.items ++ l) (torn_none c.args.image.now c.args.at c.args.bytes.now) ∙ append-nil c.args.into.now.items)

pub loop-count-preserved : goal.loop-count-preserved
loop-count-preserved c =
    let image = c.args.image.now in
    let at = c.args.at in
    let bytes = c.args.bytes.now in
    let count = c.loop-count.count in
    let next = written_over image at (take (count + 1) bytes) in
    let pushed : c.push.new.self.items ≡ c.loop-count.into.items ++ next ∷ [] = search rules in
    pushed ∙ ap (λ l. l ++ next ∷ []) c.loop-count.invariant
    ∙ append_assoc c.args.into.now.items (torn_to image at bytes count) (next ∷ [])
    ∙ ap (λ l. c.args.into.now.items ++ l) (sym (torn_more image at bytes count))
