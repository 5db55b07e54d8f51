-- `write_over` puts bytes over the old ones, with zeros between if they begin after the end
-- (src/image.rt).
use Rattle.std.proofs.Common.{◌≡◌, length, ◌∙◌, arith}
use Rattle.std.proofs.lemmas.List.{with_items_is}
use Rattle.disk_model.proofs.Written.{filled_up}
use Rattle.disk_images.proofs.image.write_over.Goals as goal

pub returns : goal.returns
returns c =
    let size : length c.put_inside.new.content ≡ c.in_ok-new.new.len = omega (arith, c.put_inside.auto.content, c.deref_mut.ensures.len) in
    with_items_is c.in_ok-new.new c.put_inside.new.content size
    ∙ c.put_inside.ensures
    ∙ filled_up c.args.old.now c.args.at c.args.bytes.now c.deref_mut.result.now (c.deref_mut.ensures.value ∙ c.in_ok-new.ensures)
