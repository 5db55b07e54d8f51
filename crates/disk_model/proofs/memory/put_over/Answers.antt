-- `put_over` fills the content up to the end of the write and puts the bytes in: that writes them
-- over what was there (src/memory.rt).
use Rattle.std.proofs.Common.{◌≡◌, length, ◌∙◌, arith}
use Rattle.std.proofs.lemmas.List.{with_items_is}
use Rattle.disk_model.proofs.Written.{filled_up}
use Rattle.disk_model.proofs.memory.put_over.Goals as goal

pub returns-clause-items : goal.returns-clause-items
returns-clause-items c =
    let size : length c.put_inside.new.content ≡ c.fill_up.new.content.len = omega (arith, c.put_inside.auto.content, c.deref_mut.ensures.len) in
    with_items_is c.fill_up.new.content c.put_inside.new.content size
    ∙ c.put_inside.ensures
    ∙ filled_up c.args.content.now.items c.args.at c.args.bytes.now c.deref_mut.result.now (c.deref_mut.ensures.value ∙ c.fill_up.ensures.items)
