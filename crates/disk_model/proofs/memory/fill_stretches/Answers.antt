-- `fill_stretches` fills one stretch more at each turn, within the room (src/memory.rt).
use Rattle.std.proofs.Common.{◌≡◌, length, take, get_or, ◌∙◌, arith}
use Rattle.std.proofs.lemmas.List.{with_items_is, take_more}
use Rattle.disk_model.specs.declared.stretch.Stretch.{Stretch}
use Rattle.disk_model.proofs.Filled.{end_within, filled_push}
use Rattle.disk_model.proofs.memory.fill_stretches.Goals as goal

pub overflow_add-stretch : goal.overflow_add-stretch
overflow_add-stretch c =
    let none : Stretch = record { at = 0; len = 0 } in
    let within = end_within (length c.args.content.now.items) c.args.written.now c.loop-stretch.stretch-index none c.loop-stretch-test.true in
    omega (arith, within, c.requires)

pub fill_up-requires : goal.fill_up-requires
fill_up-requires c =
    let none : Stretch = record { at = 0; len = 0 } in
    let within = end_within (length c.args.content.now.items) c.args.written.now c.loop-stretch.stretch-index none c.loop-stretch-test.true in
    omega (arith, within, c.requires, c.loop-stretch.invariant.room)

pub loop-stretch-preserved : goal.loop-stretch-preserved
loop-stretch-preserved c =
    let none : Stretch = record { at = 0; len = 0 } in
    let s = get_or c.args.written.now c.loop-stretch.stretch-index none in
    let before = take c.loop-stretch.stretch-index c.args.written.now in
    let size : length c.fill_inside.new.content ≡ c.fill_up.new.content.len = omega (arith, c.fill_inside.ensures.len, c.deref_mut.ensures.len) in
    let whole = with_items_is c.fill_up.new.content c.fill_inside.new.content size in
    let filled = filled_push c.args.with c.args.content.now.items before s c.loop-stretch.content.items c.deref_mut.result.now c.fill_inside.new.content
    c.loop-stretch.invariant.filled (c.deref_mut.ensures.value ∙ c.fill_up.ensures.items) c.fill_inside.ensures.items in
    let more = take_more c.args.written.now c.loop-stretch.stretch-index none c.loop-stretch-test.true in
    record {
      filled = rw (whole, more) filled;
      room = omega (arith, c.loop-stretch.invariant.room, c.fill_up.ensures.capacity);
    }
