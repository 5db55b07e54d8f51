-- `copy_written` copies one stretch more at each turn of its loop, and at the end the content is
-- the same as `from` (src/memory.rt).
use Rattle.std.proofs.Common.{rules, ◌≡◌, [], length, drop, subst, ◌∙◌, arith, ◌++◌, List}
use Rattle.std.proofs.lemmas.List.{with_items_is, drop_all}
use Rattle.disk_model.specs.declared.stretch.Stretch.{Stretch}
use Rattle.disk_model.proofs.Copies.{IsCopied, copied_more, copied_all}
use Rattle.disk_model.proofs.memory.copy_written.Goals as goal

pub loop-stretch-preserved : goal.loop-stretch-preserved
loop-stretch-preserved c =
    let none : Stretch = record { at = 0; len = 0 } in
    let k = c.loop-stretch.stretch-index in
    let size : length c.copy_stretch.new.content ≡ c.loop-stretch.content.len = omega (arith, c.copy_stretch.ensures.size, c.deref_mut.ensures.len) in
    let whole = with_items_is c.loop-stretch.content c.copy_stretch.new.content size in
    let more = copied_more c.args.from.now c.deref_mut.result.now c.copy_stretch.new.content c.args.written.now k none c.loop-stretch-test.true c.copy_stretch.ensures.size c.copy_stretch.ensures.inside c.copy_stretch.ensures.outside
    (subst (IsCopied c.args.from.now (drop k c.args.written.now)) (search rules) c.loop-stretch.invariant.copied) in
    record {
      copied = rw whole more;
      room = omega (arith, c.loop-stretch.invariant.room);
    }

pub returns-clause-items : goal.returns-clause-items
returns-clause-items c =
    let content = c.loop-stretch.content.items in
    let none_left : drop c.loop-stretch.stretch-index c.args.written.now ≡ [] = drop_all c.loop-stretch.stretch-index c.args.written.now (omega (arith, c.loop-stretch-test.false)) in
    let copied : IsCopied c.args.from.now [] content = subst (λ (l : List Stretch). IsCopied c.args.from.now l content) none_left c.loop-stretch.invariant.copied in
    let items : c.extend_from_slice.new.self.items ≡ content ++ drop (length content) c.args.from.now = search rules in
    items ∙ copied_all c.args.from.now content copied
