-- The END noted at a block is that of its loop. For the contract of `end_of` (src/loops.rt).
use Rattle.std.proofs.Common.{◌≡◌, sym, ap, ◌∙◌}
use Rattle.std.specs.List.{slice_get}
use Rattle.std.specs.Option.{option_flatten}
use Rattle.block_order.specs.Order.{IsLoop, end_of_loop}
use Rattle.block_order.proofs.Opened.{close_within}
use Rattle.block_order.proofs.Items.{got_copied, flat-some, same_somes}
use Rattle.block_order.proofs.loops.LoopTable.end_of.Goals as goal

pub returns : goal.returns
returns c = λ bs table.
    let got = c.copied.ensures ∙ got_copied c.get.result _ _ c.get.ensures.lookup.3 in
    let found : c.flatten.result ≡ option_flatten (slice_get c.args.self.now.ends.items c.args.head) =
    c.flatten.ensures ∙ ap option_flatten (got ∙ ap (λ xs. slice_get xs c.args.head) c.deref.ensures.value) in
    same_somes c.flatten.result (end_of_loop bs c.args.head) (λ close. (
      λ e. ((table.ends c.args.head close).0 (flat-some _ close (sym found ∙ e))).0,
      λ (loop : IsLoop bs c.args.head close).
          found ∙ ap option_flatten ((table.ends c.args.head close).1 (loop, close_within bs c.args.head close loop)),
    ))
