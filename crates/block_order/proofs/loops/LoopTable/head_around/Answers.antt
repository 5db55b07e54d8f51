-- The head noted at a block is that of the innermost loop around it. For the contract of
-- `head_around` (src/loops.rt).
use Rattle.std.proofs.Common.{ap, ◌∙◌}
use Rattle.std.specs.List.{slice_get}
use Rattle.std.specs.Option.{option_flatten}
use Rattle.block_order.proofs.Items.{got_copied}
use Rattle.block_order.proofs.loops.LoopTable.head_around.Goals as goal

pub returns : goal.returns
returns c = λ bs table within.
    let got = c.copied.ensures ∙ got_copied c.get.result _ _ c.get.ensures.lookup.3 in
    c.flatten.ensures
    ∙ ap option_flatten
    (got ∙ ap (λ xs. slice_get xs c.args.place) c.deref.ensures.value ∙ table.inside c.args.place within)
