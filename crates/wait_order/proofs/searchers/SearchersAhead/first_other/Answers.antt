-- The nearest block that searches is the answer if it lies in another stretch; else the next one
-- after its stretch. A stretch is the run of blocks up to a wait, an end, an M99 without a number,
-- or a call that leads to a wait or an end. For the contract of `first_other` (src/searchers.rt).
use Rattle.std.proofs.Common.{slice_index, ap, ◌∙◌}
use Rattle.wait_order.proofs.Nearest.{near_same, near_other}
use Rattle.wait_order.proofs.searchers.SearchersAhead.first_other.Goals as goal

pub returns-then-value_at : goal.returns-then-value_at
returns-then-value_at c loud searches bs ahead e to within =
    near_same loud searches bs c.args.self.now.next.items c.args.self.now.later.items c.args.stretches.now c.args.from c.args.target
    c.value_at-near.result c.value_at.result c.value_at-2.result c.value_at-then-value_at.result ahead.next ahead.later e to within
    (c.value_at-near.ensures ∙ ap (λ l. slice_index l c.args.from) c.deref.ensures.value) c.value_at.ensures c.value_at-2.ensures
    c.if-value_at.true
    (c.value_at-then-value_at.ensures ∙ ap (λ l. slice_index l c.value_at-near.result) c.deref-then-value_at.ensures.value)

pub returns-else-value_at : goal.returns-else-value_at
returns-else-value_at c loud searches bs ahead e to within =
    near_other loud searches bs c.args.self.now.next.items c.args.stretches.now c.args.from c.args.target
    c.value_at-near.result c.value_at.result c.value_at-2.result ahead.next e to within
    (c.value_at-near.ensures ∙ ap (λ l. slice_index l c.args.from) c.deref.ensures.value) c.value_at.ensures c.value_at-2.ensures
    c.if-value_at.false
