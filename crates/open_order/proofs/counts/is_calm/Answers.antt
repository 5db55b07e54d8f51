-- `is_calm`: two counts of a contour are the same exactly if it has no block that may not stand there
-- (src/counts.rt).
use Rattle.std.proofs.Common.{◌≡◌, ℕ, suc, ◌+◌, ◌≤◌, ◌==◌, List, length, get_or, ap, ◌∙◌, arith}
use Rattle.block_order.specs.Loud.{loud}
use Rattle.block_order.specs.Order.{blocks}
use Rattle.open_order.specs.declared.counts.Counting.TheVariants.{Disturbing}
use Rattle.open_order.specs.Counts.{counts_from}
use Rattle.open_order.proofs.Counted.{counts_length, calm_by_counts}
use Rattle.open_order.proofs.counts.is_calm.Goals as goal

pub is_same_count-requires-clause-within : goal.is_same_count-requires-clause-within
is_same_count-requires-clause-within c =
    let counted : length c.args.counts.now ≡ suc (length (blocks c.args.order.now c.args.program)) =
    ap (λ (l : List ℕ). length l) c.requires.counts ∙ counts_length (loud c.args.order.now) Disturbing 0 (blocks c.args.order.now c.args.program) in
    omega (arith, counted, c.requires.within)

pub returns : goal.returns
returns c =
    let rises : c.args.first ≤ c.args.last = omega (arith, c.if-first-last.false) in
    let next : c.args.last + 1 ≡ suc c.args.last = omega arith in
    c.is_same_count.ensures
    ∙ ap (λ (l : List ℕ). get_or l c.args.first 0 == get_or l (c.args.last + 1) 0) c.requires.counts
    ∙ ap (λ (k : ℕ). get_or (counts_from (loud c.args.order.now) Disturbing 0 (blocks c.args.order.now c.args.program)) c.args.first 0
    == get_or (counts_from (loud c.args.order.now) Disturbing 0 (blocks c.args.order.now c.args.program)) k 0) next
    ∙ calm_by_counts (loud c.args.order.now) (blocks c.args.order.now c.args.program) c.args.first c.args.last rises c.requires.within
