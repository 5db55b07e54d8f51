-- The first place behind the block, or else the first of all, is where the search leads. For the
-- contract of `seek` (src/sequence.rt).
use Rattle.std.proofs.Common.{◌≡◌, leb, sym, ap, ◌∙◌, arith, rules}
use Rattle.std.proofs.lemmas.List.Sorted.{IsPartitionPoint-from_clause, IsPartitionedBy-leb}
use Rattle.std.specs.List.{slice_get}
use Rattle.block_order.specs.Order.{seek}
use Rattle.block_order.proofs.Items.{got_copied}
use Rattle.block_order.proofs.Sought.{seek-places, places_of-rise, first_above, leb-true, leb-false, option_or-or_else, rises-non-decreasing, above_at, Rises, found}
use Rattle.block_order.proofs.sequence.SequenceIndex.seek.Goals as goal

pub returns : goal.returns
returns c = λ bs h.
    let places = c.places_of-places.ensures bs h in
    let xs = c.places_of-places.result.now in
    let rise : Rises 0 xs = rw places (places_of-rise bs c.args.number) in
    let point = IsPartitionPoint-from_clause (λ x. leb x c.args.from) xs _ c.partition_point-behind.ensures.partitioned
    (IsPartitionedBy-leb (λ x. x) xs c.args.from (rises-non-decreasing 0 xs rise)) (λ a r q k. search rules) in
    let there : first_above c.args.from xs ≡ slice_get xs c.partition_point-behind.result =
    above_at xs c.args.from c.partition_point-behind.result
    (λ k l. leb-true (point.0 k 0 (omega arith) l)) (λ l. leb-false (point.1 _ 0 (omega arith) l)) c.partition_point-behind.ensures.bound in
    let sought : seek bs c.args.from c.args.number ≡ found c.args.from xs =
    seek-places bs c.args.from c.args.number ∙ ap (found c.args.from) (sym places) in
    let next = c.copied.ensures ∙ got_copied c.get.result xs _ c.get.ensures.lookup.3 ∙ sym there in
    let else_first = c.copied-2.ensures ∙ c.first.ensures.value in
    c.or.ensures ∙ rw (next, else_first) (option_or-or_else (first_above c.args.from xs) (slice_get xs 0)) ∙ sym sought
