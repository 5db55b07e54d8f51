-- A search comes to the first place from before it and from the last on, to a later one from the
-- place before on. For the contract of `finders` (src/sequence.rt).
use Rattle.std.proofs.Common.{◌≡◌, ℕ, ltb, ◌<◌, ◌+◌, ◌-◌, Some, length, get_or, sym, ap, ◌∙◌, arith, rules}
use Rattle.std.proofs.lemmas.List.Sorted.{IsPartitionPoint-from_clause, IsPartitionedBy-ltb}
use Rattle.block_order.specs.Order.{seek}
use Rattle.block_order.proofs.Sought.{seek-places, places_of-rise, rises-non-decreasing, numbered-place, partition-place, finders_first, finders_next, Rises, found, ltb-true, ltb-false, last-get, finder_sides, finder_only}
use Rattle.block_order.proofs.sequence.SequenceIndex.finders.Goals as goal

pub returns-then-before-eq0 : goal.returns-then-before-eq0
returns-then-before-eq0 c = λ bs h numbered block.
    let places = c.places_of-places.ensures bs h in
    let xs = c.places_of-places.result.now in
    let t = c.args.place in
    let rise : Rises 0 xs = rw places (places_of-rise bs c.args.number) in
    let at : (i : ℕ) × (i < length xs) × (get_or xs i 0 ≡ t) = rw places (numbered-place bs t c.args.number numbered) in
    let point = IsPartitionPoint-from_clause (λ x. ltb x t) xs _ c.partition_point-before.ensures.partitioned
    (IsPartitionedBy-ltb (λ x. x) xs t (rises-non-decreasing 0 xs rise)) (λ a r q k. search rules) in
    let same : c.partition_point-before.result ≡ at.0 =
    partition-place xs t _ at.0 rise at.1 at.2
    (λ k l. ltb-true (point.0 k 0 (omega arith) l)) (λ k l m. ltb-false (point.1 k 0 l m)) in
    let zero_at : get_or xs 0 0 ≡ t = ap (λ k. get_or xs k 0) (sym c.if-before-eq0.true ∙ same) ∙ at.2 in
    let some : 0 < length xs = omega (arith, at.1) in
    let around : c.copied.result ≡ Some (get_or xs (length xs - 1) 0) =
    c.copied.ensures ∙ c.last.ensures.value ∙ last-get xs some in
    let sought : seek bs block c.args.number ≡ found block xs =
    seek-places bs block c.args.number ∙ ap (found block) (sym places) in
    finder_sides t _ block _ _ _ around sought (finders_first xs t block rise some zero_at)

pub returns-else-before-eq0 : goal.returns-else-before-eq0
returns-else-before-eq0 c = λ bs h numbered block.
    let places = c.places_of-places.ensures bs h in
    let xs = c.places_of-places.result.now in
    let t = c.args.place in
    let p = c.partition_point-before.result in
    let rise : Rises 0 xs = rw places (places_of-rise bs c.args.number) in
    let at : (i : ℕ) × (i < length xs) × (get_or xs i 0 ≡ t) = rw places (numbered-place bs t c.args.number numbered) in
    let point = IsPartitionPoint-from_clause (λ x. ltb x t) xs _ c.partition_point-before.ensures.partitioned
    (IsPartitionedBy-ltb (λ x. x) xs t (rises-non-decreasing 0 xs rise)) (λ a r q k. search rules) in
    let same : p ≡ at.0 =
    partition-place xs t _ at.0 rise at.1 at.2
    (λ k l. ltb-true (point.0 k 0 (omega arith) l)) (λ k l m. ltb-false (point.1 k 0 l m)) in
    let above_zero : (p - 1) + 1 ≡ at.0 = omega (arith, same, c.if-before-eq0.false) in
    let here : get_or xs ((p - 1) + 1) 0 ≡ t = ap (λ k. get_or xs k 0) above_zero ∙ at.2 in
    let sought : seek bs block c.args.number ≡ found block xs =
    seek-places bs block c.args.number ∙ ap (found block) (sym places) in
    finder_only _ t block _ _ sought (finders_next xs t block (p - 1) rise (omega (arith, at.1)) here)
