-- The index names the places of the blocks so far. What the loop of `of` keeps (src/sequence.rt).
use Rattle.std.proofs.Common.{◌≡◌, ℕ, [], take, nat_eq}
use Rattle.std.specs.Option.{option_map_or}
use Rattle.indexmap.specs.IndexMap.{get}
use Rattle.block_order.specs.Places.{places_from}
use Rattle.block_order.proofs.sequence.SequenceIndex.of.Given as goal

abbrev pub invariant-loop-block : goal.invariant-loop-block
invariant-loop-block l = record {
  counted : l.place ≡ l.block-index;
  listed : (q : ℕ) → option_map_or (λ v. v.items) (get nat_eq l.places q) []
      ≡ places_from (take l.block-index l.blocks) 0 q;
}
