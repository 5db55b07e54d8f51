-- One target more is looked at, and the first block so far holds; after all targets it is the
-- search's. For the contract of `first_search_stray` (src/search_strays.rt).
use Rattle.std.proofs.Common.{◌≡◌, length, None, subst, arith}
use Rattle.block_order.specs.declared.control.Control.TheVariants.{Next}
use Rattle.wait_order.specs.Searchers.{is_sought}
use Rattle.wait_order.specs.Waiting.{MayLeadBelow, IsLeast}
use Rattle.wait_order.proofs.Leading.{target_step, least_all}
use Rattle.wait_order.proofs.search_strays.first_search_stray.Goals as goal

pub loop-block-preserved : goal.loop-block-preserved
loop-block-preserved c = record {
  place = omega arith;
  first = λ loud searches ways ahead. rw c.lesser-first.ensures
      (target_step loud searches (is_sought c.args.search.now) c.args.ways.now.blocks.now c.loop-block.block-index c.loop-block.place
      (record { line = 0; sequence = None; control = Next }) c.loop-block.first c.first_of_block-nearest.result (omega arith)
      c.loop-block.invariant.place (c.loop-block.invariant.first loud searches ways ahead)
      (c.first_of_block-nearest.ensures loud searches ways ahead));
}

pub returns : goal.returns
returns c loud searches ways ahead =
    let bs = c.args.ways.now.blocks.now in
    let may = is_sought c.args.search.now in
    let all : c.loop-block.block-index ≡ length bs = omega arith in
    least_all loud searches may bs c.loop-block.first
    (subst (λ n. IsLeast (MayLeadBelow loud searches may bs n) c.loop-block.first) all (c.loop-block.invariant.first loud searches ways ahead))
