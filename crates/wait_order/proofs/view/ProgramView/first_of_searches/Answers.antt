-- One search more is looked at, and the first block so far holds. For the contract of
-- `first_of_searches` (src/view.rt).
use Rattle.std.proofs.Common.{length, refl}
use Rattle.std.proofs.lemmas.Option.{slice_get_read}
use Rattle.block_order.specs.Loud.{loud}
use Rattle.wait_order.proofs.Searching.{least_search}
use Rattle.wait_order.proofs.view.ProgramView.first_of_searches.Goals as goal

pub loop-search-preserved : goal.loop-search-preserved
loop-search-preserved c =
    let searches = c.args.searches.now in
    let i = c.loop-search.search-index in
    let s = c.search-item.result in
    rw c.lesser-first.ensures
    (least_search (loud c.args.self.now.programs.now) c.args.self.now.ways.blocks.now searches i s c.loop-search.first c.in_ok-place.place
    (slice_get_read searches (length searches) i s refl c.loop-search-test.true c.search-item.is) c.loop-search.invariant
    c.in_ok-place.ensures)
