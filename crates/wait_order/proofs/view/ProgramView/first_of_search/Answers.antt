-- In a program of one stretch, and in one in which no block searches, no block leads to another
-- stretch by the search. A stretch is the run of blocks up to a wait, an end, an M99 without a
-- number, or a call that leads to a wait or an end. For the contract of `first_of_search`
-- (src/view.rt).
use Rattle.std.proofs.Common.{◌≡◌, false, sym, ◌∙◌}
use Rattle.block_order.specs.Loud.{loud}
use Rattle.wait_order.specs.Searchers.{is_searcher, is_sought}
use Rattle.wait_order.specs.Waiting.{IsSearchStray}
use Rattle.wait_order.proofs.Least.{least_none}
use Rattle.wait_order.proofs.Nearest.{searcher_within}
use Rattle.wait_order.proofs.Searching.{least_unsearched}
use Rattle.wait_order.proofs.view.ProgramView.first_of_search.Goals as goal

pub returns-then-is_one_stretch : goal.returns-then-is_one_stretch
returns-then-is_one_stretch c =
    let bs = c.args.self.now.ways.blocks.now in
    let ld = loud c.args.self.now.programs.now in
    let s = c.args.search.now in
    least_none {P = IsSearchStray ld (is_searcher s) (is_sought s) bs}
    (λ k h. c.is_one_stretch.ensures ld c.requires.view.ways k h.1 (searcher_within (is_searcher s) bs k h.0) c.if-is_one_stretch.true h.3)

pub returns-then-not-is_among : goal.returns-then-not-is_among
returns-then-not-is_among c =
    let none : c.is_among.result ≡ false = cc in
    least_unsearched (loud c.args.self.now.programs.now) c.args.self.now.ways.blocks.now c.args.search.now
    (sym c.is_among.ensures ∙ none)
