-- The lesser of the first blocks of both kinds is the first of all. For the contract of
-- `first_stray` (src/view.rt).
use Rattle.std.proofs.Common.{length, sym, subst}
use Rattle.block_order.specs.Loud.{loud}
use Rattle.wait_order.specs.Searches.{IsSearchStrayBelow}
use Rattle.wait_order.specs.Waiting.{IsLeast}
use Rattle.wait_order.proofs.Strayed.{least_stray}
use Rattle.wait_order.proofs.view.ProgramView.first_stray.Goals as goal

pub returns : goal.returns
returns c =
    let tape = c.args.self.now.programs.now in
    let searches = c.args.searches.now in
    let own = c.requires.view.own_blocks in
    rw c.lesser-first.ensures
    (least_stray tape searches c.args.self.now.number c.first_fixed_stray-fixed.result c.in_ok-searching.searching c.requires.counts
    c.requires.searches c.first_fixed_stray-fixed.ensures
    (subst (λ bs. IsLeast (IsSearchStrayBelow (loud tape) searches (length searches) bs) c.in_ok-searching.searching) (sym own)
    c.in_ok-searching.ensures))
