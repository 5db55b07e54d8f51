-- The two lists are those of the blocks that search. For the contract of `of` (src/searchers.rt).
use Rattle.std.proofs.Common.{sym, subst}
use Rattle.wait_order.specs.Searchers.{is_searcher, AreNext}
use Rattle.wait_order.proofs.searchers.SearchersAhead.of.Goals as goal

pub returns : goal.returns
returns c =
    let searches = is_searcher c.args.search.now in
    record {
      next = c.in_ok-next.ensures;
      later = c.in_ok-later.ensures searches
          (subst (λ l. AreNext searches c.args.blocks.now 0 l) (sym c.deref.ensures.value) c.in_ok-next.ensures);
    }
