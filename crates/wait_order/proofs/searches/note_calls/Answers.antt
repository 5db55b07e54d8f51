-- A long quiet program adds the search of its calls. A quiet program comes to no wait and no end;
-- with more than 64 blocks it is long. For the contract of `note_calls` (src/searches.rt).
use Rattle.std.proofs.Common.{◌+◌, sym, subst, ◌∙◌}
use Rattle.wait_order.specs.Searches.{IsCallSearch, AreSearchesBelow}
use Rattle.wait_order.proofs.Searching.{searches_more}
use Rattle.wait_order.proofs.searches.note_calls.Goals as goal

pub returns-in_ok-push : goal.returns-in_ok-push
returns-in_ok-push c tape n known own at are =
    let p = c.args.program.now in
    let s = c.in_ok-search.search in
    subst (λ xs. AreSearchesBelow tape (n + 1) xs) (sym c.in_ok-push.ensures.items)
    (searches_more tape n p c.args.searches.now.items s at ((c.is_long_quiet.ensures tape known own).0 c.if-is_long_quiet.true)
    (subst (λ bs. IsCallSearch p.number bs s) (c.as_slice.ensures ∙ sym own.own) c.in_ok-search.ensures) are)
