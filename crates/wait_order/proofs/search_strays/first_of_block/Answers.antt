-- The first block that is led to a target by a number that is sought is the first of all; none is
-- led to a target whose number is not sought, or that has none. For the contract of
-- `first_of_block` (src/search_strays.rt).
use Rattle.std.proofs.Common.{sym, ◌∙◌}
use Rattle.wait_order.specs.Searchers.{is_sought}
use Rattle.wait_order.proofs.Leading.{least_numbered, least_unsought, least_unnumbered}
use Rattle.wait_order.proofs.search_strays.first_of_block.Goals as goal

pub returns-then-is_sought : goal.returns-then-is_sought
returns-then-is_sought c loud searches ways ahead within is =
    least_numbered loud searches (is_sought c.args.search.now) c.args.ways.now.blocks.now c.in-Some.number c.args.target c.args.sequence
    c.first_to.result is c.in-Some.is (sym c.is_sought.ensures ∙ c.if-is_sought.true)
    (c.first_to.ensures loud searches ways ahead within ((is c.in-Some.number).1 c.in-Some.is))

pub returns-else-is_sought : goal.returns-else-is_sought
returns-else-is_sought c loud searches ways ahead within is =
    least_unsought loud searches (is_sought c.args.search.now) c.args.ways.now.blocks.now c.in-Some.number c.args.target c.args.sequence
    is c.in-Some.is (sym c.is_sought.ensures ∙ c.if-is_sought.false)

pub returns-in-None : goal.returns-in-None
returns-in-None c loud searches ways ahead within is =
    least_unnumbered loud searches (is_sought c.args.search.now) c.args.ways.now.blocks.now c.args.target c.args.sequence is c.in-None.is
