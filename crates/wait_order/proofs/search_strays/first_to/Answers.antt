-- The first block of one row, or of both if the search goes on at the program's start, is the first
-- of all. For the contract of `first_to` (src/search_strays.rt).
use Rattle.std.proofs.Common.{arith}
use Rattle.wait_order.proofs.Leading.{least_around, least_ahead}
use Rattle.wait_order.proofs.search_strays.first_to.Goals as goal

pub returns-in-Some : goal.returns-in-Some
returns-in-Some c loud searches ways ahead within numbered =
    let bs = c.args.ways.now.blocks.now in
    let least = least_around loud searches bs c.args.number c.args.target c.in-Some.low 4294967295 c.finders-finders.result c.reach-reach.result
    c.first_in-before.result c.first_in-around.result
    (record {
      few = ways.few;
      finds = c.finders-finders.ensures bs ways.tables.index numbered;
      reaches = λ block l. c.reach-reach.ensures bs ways.tables.loops within block (omega (arith, ways.few));
    }) c.in-Some.is (omega arith) (c.first_in-before.ensures loud searches ways ahead within) (c.first_in-around.ensures loud searches ways ahead within) in
    rw c.lesser.ensures least

pub returns-in-None : goal.returns-in-None
returns-in-None c loud searches ways ahead within numbered =
    let bs = c.args.ways.now.blocks.now in
    least_ahead loud searches bs c.args.number c.args.target c.finders-finders.result c.reach-reach.result c.first_in-before.result
    (record {
      few = ways.few;
      finds = c.finders-finders.ensures bs ways.tables.index numbered;
      reaches = λ block l. c.reach-reach.ensures bs ways.tables.loops within block (omega (arith, ways.few));
    }) c.in-None.is (c.first_in-before.ensures loud searches ways ahead within)
