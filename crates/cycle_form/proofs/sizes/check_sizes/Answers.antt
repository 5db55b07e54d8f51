-- A part fits, makes too many blocks, or none is left (`check_sizes`, src/sizes.rt).
use Rattle.std.proofs.Common.{◌≤◌, arith}
use Rattle.std.proofs.lemmas.List.{drop_all}
use Rattle.nc_number.specs.declared.limits.TheConstants.{MOST_BLOCKS}
use Rattle.cycle_form.proofs.Sizing.{at_end, at_large, at_next}
use Rattle.cycle_form.proofs.sizes.check_sizes.Goals as goal

pub returns-then-count : goal.returns-then-count
returns-then-count c =
    at_large c.loop-part.count c.in_ok-count.count c.first_line.result c.lines.result.now c.args.parts.now c.loop-part.part-index c.part-item.result _
    c.part-item.is c.loop-part-test.true c.in_ok-count.ensures (omega arith) c.lines.ensures c.first_line.ensures c.loop-part.invariant.rest

pub loop-part-preserved : goal.loop-part-preserved
loop-part-preserved c =
    let few : c.in_ok-count.count ≤ MOST_BLOCKS = omega arith in
    record {
      rest = at_next c.loop-part.count c.in_ok-count.count c.args.parts.now c.loop-part.part-index c.part-item.result _
          c.part-item.is c.loop-part-test.true c.in_ok-count.ensures few c.loop-part.invariant.rest;
      few = few;
    }

pub returns : goal.returns
returns c = at_end c.loop-part.count _ _ (drop_all c.loop-part.part-index c.args.parts.now c.loop-part-test.false) c.loop-part.invariant.rest
