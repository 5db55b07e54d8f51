-- The count so far with the parts ahead gives the answer for all parts (loop of `check_sizes`,
-- src/sizes.rt).
use Rattle.std.proofs.Common.{◌≡◌, ◌≤◌, drop}
use Rattle.nc_number.specs.declared.limits.TheConstants.{MOST_BLOCKS}
use Rattle.cycle_form.specs.Sizes.{size_verdict}
use Rattle.cycle_form.proofs.sizes.check_sizes.Given as goal

abbrev pub invariant-loop-part : goal.invariant-loop-part
invariant-loop-part l = record {
  rest : size_verdict l.count (drop l.part-index l.parts) ≡ size_verdict l.blocks l.parts;
  few : l.count ≤ MOST_BLOCKS;
}
