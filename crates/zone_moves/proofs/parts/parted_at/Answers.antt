-- Each stretch goes into one of the parts (`parted_at`, src/parts.rt).
use Rattle.std.proofs.Common.{[], sym, subst}
use Rattle.zone_moves.specs.Parts.{ArePartsOf}
use Rattle.zone_moves.proofs.Parted.{nothing_parted, parted_step, parted_all}
use Rattle.zone_moves.proofs.parts.parted_at.Goals as goal

pub loop-stretch-init : goal.loop-stretch-init
loop-stretch-init c = subst (λ parts. ArePartsOf parts []) (sym c.new-parts.ensures) nothing_parted

pub loop-stretch-preserved : goal.loop-stretch-preserved
loop-stretch-preserved c =
    parted_step c.args.stretches.now c.loop-stretch.stretch-index _ _ c.loop-stretch.parts _ c.loop-stretch-test.true c.in_ok-add.ensures
    c.loop-stretch.invariant

pub returns : goal.returns
returns c = parted_all c.loop-stretch.parts c.args.stretches.now c.loop-stretch.stretch-index c.loop-stretch-test.false c.loop-stretch.invariant
