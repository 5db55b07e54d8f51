-- The last point of the contour has lengths that literals can write (`is_form`, src/form.rt).
use Rattle.std.proofs.Common.{sym, subst, All}
use Rattle.rough_cycle.specs.Form.{IsWritten}
use Rattle.cycle_form.proofs.Forms.{last_near}
use Rattle.cycle_form.proofs.form.is_form.Goals as goal

pub is_below_start-requires-clause-last : goal.is_below_start-requires-clause-last
is_below_start-requires-clause-last c =
    let near = subst (λ points. All IsWritten points) (sym c.deref.ensures.value) c.requires.points in
    subst IsWritten (sym c.last_of-last.ensures) (last_near c.args.rough.now.first c.deref.result.now c.requires.first near)
