-- The end of a pass is the least, and each whole Z before it is below an edge.
use Rattle.std.proofs.Common.{◌≤ℤ◌, subst, sym}
use Rattle.arc_contour.specs.declared.edge.Bound.TheVariants.{Outer}
use Rattle.arc_contour.proofs.Contours.{last_is}
use Rattle.arc_contour.proofs.LeastEnd.{least_end, all_left}
use Rattle.arc_contour.proofs.law.an_end_is_the_least.Goals as goal

pub returns-clause-least : goal.returns-clause-least
returns-clause-least c = λ way first pieces at descends on from ends low.
    least_end way first pieces at descends on from ends (subst (λ l. l.z ≤ℤ at.z) (sym (last_is way Outer first pieces)) low)

pub returns-clause-leaves : goal.returns-clause-leaves
returns-clause-leaves c = λ way first pieces at descends met from before low.
    all_left way first pieces at descends met from before (subst (λ l. l.z ≤ℤ at.z) (sym (last_is way Outer first pieces)) low)
