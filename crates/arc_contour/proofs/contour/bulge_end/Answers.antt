-- An arc that bulges comes to x where the least way along says, within its ends (`bulge_end`,
-- src/contour.rt).
use Rattle.std.proofs.Common.{◌≡◌, ap, ◌∙◌, arith, pos, ◌+ℤ◌, w64, to_z, of_z, refl}
use Rattle.std.proofs.lemmas.Int.{ints, to_z-of_z, fits_signed_from_abs}
use Rattle.arc_contour.specs.Edges.{beyond}
use Rattle.arc_contour.specs.Ends.{within, least_along}
use Rattle.arc_contour.proofs.contour.bulge_end.Goals as goal

pub returns-clause-end : goal.returns-clause-end
returns-clause-end c =
    let p = c.args.p.now in
    let q = c.args.q.now in
    let centre = c.requires.c in
    let x_is : to_z w64 (of_z w64 c.args.x) ≡ c.args.x = omega (arith, ints, c.requires.far) in
    let c_is : to_z w64 (of_z w64 c.args.c.now.x) ≡ c.args.c.now.x = omega (arith, ints, centre) in
    let across : c.beyond.result ≡ beyond c.args.x c.args.c.now.x = c.beyond.ensures.beyond ∙ rw (x_is, c_is) refl in
    let along : c.least_along-along.result ≡ pos (least_along c.args.way c.args.square (beyond c.args.x c.args.c.now.x)) = c.least_along-along.ensures.along ∙ ap (λ b. pos (least_along c.args.way c.args.square b)) across in
    let near = c.least_along-along.ensures.near in
    let same : c.within.result ≡ within c.args.p.now c.args.q.now (c.args.c.now.z +ℤ pos (least_along c.args.way c.args.square (beyond c.args.x c.args.c.now.x))) =
    c.within.ensures.within ∙ ap (within c.args.p.now c.args.q.now) (omega (arith, ints, along, near, centre)) in
    to_z-of_z w64 c.within.result (fits_signed_from_abs w64 c.within.result (let bound = c.within.ensures.near in omega (arith, bound))) ∙ same
