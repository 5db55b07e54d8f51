-- A hollow arc comes to x where the greatest way along says, within its ends, or at its start
-- (`hollow_end`, src/contour.rt).
use Rattle.std.proofs.Common.{◌≡◌, ◌*◌, ◌≤◌, subst, ap, ◌∙◌, arith, pos, ◌-ℤ◌, w64, to_z, of_z, refl}
use Rattle.std.proofs.lemmas.Int.{ints, to_z-of_z, fits_signed_from_abs}
use Rattle.arc_contour.specs.Edges.{beyond, across_square}
use Rattle.arc_contour.specs.Ends.{within, most_along}
use Rattle.arc_contour.proofs.Edges.{nat_is_not_lt}
use Rattle.arc_contour.proofs.contour.hollow_end.Goals as goal

pub returns-else-square-across_square-clause-end : goal.returns-else-square-across_square-clause-end
returns-else-square-across_square-clause-end c =
    let centre = c.requires.c in
    let x_is : to_z w64 (of_z w64 c.args.x) ≡ c.args.x = omega (arith, ints, c.requires.far) in
    let c_is : to_z w64 (of_z w64 c.args.c.now.x) ≡ c.args.c.now.x = omega (arith, ints, centre) in
    let across : c.beyond-across.result ≡ beyond c.args.c.now.x c.args.x = c.beyond-across.ensures.beyond ∙ rw (x_is, c_is) refl in
    let along : c.most_along-along.result ≡ pos (most_along c.args.way c.args.square (beyond c.args.c.now.x c.args.x)) = c.most_along-along.ensures.along ∙ ap (λ b. pos (most_along c.args.way c.args.square b)) across in
    let near = c.most_along-along.ensures.near in
    let same : c.within.result ≡ within c.args.p.now c.args.q.now (c.args.c.now.z -ℤ pos (most_along c.args.way c.args.square (beyond c.args.c.now.x c.args.x))) =
    c.within.ensures.within ∙ ap (within c.args.p.now c.args.q.now) (omega (arith, ints, along, near, centre)) in
    let stored = to_z-of_z w64 c.within.result (fits_signed_from_abs w64 c.within.result (let bound = c.within.ensures.near in omega (arith, bound))) ∙ same in
    let is : c.across_square.result ≡ across_square c.args.way (beyond c.args.c.now.x c.args.x) = c.across_square.ensures.square ∙ ap (across_square c.args.way) across in
    let fits : across_square c.args.way (beyond c.args.c.now.x c.args.x) ≤ c.args.square = subst (λ n. n ≤ c.args.square) is c.if-square-across_square.false in
    let test = nat_is_not_lt c.args.square (across_square c.args.way (beyond c.args.c.now.x c.args.x)) fits in
    rw test stored
