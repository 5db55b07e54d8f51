-- Where a segment comes to a pass's X, its Z rounded up; no number is too large (`part_way`,
-- src/contour.rt).
use Rattle.std.proofs.Common.{◌≡◌, ◌*◌, ◌/◌, arith, ◌∙◌}
use Rattle.std.proofs.lemmas.Int.{ints}
use Rattle.nc_number.specs.Distances.{distance}
use Rattle.rough_cycle.proofs.Products.{same_share}
use Rattle.rough_cycle.proofs.contour.part_way.Goals as goal

pub overflow_sub-result : goal.overflow_sub-result
overflow_sub-result c =
    let p = c.requires.p in
    let q = c.requires.q in
    let bound = c.share.ensures.bound in
    let along = c.abs_diff.ensures in
    omega (arith, ints)

pub returns-clause-part : goal.returns-clause-part
returns-clause-part c =
    let p = c.requires.p in
    let q = c.requires.q in
    let bound = c.share.ensures.bound in
    let along = c.abs_diff.ensures in
    let part : c.share.result ≡ distance c.args.p.now.z c.args.q.now.z * distance c.args.x c.args.p.now.x / distance c.args.q.now.x c.args.p.now.x =
    same_share _ _ _ _ _ _ _ c.share.ensures.share (along ∙ omega (arith, ints)) (c.abs_diff-2.ensures ∙ omega (arith, ints)) (c.abs_diff-3.ensures ∙ omega (arith, ints)) in
    omega (arith, ints)

pub returns-clause-near : goal.returns-clause-near
returns-clause-near c =
    let p = c.requires.p in
    let q = c.requires.q in
    let bound = c.share.ensures.bound in
    let along = c.abs_diff.ensures in
    omega (arith, ints)
