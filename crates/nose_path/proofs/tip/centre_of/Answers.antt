-- The centre of a nose at a point (`centre_of`, src/tip.rt).
use Rattle.std.proofs.Common.{arith}
use Rattle.std.proofs.lemmas.Int.{ints}
use Rattle.plane_ways.proofs.Stored.{same_place}
use Rattle.nose_path.proofs.tip.centre_of.Goals as goal

pub returns-clause-place : goal.returns-clause-place
returns-clause-place c =
    let near = c.requires.p in
    let from = c.from.ensures in
    let from_z = c.from-2.ensures in
    let across = c.across.ensures.across in
    let along = c.along.ensures.along in
    let across_bound = c.across.ensures.bound in
    let along_bound = c.along.ensures.bound in
    same_place _ _ _ _
    (omega (arith, ints, near, from, across, across_bound))
    (omega (arith, ints, near, from_z, along, along_bound))
