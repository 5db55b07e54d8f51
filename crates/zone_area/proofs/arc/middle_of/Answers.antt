-- By I and K, the middle that the code computes in 64 bits is the centre of the arc (`middle_of`,
-- src/arc.rt).
use Rattle.std.proofs.Common.{arith, subst}
use Rattle.std.proofs.lemmas.Int.{ints}
use Rattle.nc_moves.specs.declared.motion.Centre.TheVariants.{Offset}
use Rattle.zone_area.specs.Passing.{middle_of}
use Rattle.motion_track.specs.declared.targets.TheConstants.{LONGEST}
use Rattle.motion_track.specs.Centre.{IsCentreWithin}
use Rattle.nc_number.proofs.Points.{same_point}
use Rattle.zone_area.proofs.arc.middle_of.Goals as goal

pub returns-in-Offset-clause-middle : goal.returns-in-Offset-clause-middle
returns-in-Offset-clause-middle c =
    let x = c.requires.at.0 in
    let z = c.requires.at.1 in
    let centre : IsCentreWithin LONGEST (Offset c.in-Offset.i c.in-Offset.k) = subst (IsCentreWithin LONGEST) c.in-Offset.is c.requires.centre in
    let i = centre.0 in
    let k = centre.1 in
    rw (c.in-Offset.is) (same_point _ (middle_of c.args.at.now (Offset c.in-Offset.i c.in-Offset.k)) (omega (arith, ints)) (omega (arith, ints)))
