-- The point that the code computes in 64 bits is where the two axis words lead (`reached`,
-- src/targets.rt).
use Rattle.nc_number.proofs.Points.{same_point}
use Rattle.motion_track.proofs.Places.{stored_part}
use Rattle.motion_track.proofs.targets.reached.Goals as goal

pub returns : goal.returns
returns c =
    let at = c.requires.at in
    let shift = c.requires.shift in
    same_point _ _
    (stored_part c.args.at.now.x c.args.shift.now.x c.part.result c.args.x at.0 shift.0 c.part.ensures.range c.part.ensures.part)
    (stored_part c.args.at.now.z c.args.shift.now.z c.part-2.result c.args.z at.1 shift.1 c.part-2.ensures.range c.part-2.ensures.part)
