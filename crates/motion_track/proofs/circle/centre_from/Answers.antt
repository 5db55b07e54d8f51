-- The place that the code computes in 64 bits is the start with I and K, in 0.0005 mm
-- (`centre_from`, src/circle.rt).
use Rattle.std.proofs.Common.{arith}
use Rattle.std.proofs.lemmas.Int.{ints}
use Rattle.motion_track.proofs.Places.{same_place}
use Rattle.motion_track.proofs.circle.centre_from.Goals as goal

pub returns-clause-place : goal.returns-clause-place
returns-clause-place c = same_place _ _ (omega (arith, ints)) (omega (arith, ints))
