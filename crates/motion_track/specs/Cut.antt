-- Straight cuts and threads, which need a feed that is not 0.
use Rattle.std.specs.Prelude.{Bool, if◌then◌else◌, ℤ, Result, Ok, Err}
use Rattle.nc_number.specs.declared.point.Point.{Point}
use Rattle.nc_number.specs.Arithmetic.{is_zero}
use Rattle.nc_moves.specs.declared.motion.Move.{Move}
use Rattle.nc_moves.specs.declared.motion.Move.TheVariants.{Feed, Thread}
use Rattle.motion_track.specs.declared.fault.MotionFault.{MotionFault}
use Rattle.nc_number.specs.declared.cause.Cause.TheVariants.{FeedZero}
use Rattle.motion_track.specs.Faults.{fault}

-- a cut at this feed, or alarm 44 where the feed is 0
abbrev pub at_feed : {X : Type 0} → ℤ → X → Result X MotionFault
at_feed feed what = if is_zero feed then Err (fault FeedZero) else Ok what

-- a line (G01) to this point, at a feed by the revolution (`per_rev`) or by the minute
abbrev pub line_of : Point → ℤ → Bool → Result Move MotionFault
line_of to feed per_rev = at_feed feed (Feed to feed per_rev)

-- a thread (G32) to this point, by its lead
abbrev pub thread_of : Point → ℤ → Result Move MotionFault
thread_of to lead = at_feed lead (Thread to lead)
