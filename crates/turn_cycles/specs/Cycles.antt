-- The four moves of a canned cycle. Where its cut ends is in End, a whole block in Pass. `cycle`
-- (src/rectangle.rt) answers them.
use Rattle.std.specs.Prelude.{Bool, List, [], ◌∷◌, ℤ, Result}
use Rattle.nc_number.specs.declared.point.Point.{Point}
use Rattle.nc_moves.specs.declared.motion.Move.{Move}
use Rattle.nc_moves.specs.declared.motion.Move.TheVariants.{Rapid, Feed, Thread}
use Rattle.motion_track.specs.declared.fault.MotionFault.{MotionFault}
use Rattle.motion_track.specs.Cut.{at_feed}
use Rattle.turn_cycles.specs.declared.rectangle.CycleKind.{CycleKind}
use Rattle.turn_cycles.specs.declared.rectangle.CycleKind.TheVariants.{G90, G92, G94}

-- the corner that has X of the one point and Z of the other
abbrev pub corner : Point → Point → Point
corner across along = record { x = across.x; z = along.z }

-- the four moves of a cycle, by its code in system A, from the start round the end of its cut and
-- back
abbrev pub cycle_moves : CycleKind → Point → Point → ℤ → Bool → List Move
cycle_moves G90 start end feed per_rev =
    Rapid (corner end start) ∷ Feed end feed per_rev ∷ Feed (corner start end) feed per_rev ∷ Rapid start ∷ []
cycle_moves G92 start end feed per_rev =
    Rapid (corner end start) ∷ Thread end feed ∷ Rapid (corner start end) ∷ Rapid start ∷ []
cycle_moves G94 start end feed per_rev =
    Rapid (corner start end) ∷ Feed end feed per_rev ∷ Feed (corner end start) feed per_rev ∷ Rapid start ∷ []

-- the four moves of a cycle, or alarm 44 where the feed is 0
abbrev pub cycle_of : CycleKind → Point → Point → ℤ → Bool → Result (List Move) MotionFault
cycle_of kind start end feed per_rev = at_feed feed (cycle_moves kind start end feed per_rev)
