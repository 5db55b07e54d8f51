-- What is cut of a leg. src/cut.rt finds it.
use Rattle.std.specs.Prelude.{Bool, false, not, ◌&&◌, nat_le, unsigned_abs, Option, Some, None, if◌then◌else◌}
use Rattle.nc_number.specs.declared.point.Point.{Point}
use Rattle.nc_number.specs.Options.{◌>>=◌}
use Rattle.plane_ways.specs.declared.place.Place.{Place}
use Rattle.plane_ways.specs.declared.place.Line.{Line}
use Rattle.plane_ways.specs.declared.place.TheConstants.{FAR}
use Rattle.plane_ways.specs.Steps.{is_same}
use Rattle.nose_path.specs.Tips.{centre_of, point_of}
use Rattle.line_words.specs.Lines.{position_of}
use Rattle.nose_words.specs.declared.told.Tip.{Tip}
use Rattle.nose_words.specs.declared.cut.LegCut.{LegCut}

-- the place is near enough
abbrev pub is_near : Place → Bool
is_near at = nat_le (unsigned_abs at.across) FAR && nat_le (unsigned_abs at.along) FAR

-- the point, if the nose's centre is at this place when the tool is there
abbrev pub point_for : Tip → Place → Point → Option Point
point_for tip at point = if is_same (centre_of tip.number tip.radius point) at then Some point else None

-- the same, if there is a point
abbrev pub point_or : Tip → Place → Option Point → Option Point
point_or tip at None = None
point_or tip at (Some point) = point_for tip at point

-- the programmed point of the tool whose nose's centre is at a place, if it may be a position and is a
-- whole number of increments
abbrev pub point_at : Tip → Place → Option Point
point_at tip at = if is_near at then point_or tip at (position_of (point_of tip.number tip.radius at)) else None

-- the leg before one ends elsewhere than it begins
abbrev pub joins_at : Option Place → Line → Bool
joins_at None leg = false
joins_at (Some at) leg = not (is_same at leg.from)

-- what is cut of a leg behind one that ends at a place, if its points may be positions
abbrev pub leg_cut : Tip → Option Place → Line → Option LegCut
leg_cut tip at leg = do
  from ← point_at tip leg.from
  to ← point_at tip leg.to
  Some (record { joins = joins_at at leg; from = from; to = to })
