-- The path of a tool's nose along the lines of a run. src/path.rt finds it. 88 is the letter X.
use Rattle.std.specs.Prelude.{ℕ, List, [], ◌∷◌, map, Option, Some, None, Result, Ok, Err, slice_get}
use Rattle.nc_number.specs.declared.point.Point.{Point}
use Rattle.plane_ways.specs.declared.place.Place.{Place}
use Rattle.plane_ways.specs.declared.place.Line.{Line}
use Rattle.plane_ways.specs.declared.place.Side.{Side}
use Rattle.plane_ways.specs.Points.{place_of}
use Rattle.nose_path.specs.declared.nose.Nose.{Nose}
use Rattle.nose_path.specs.declared.nose.Ends.{Ends}
use Rattle.nose_path.specs.declared.nose.NoseCause.{NoseCause}
use Rattle.nose_path.specs.declared.nose.NoseCause.TheVariants.{NoLength, UsedUp, TooNear}
use Rattle.nose_path.specs.declared.nose.NoseFault.{NoseFault}
use Rattle.nose_path.specs.declared.nose.StartUp.TheVariants.{Square}
use Rattle.nose_path.specs.Legs.{path_of}
use Rattle.nose_path.specs.Tips.{centre_of}
use Rattle.plain_form.specs.declared.cause.PlainCause.{PlainCause}
use Rattle.plain_form.specs.declared.cause.PlainCause.TheVariants as cause
use Rattle.plain_form.specs.declared.cause.PlainFault.{PlainFault}
use Rattle.nose_words.specs.declared.said.NoseLine.{NoseLine}
use Rattle.nose_words.specs.declared.told.Tip.{Tip}
use Rattle.nose_words.specs.declared.path.PathRead.{PathRead}
use Rattle.nose_words.specs.declared.path.PathRead.TheVariants.{Legs, Stops}

-- the place to which a line leads
abbrev pub end_place : NoseLine → Place
end_place line = place_of line.to

-- the line of the tape at which a leg stands, or that of the line that leads off
abbrev pub line_or : Option NoseLine → ℕ → ℕ
line_or None off = off
line_or (Some line) off = line.line

abbrev pub line_number : List NoseLine → ℕ → ℕ → ℕ
line_number lines off leg = line_or (slice_get lines leg) off

-- why there is no path
abbrev pub fault_cause : NoseCause → PlainCause
fault_cause NoLength = cause.Missing 88
fault_cause UsedUp = cause.Nose
fault_cause TooNear = cause.Nose

-- the line of the tape that is at fault
abbrev pub fault_of : List NoseLine → ℕ → NoseFault → PlainFault
fault_of lines off fault = record { line = line_number lines off fault.leg; cause = fault_cause fault.cause }

-- the nose in force: compensation begins and ends square to the contour
abbrev pub nose_of : Side → Tip → Nose
nose_of side tip = record { side = side; radius = tip.radius; start_up = Square }

-- what lies before and after the contour of a run from a point to another one
abbrev pub ends_of : Tip → Point → Point → Ends
ends_of tip start off = record {
  start = centre_of tip.number tip.radius start;
  before = place_of start;
  after = place_of off;
  end = centre_of tip.number tip.radius off;
}

-- the path, or the line at fault
abbrev pub path_read : List NoseLine → ℕ → Result (List Line) NoseFault → PathRead
path_read lines off (Ok legs) = Legs legs
path_read lines off (Err fault) = Stops (fault_of lines off fault)

-- the path along a contour to which a line leads
abbrev pub contour_path : Nose → Ends → NoseLine → List NoseLine → Result (List Line) NoseFault
contour_path nose ends lead along = path_of nose ends (end_place lead) (map end_place along)

-- the path of this nose along lines that begin at a point; `off` leads off their contour
abbrev pub run_path : Side → Tip → Point → List NoseLine → NoseLine → PathRead
run_path side tip start [] off = Stops (record { line = off.line; cause = cause.Missing 88 })
run_path side tip start (lead ∷ along) off =
    path_read (lead ∷ along) off.line (contour_path (nose_of side tip) (ends_of tip start off.to) lead along)
