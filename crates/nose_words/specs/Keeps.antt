-- What is written of a run keeps: of places, in 0.0005 mm, and of written points.
use Rattle.std.specs.Prelude.{◌≡◌, ◌-◌, List, [], ◌∷◌, map}
use Rattle.plane_ways.specs.declared.place.Line.{Line}
use Rattle.plane_ways.specs.declared.place.Side.{Side}
use Rattle.nose_path.specs.declared.nose.TheConstants.{OFF}
use Rattle.nose_path.specs.Paths.{KeepsOff}
use Rattle.nose_path.specs.Beside.{HasLegs}
use Rattle.nose_path.specs.Legs.{places_of}
use Rattle.nose_path.specs.Tips.{centre_of}
use Rattle.nose_words.specs.declared.said.NoseLine.{NoseLine}
use Rattle.nose_words.specs.declared.told.Tip.{Tip}
use Rattle.nose_words.specs.declared.cut.LegCut.{LegCut}
use Rattle.nose_words.specs.Path.{end_place}

-- every place on the moves of the nose's centre along these legs is at least the radius, less `OFF`,
-- from every place of the contour that these lines say, in any number of parts
abbrev pub KeepOff : Tip → List NoseLine → List Line → Type 0
KeepOff tip [] legs = ⊥
KeepOff tip (lead ∷ along) legs = KeepsOff (tip.radius - OFF) (places_of legs) (end_place lead) (map end_place along)

-- each line of the contour has its leg beside it, on the tool's side, at the radius within `OFF`
abbrev pub AreBeside : Side → Tip → List NoseLine → List Line → Type 0
AreBeside side tip [] legs = ⊥
AreBeside side tip (lead ∷ along) legs = HasLegs side tip.radius (end_place lead) (map end_place along) legs

-- the nose's centre is at the ends of the leg when the tool is at the points that are written
pub record IsCutOf (tip : Tip) (leg : Line) (cut : LegCut) : Type 0 where
  pub from : centre_of tip.number tip.radius cut.from ≡ leg.from
  pub to : centre_of tip.number tip.radius cut.to ≡ leg.to
