-- What is written of a run keeps, for `a_written_nose_keeps_its_radius` (src/law.rt).
use Rattle.std.proofs.Common.{◌≡◌, ℕ, Bool, true, false, List, [], ◌∷◌, map, Option, Some, None, Result, Ok, Err, cond, refl, ap, sym, ◌∙◌}
use Rattle.std.specs.Prelude.{◌&&◌}
use Rattle.std.specs.Ordering.{int_eq}
use Rattle.std.proofs.lemmas.Bool.Decides.{Decides-and, Decides-int_eq}
use Rattle.nc_number.specs.Options.{◌>>=◌}
use Rattle.nc_number.specs.declared.point.Point.{Point}
use Rattle.plane_ways.specs.declared.place.Place.{Place}
use Rattle.plane_ways.specs.declared.place.Line.{Line}
use Rattle.plane_ways.specs.declared.place.Side.{Side}
use Rattle.plane_ways.specs.Steps.{is_same}
use Rattle.nose_path.specs.declared.nose.NoseFault.{NoseFault}
use Rattle.nose_path.specs.Legs.{path_of}
use Rattle.nose_path.specs.Tips.{centre_of, point_of}
use Rattle.nose_path.proofs.PathHolds.{path_keeps_off, path_has_legs}
use Rattle.line_words.specs.Lines.{position_of}
use Rattle.plain_form.specs.declared.cause.PlainCause.TheVariants as cause
use Rattle.nose_words.specs.declared.said.NoseLine.{NoseLine}
use Rattle.nose_words.specs.declared.told.Tip.{Tip}
use Rattle.nose_words.specs.declared.cut.LegCut.{LegCut}
use Rattle.nose_words.specs.declared.path.PathRead.{PathRead}
use Rattle.nose_words.specs.declared.path.PathRead.TheVariants.{Legs, Stops}
use Rattle.nose_words.specs.Path.{end_place, nose_of, ends_of, path_read, run_path}
use Rattle.nose_words.specs.Cut.{is_near, joins_at, leg_cut, point_at, point_for, point_or}
use Rattle.nose_words.specs.Keeps.{KeepOff, AreBeside, IsCutOf}

-- legs that were read are those of the path
read_legs : (lines : List NoseLine) (off : ℕ) (path : Result (List Line) NoseFault) (legs : List Line)
    → path_read lines off path ≡ Legs legs → path ≡ Ok legs
read_legs lines off (Ok found) legs is = search
read_legs lines off (Err fault) legs is = search

pub keeps_off : (side : Side) (tip : Tip) (start : Point) (lines : List NoseLine) (off : NoseLine) (legs : List Line)
    → run_path side tip start lines off ≡ Legs legs → KeepOff tip lines legs
keeps_off side tip start [] off legs is = absurd (let wrong : Stops (record { line = off.line; cause = cause.Missing 88 }) ≡ Legs legs = is in cc)
keeps_off side tip start (lead ∷ along) off legs is =
    path_keeps_off (nose_of side tip) (ends_of tip start off.to) (end_place lead) (map end_place along) legs
    (read_legs (lead ∷ along) off.line (path_of (nose_of side tip) (ends_of tip start off.to) (end_place lead) (map end_place along)) legs is)

pub are_beside : (side : Side) (tip : Tip) (start : Point) (lines : List NoseLine) (off : NoseLine) (legs : List Line)
    → run_path side tip start lines off ≡ Legs legs → AreBeside side tip lines legs
are_beside side tip start [] off legs is = absurd (let wrong : Stops (record { line = off.line; cause = cause.Missing 88 }) ≡ Legs legs = is in cc)
are_beside side tip start (lead ∷ along) off legs is =
    path_has_legs (nose_of side tip) (ends_of tip start off.to) (end_place lead) (map end_place along) legs
    (read_legs (lead ∷ along) off.line (path_of (nose_of side tip) (ends_of tip start off.to) (end_place lead) (map end_place along)) legs is)

-- places that are the same are equal
same_place : (p q : Place) → is_same p q ≡ true → p ≡ q
same_place p q is =
    let both = (Decides-and (int_eq p.across q.across) (int_eq p.along q.along) (Decides-int_eq p.across q.across) (Decides-int_eq p.along q.along)).0 is in
    λ i. record { across = both.0 i; along = both.1 i }

-- a point that was kept by a test is the one that was asked for, and passed it
kept_point : (b : Bool) (asked point : Point) → cond b (Some asked) None ≡ Some point → (b ≡ true) × (asked ≡ point)
kept_point true asked point is = (refl, let held : Some asked ≡ Some point = is in cc)
kept_point false asked point is = absurd (let wrong : ◌≡◌ {A = Option Point} None (Some point) = is in cc)

-- the nose's centre is there
centre_for : (tip : Tip) (at : Place) (asked point : Point) → point_for tip at asked ≡ Some point
    → centre_of tip.number tip.radius point ≡ at
centre_for tip at asked point is =
    let found = kept_point (is_same (centre_of tip.number tip.radius asked) at) asked point is in
    ap (centre_of tip.number tip.radius) (sym found.1) ∙ same_place (centre_of tip.number tip.radius asked) at found.0

centre_or : (tip : Tip) (at : Place) (asked : Option Point) (point : Point) → point_or tip at asked ≡ Some point
    → centre_of tip.number tip.radius point ≡ at
centre_or tip at None point is = absurd (let wrong : ◌≡◌ {A = Option Point} None (Some point) = is in cc)
centre_or tip at (Some asked) point is = centre_for tip at asked point is

centre_at : (tip : Tip) (at : Place) (point : Point) → point_at tip at ≡ Some point → centre_of tip.number tip.radius point ≡ at
centre_at tip at point is = go (is_near at) is where
  go : (b : Bool) → cond b (point_or tip at (position_of (point_of tip.number tip.radius at))) None ≡ Some point
      → centre_of tip.number tip.radius point ≡ at
  go true e = centre_or tip at (position_of (point_of tip.number tip.radius at)) point e
  go false e = absurd (let wrong : ◌≡◌ {A = Option Point} None (Some point) = e in cc)

pub is_cut_of : (tip : Tip) (at : Option Place) (leg : Line) (cut : LegCut) → leg_cut tip at leg ≡ Some cut → IsCutOf tip leg cut
is_cut_of tip at leg cut is = go (point_at tip leg.from) (point_at tip leg.to) refl refl is where
  go : (f t : Option Point) → point_at tip leg.from ≡ f → point_at tip leg.to ≡ t
      → (f >>= λ from. t >>= λ to. Some (record { joins = joins_at at leg; from = from; to = to })) ≡ Some cut → IsCutOf tip leg cut
  go None t fe te e = absurd (let wrong : ◌≡◌ {A = Option LegCut} None (Some cut) = e in cc)
  go (Some f) None fe te e = absurd (let wrong : ◌≡◌ {A = Option LegCut} None (Some cut) = e in cc)
  go (Some f) (Some t) fe te e =
      let made : LegCut = record { joins = joins_at at leg; from = f; to = t } in
      let same : made ≡ cut = let held : Some made ≡ Some cut = e in cc in
      record {
        from = ap (λ c. centre_of tip.number tip.radius c.from) (sym same) ∙ centre_at tip leg.from f fe;
        to = ap (λ c. centre_of tip.number tip.radius c.to) (sym same) ∙ centre_at tip leg.to t te;
      }
