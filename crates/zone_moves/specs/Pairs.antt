-- Which two stretches of the paths come within the gap.
use Rattle.std.specs.Prelude.{Bool, not, List, [], ◌∷◌, Option, Some, None, pos, ◌≤ℤ◌, if◌then◌else◌}
use Rattle.std.specs.List.{find, list_any}
use Rattle.std.specs.Option.{is_some}
use Rattle.nc_number.specs.declared.both.Both.{Both}
use Rattle.nc_number.specs.declared.point.Point.{Point}
use Rattle.nc_number.specs.Distances.{distance}
use Rattle.zone_area.specs.declared.area.Area.{Area}
use Rattle.zone_area.specs.Area.{Holds, hull_of, is_clear}
use Rattle.zone_moves.specs.declared.stretch.Stretch.{Stretch}

-- two areas come within the gap: they lie no more than it apart, neither in X nor in Z
abbrev pub meets : Point → Area → Area → Bool
meets gap a b = not (is_clear gap a b)

-- the first of these stretches that comes within the gap of one
abbrev pub first_met : Point → Stretch → List Stretch → Option Stretch
first_met gap stretch others = find (λ (other : Stretch). meets gap stretch.area other.area) others

-- the stretch comes within the gap of one of these
abbrev pub is_met : Point → List Stretch → Stretch → Bool
is_met gap others stretch = is_some (first_met gap stretch others)

-- one of the stretches comes within the gap of one of the others
abbrev pub any_met : Point → List Stretch → List Stretch → Bool
any_met gap stretches others = list_any (is_met gap others) stretches

-- the pair of two stretches if there is a second, else what is found later
abbrev pub pair_or : Stretch → Option Stretch → Option (Both Stretch) → Option (Both Stretch)
pair_or one (Some two) later = Some (record { one = one; two = two })
pair_or one None later = later

-- the first stretch of one path that comes within the gap of one of the other, with the first such
-- one
abbrev pub first_pair : Point → List Stretch → List Stretch → Option (Both Stretch)
first_pair gap [] others = None
first_pair gap (stretch ∷ stretches) others =
    pair_or stretch (first_met gap stretch others) (first_pair gap stretches others)

-- the least area that holds another and those of the stretches
abbrev pub hull_along : Area → List Stretch → Area
hull_along area [] = area
hull_along area (stretch ∷ stretches) = hull_along (hull_of area stretch.area) stretches

-- the stretch alone if it comes within the gap of the area, else none
abbrev pub near_one : Point → Area → Stretch → List Stretch
near_one gap area stretch = if meets gap area stretch.area then stretch ∷ [] else []

-- Two areas do come within the gap: there is a point in each, of whole counts, and these differ by
-- no more than the gap, neither in X nor in Z.
pub record ComeNear (gap : Point) (a b : Area) : Type 0 where
  -- the point of the first area, and that of the second
  pub p : Point
  pub q : Point
  -- they lie in the areas
  pub first : Holds a p
  pub second : Holds b q
  -- they differ by no more than the gap
  pub across : pos (distance p.x q.x) ≤ℤ gap.x
  pub along : pos (distance p.z q.z) ≤ℤ gap.z
