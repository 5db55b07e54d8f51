-- A path from place to place that keeps a distance from a contour.
use Rattle.std.specs.Prelude.{ℕ, ◌+◌, if◌then◌else◌, List, [], ◌∷◌, Option, Some, None}
use Rattle.plane_ways.specs.declared.place.Place.{Place}
use Rattle.plane_ways.specs.Apart.{is_off, IsOff}

-- the number of the first move of a path of this first place and those after it that is not at least
-- d from the contour, if there is one; its first move has the number n
abbrev pub first_near : ℕ → ℕ → Place → List Place → Place → List Place → Option ℕ
first_near n d a [] p points = None
first_near n d a (b ∷ path) p points =
    if is_off d a b p points then first_near (n + 1) d b path p points else Some n

-- the same of a path of these places, whose first move has the number 0
abbrev pub near_move : ℕ → List Place → Place → List Place → Option ℕ
near_move d [] p points = None
near_move d (a ∷ path) p points = first_near 0 d a path p points

-- every place of a path is at least d from every place of a contour
abbrev pub AreOff : ℕ → Place → List Place → Place → List Place → Type 0
AreOff d a [] p points = Unit {0}
AreOff d a (b ∷ path) p points = IsOff d a b p points × AreOff d b path p points

-- every place on the moves of a path, from place to place, is at least d from every place of a
-- contour
abbrev pub KeepsOff : ℕ → List Place → Place → List Place → Type 0
KeepsOff d [] p points = Unit {0}
KeepsOff d (a ∷ path) p points = AreOff d a path p points
