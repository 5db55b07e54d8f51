-- Heights above a line fit 128 bits. For `height` (src/beside.rt).
use Rattle.std.proofs.Common.{ℕ, ◌≤◌, unsigned_abs}
use Rattle.plane_ways.specs.declared.place.Place.{Place}
use Rattle.plane_ways.specs.declared.place.Side.{Side}
use Rattle.plane_ways.specs.Plane.{way, turned, IsWithin}
use Rattle.plane_ways.proofs.Stored.{way_within, turned_within, dot_bound}
use Rattle.nose_path.specs.Beside.{height}

-- a height is below 2 * 10 ^ 18
pub height_bound : (s : Side) (p q at : Place) → IsWithin 400000000 p → IsWithin 400000000 q → IsWithin 400000000 at → unsigned_abs (height s p q at) ≤ 2000000000000000000
height_bound s p q at near_p near_q near_at = dot_bound (turned s (way p q)) (way p at) 1000000000 1000000000 (turned_within s 1000000000 (way p q) (way_within p q near_p near_q)) (way_within p at near_p near_at)
