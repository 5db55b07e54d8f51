-- The area of moves holds their ends and the reach of their arcs, and is the least that does. The
-- law `an_area_is_the_least` (src/laws.rt) and Apart.antt rest on it.
use Rattle.std.proofs.Common.{ℕ, ◌+◌, ◌*◌, ◌/◌, ◌≤◌, List, [], ◌∷◌, Option, Some, None, ◌≤ℤ◌, arith}
use Rattle.std.proofs.lemmas.Int.{ints, clamps}
use Rattle.nc_number.specs.declared.point.Point.{Point}
use Rattle.nc_moves.specs.declared.motion.Centre.{Centre}
use Rattle.nc_moves.specs.declared.motion.Move.{Move}
use Rattle.zone_area.specs.declared.area.Area.{Area}
use Rattle.nc_moves.specs.Motion.{end_of}
use Rattle.motion_track.specs.Within.{centre_in}
use Rattle.zone_area.specs.Passing.{middle_of}
use Rattle.zone_area.specs.Area.{SweptView, reach_of, Holds, HoldsAround, HoldsEnd, HoldsMoves, HoldsAll, HoldsArea, area_at, hull_of, area_around, area_to, swept_at, swept_with, swept_along, area_of}

-- what an area holds, a larger one holds
holds_more : (big small : Area) (p : Point) → HoldsArea big small → Holds small p → Holds big p
holds_more big small p w h = record {
  left = (let a = w.0.left in let b = h.left in omega (arith, ints, a, b));
  right = (let a = w.1.right in let b = h.right in omega (arith, ints, a, b));
  below = (let a = w.0.below in let b = h.below in omega (arith, ints, a, b));
  above = (let a = w.1.above in let b = h.above in omega (arith, ints, a, b));
}

-- what an area holds of a middle and its reach a bigger one holds too
around_more : (big small : Area) (middle : Point) (reach : ℕ) → HoldsArea big small → HoldsAround small middle reach → HoldsAround big middle reach
around_more big small middle reach w h = record {
  left = (let a = w.0.left in let b = h.left in omega (arith, ints, a, b));
  right = (let a = w.1.right in let b = h.right in omega (arith, ints, a, b));
  below = (let a = w.0.below in let b = h.below in omega (arith, ints, a, b));
  above = (let a = w.1.above in let b = h.above in omega (arith, ints, a, b));
}

-- an area whose corners are in order
abbrev IsArea : Area → Type 0
IsArea a = (a.low.x ≤ℤ a.high.x) × (a.low.z ≤ℤ a.high.z)

-- the hull of two areas is an area
hull_is : (a b : Area) → IsArea a → IsArea b → IsArea (hull_of a b)
hull_is a b ia ib = (omega (arith, ints, clamps, ia.0, ib.0), omega (arith, ints, clamps, ia.1, ib.1))

-- the hull of two areas holds the first of them
hull_first : (a b : Area) → IsArea a → IsArea b → HoldsArea (hull_of a b) a
hull_first a b ia ib =
    let x = ia.0 in let z = ia.1 in (
      record { left = omega (arith, ints, clamps); right = omega (arith, ints, clamps, x); below = omega (arith, ints, clamps); above = omega (arith, ints, clamps, z) },
      record { left = omega (arith, ints, clamps, x); right = omega (arith, ints, clamps); below = omega (arith, ints, clamps, z); above = omega (arith, ints, clamps) },
    )

-- the hull of two areas holds the second of them
hull_second : (a b : Area) → IsArea a → IsArea b → HoldsArea (hull_of a b) b
hull_second a b ia ib =
    let x = ib.0 in let z = ib.1 in (
      record { left = omega (arith, ints, clamps); right = omega (arith, ints, clamps, x); below = omega (arith, ints, clamps); above = omega (arith, ints, clamps, z) },
      record { left = omega (arith, ints, clamps, x); right = omega (arith, ints, clamps); below = omega (arith, ints, clamps, z); above = omega (arith, ints, clamps) },
    )

-- what holds two areas holds the least that holds both
hull_least : (big a b : Area) → HoldsArea big a → HoldsArea big b → HoldsArea big (hull_of a b)
hull_least big a b wa wb =
    let corner : Holds big (hull_of a b).low = record {
      left = (let p = wa.0.left in let q = wb.0.left in omega (arith, ints, clamps, p, q));
      right = (let p = wa.0.right in let q = wb.0.right in omega (arith, ints, clamps, p, q));
      below = (let p = wa.0.below in let q = wb.0.below in omega (arith, ints, clamps, p, q));
      above = (let p = wa.0.above in let q = wb.0.above in omega (arith, ints, clamps, p, q));
    } in
    let other : Holds big (hull_of a b).high = record {
      left = (let p = wa.1.left in let q = wb.1.left in omega (arith, ints, clamps, p, q));
      right = (let p = wa.1.right in let q = wb.1.right in omega (arith, ints, clamps, p, q));
      below = (let p = wa.1.below in let q = wb.1.below in omega (arith, ints, clamps, p, q));
      above = (let p = wa.1.above in let q = wb.1.above in omega (arith, ints, clamps, p, q));
    } in
    (corner, other)

-- half of a number, rounded up
half_up : (s : ℕ) → (s ≤ 2 * ((s + 1) / 2)) × (2 * ((s + 1) / 2) ≤ s + 1)
half_up s = (omega arith, omega arith)

-- the area around a middle is an area
around_is : (middle : Point) (reach : ℕ) → IsArea (area_around middle reach)
around_is middle reach = (omega (arith, ints), omega (arith, ints))

-- the area around a middle holds the middle and its reach
around_holds : (middle : Point) (reach : ℕ) → HoldsAround (area_around middle reach) middle reach
around_holds middle reach =
    let half = (half_up reach).0 in
    record { left = omega (arith, ints); right = omega (arith, ints); below = omega (arith, ints, half); above = omega (arith, ints, half) }

-- the area around a middle lies in each area that holds the middle and its reach
around_least : (big : Area) (middle : Point) (reach : ℕ) → HoldsAround big middle reach → HoldsArea big (area_around middle reach)
around_least big middle reach h =
    let half = (half_up reach).1 in
    let l = h.left in
    let r = h.right in
    let b = h.below in
    let a = h.above in (
      record { left = omega (arith, ints, l); right = omega (arith, ints, r); below = omega (arith, ints, b, half); above = omega (arith, ints, a, half) },
      record { left = omega (arith, ints, l); right = omega (arith, ints, r); below = omega (arith, ints, b, half); above = omega (arith, ints, a, half) },
    )

-- the area of one point is an area
at_is : (p : Point) → IsArea (area_at p)
at_is p = (omega (arith, ints), omega (arith, ints))

-- the area of one point holds it
at_holds : (p : Point) → Holds (area_at p) p
at_holds p = record { left = omega (arith, ints); right = omega (arith, ints); below = omega (arith, ints); above = omega (arith, ints) }

-- an area in one that lies in a third lies in the third
within_trans : (big mid small : Area) → HoldsArea big mid → HoldsArea mid small → HoldsArea big small
within_trans big mid small w v = (holds_more big mid small.low w v.0, holds_more big mid small.high w v.1)

-- each area holds itself
within_self : (a : Area) → IsArea a → HoldsArea a a
within_self a is =
    let x = is.0 in
    let z = is.1 in (
      record { left = omega (arith, ints); right = omega (arith, ints, x); below = omega (arith, ints); above = omega (arith, ints, z) },
      record { left = omega (arith, ints, x); right = omega (arith, ints); below = omega (arith, ints, z); above = omega (arith, ints) },
    )

-- (what one move makes of an area)

-- with a move more an area is an area still
to_is : (a : Area) (at : Point) (end : Option Point) (centre : Option Centre) → IsArea a → IsArea (area_to a at end centre)
to_is a at None centre is = is
to_is a at (Some to) None is = hull_is a (area_at to) is (at_is to)
to_is a at (Some to) (Some centre) is =
    hull_is (hull_of a (area_at to)) (area_around (middle_of at centre) (reach_of at to centre))
    (hull_is a (area_at to) is (at_is to)) (around_is (middle_of at centre) (reach_of at to centre))

-- with a move more an area holds what it held
to_within : (a : Area) (at : Point) (end : Option Point) (centre : Option Centre) → IsArea a → HoldsArea (area_to a at end centre) a
to_within a at None centre is = within_self a is
to_within a at (Some to) None is = hull_first a (area_at to) is (at_is to)
to_within a at (Some to) (Some centre) is =
    let ended = hull_is a (area_at to) is (at_is to) in
    within_trans (area_to a at (Some to) (Some centre)) (hull_of a (area_at to)) a
    (hull_first (hull_of a (area_at to)) (area_around (middle_of at centre) (reach_of at to centre)) ended (around_is (middle_of at centre) (reach_of at to centre)))
    (hull_first a (area_at to) is (at_is to))

-- with a move more an area holds the end of the move and what it may reach
to_holds : (a : Area) (at : Point) (end : Option Point) (centre : Option Centre) → IsArea a → HoldsEnd (area_to a at end centre) at end centre
to_holds a at None centre is = tt
to_holds a at (Some to) None is = holds_more (hull_of a (area_at to)) (area_at to) to (hull_second a (area_at to) is (at_is to)) (at_holds to)
to_holds a at (Some to) (Some centre) is =
    let middle = middle_of at centre in
    let reach = reach_of at to centre in
    let ended = hull_is a (area_at to) is (at_is to) in
    let whole = area_to a at (Some to) (Some centre) in
    let end : Holds (hull_of a (area_at to)) to = holds_more (hull_of a (area_at to)) (area_at to) to (hull_second a (area_at to) is (at_is to)) (at_holds to) in (
      holds_more whole (hull_of a (area_at to)) to (hull_first (hull_of a (area_at to)) (area_around middle reach) ended (around_is middle reach)) end,
      around_more whole (area_around middle reach) middle reach (hull_second (hull_of a (area_at to)) (area_around middle reach) ended (around_is middle reach)) (around_holds middle reach),
    )

-- with a move more an area lies in each area that holds it and the end and reach of the move
to_least : (big a : Area) (at : Point) (end : Option Point) (centre : Option Centre) → HoldsArea big a → HoldsEnd big at end centre → HoldsArea big (area_to a at end centre)
to_least big a at None centre w h = w
to_least big a at (Some to) None w h = hull_least big a (area_at to) w (h, h)
to_least big a at (Some to) (Some centre) w h =
    hull_least big (hull_of a (area_at to)) (area_around (middle_of at centre) (reach_of at to centre))
    (hull_least big a (area_at to) w (h.0, h.0))
    (around_least big (middle_of at centre) (reach_of at to centre) h.1)

-- what a move needs is held by a larger area
end_more : (big small : Area) (at : Point) (end : Option Point) (centre : Option Centre) → HoldsArea big small → HoldsEnd small at end centre → HoldsEnd big at end centre
end_more big small at None centre w h = tt
end_more big small at (Some to) None w h = holds_more big small to w h
end_more big small at (Some to) (Some centre) w h = (holds_more big small to w h.0, around_more big small (middle_of at centre) (reach_of at to centre) w h.1)

-- (what all moves make of an area)

-- with moves more an area holds what it held
along_within : (s : SweptView) (moves : List Move) → IsArea s.area → HoldsArea (swept_along s moves).area s.area
along_within s [] is = within_self s.area is
along_within s (move ∷ moves) is =
    within_trans (swept_along (swept_with s move) moves).area (swept_with s move).area s.area
    (along_within (swept_with s move) moves (to_is s.area s.at (end_of move) (centre_in move) is))
    (to_within s.area s.at (end_of move) (centre_in move) is)

-- with moves more an area holds their ends and the reach of their arcs
along_holds : (s : SweptView) (moves : List Move) → IsArea s.area → HoldsMoves (swept_along s moves).area s.at moves
along_holds s [] is = tt
along_holds s (move ∷ moves) is =
    let next = to_is s.area s.at (end_of move) (centre_in move) is in (
      end_more (swept_along (swept_with s move) moves).area (swept_with s move).area s.at (end_of move) (centre_in move)
          (along_within (swept_with s move) moves next) (to_holds s.area s.at (end_of move) (centre_in move) is),
      along_holds (swept_with s move) moves next,
    )

-- with moves more an area lies in each area that holds it and the ends and reach of the moves
along_least : (big : Area) (s : SweptView) (moves : List Move) → HoldsArea big s.area → HoldsMoves big s.at moves → HoldsArea big (swept_along s moves).area
along_least big s [] w h = w
along_least big s (move ∷ moves) w h =
    along_least big (swept_with s move) moves (to_least big s.area s.at (end_of move) (centre_in move) w h.0) h.1

-- the area of moves holds their ends and the reach of their arcs
pub area_holds : (at : Point) (moves : List Move) → HoldsAll (area_of at moves) at moves
area_holds at moves = (
  holds_more (area_of at moves) (area_at at) at (along_within (swept_at at) moves (at_is at)) (at_holds at),
  along_holds (swept_at at) moves (at_is at),
)

-- the area of moves lies in each area that holds their ends and the reach of their arcs
pub area_is_least : (at : Point) (moves : List Move) (other : Area) → HoldsAll other at moves → HoldsArea other (area_of at moves)
area_is_least at moves other h = along_least other (swept_at at) moves (h.0, h.0) h.1
