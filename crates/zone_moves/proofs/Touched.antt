-- What a path may touch lies in one of its stretches. Kept rests on it.
use Rattle.std.proofs.Common.{◌≡◌, ℕ, Bool, true, List, [], ◌∷◌, ◌⊎◌, inl, inr, ◌+ℤ◌, ◌*ℤ◌, ◌≤ℤ◌, ℤ, pos, refl, arith}
use Rattle.std.proofs.lemmas.Int.{ints}
use Rattle.nc_number.specs.Both.{of_path}
use Rattle.nc_number.specs.declared.path.Path.{Path}
use Rattle.nc_number.specs.declared.point.Point.{Point}
use Rattle.nc_outside.specs.declared.lined_move.LinedMove.{LinedMove}
use Rattle.zone_area.specs.declared.area.Area.{Area}
use Rattle.zone_area.specs.declared.frame.Frame.{Frame}
use Rattle.zone_area.specs.Area.{area_at, area_of}
use Rattle.zone_area.specs.Passing.{in_parts, IsInside, place_after, point_in_cell}
use Rattle.zone_area.proofs.Scaled.{scaled_add}
use Rattle.zone_area.proofs.InArea.{all_inside}
use Rattle.zone_area.proofs.Least.{area_holds}
use Rattle.zone_area.proofs.Apart.{in_cell}
use Rattle.zone_moves.specs.declared.stretch.Stretch.{Stretch}
use Rattle.zone_moves.specs.Bodies.{body_of, grown}
use Rattle.zone_moves.specs.Stretches.{CellView, tool_after, is_rapid, start_stretch, move_stretch, move_stretches, stretches_of}
use Rattle.zone_moves.specs.Touching.{IsOfBody, MayTouch, MovesTouch, Touches}
use Rattle.zone_moves.proofs.Members.{IsIn}

-- along one axis, what lies in a body round a point of an area lies in the area with the body round
-- it
spread : (d : ℕ) (low high from to p q : ℤ) → (pos d *ℤ low) ≤ℤ p → p ≤ℤ (pos d *ℤ high)
    → (p +ℤ pos d *ℤ from) ≤ℤ q → q ≤ℤ (p +ℤ pos d *ℤ to)
    → ((pos d *ℤ (low +ℤ from)) ≤ℤ q) × (q ≤ℤ (pos d *ℤ (high +ℤ to)))
spread d low high from to p q l h f t =
    let low_is = scaled_add d low from in
    let high_is = scaled_add d high to in
    (omega (arith, ints, low_is, l, f), omega (arith, ints, high_is, h, t))

-- what lies in a body round a point of an area lies in the area with the body round it
in_grown : (d : ℕ) (body area : Area) (p q : Point) → IsInside d area p → IsOfBody d body p q → IsInside d (grown body area) q
in_grown d body area p q i b =
    let x = spread d area.low.x area.high.x body.low.x body.high.x p.x q.x i.left i.right b.left b.right in
    let z = spread d area.low.z area.high.z body.low.z body.high.z p.z q.z i.below i.above b.below b.above in
    record { left = x.0; right = x.1; below = z.0; above = z.1 }

-- what a body may touch while a move is made lies in the area of its stretch
move_inside : (d : ℕ) (cell : CellView) (path : Path) (tool : ℕ) (at : Point) (made : LinedMove) (q : Point)
    → MayTouch d (body_of cell.bodies path (tool_after tool made.what)) at made.what q
    → IsInside d (move_stretch cell path tool at made).area (point_in_cell d (of_path cell.frames path) q)
move_inside d cell path tool at made q touch =
    let body = body_of cell.bodies path (tool_after tool made.what) in
    let area = area_of at (made.what ∷ []) in
    in_cell d (of_path cell.frames path) (grown body area) q
    (in_grown d body area touch.0 q (all_inside d area at (made.what ∷ []) touch.0 (area_holds at (made.what ∷ [])) (inl touch.1)) touch.2)

-- what a body may touch while its path stands lies in the area of the first stretch
start_inside : (d : ℕ) (cell : CellView) (path : Path) (tool : ℕ) (at q : Point)
    → IsOfBody d (body_of cell.bodies path tool) (in_parts d at) q
    → IsInside d (start_stretch cell path tool at).area (point_in_cell d (of_path cell.frames path) q)
start_inside d cell path tool at q of_body =
    let body = body_of cell.bodies path tool in
    in_cell d (of_path cell.frames path) (grown body (area_at at)) q
    (in_grown d body (area_at at) (in_parts d at) q (all_inside d (area_of at []) at [] (in_parts d at) (area_holds at []) refl) of_body)

-- a stretch of these, of a kind that counts, has the point in its area
pub record LiesIn (which : Bool → Bool) (d : ℕ) (frame : Frame) (stretches : List Stretch) (q : Point) : Type 0 where
  pub stretch : Stretch
  pub one_of : IsIn stretch stretches
  pub counts : which stretch.rapid ≡ true
  pub inside : IsInside d stretch.area (point_in_cell d frame q)

-- what moves may touch lies in one of their stretches
moves_in : (which : Bool → Bool) (d : ℕ) (cell : CellView) (path : Path) (tool : ℕ) (at : Point) (moves : List LinedMove) (q : Point)
    → MovesTouch which d cell path tool at moves q → LiesIn which d (of_path cell.frames path) (move_stretches cell path tool at moves) q
moves_in which d cell path tool at [] q touch = elim touch [ ]
moves_in which d cell path tool at (made ∷ moves) q touch =
    go touch (λ later. moves_in which d cell path (tool_after tool made.what) (place_after at made.what) moves q later)
  where
    go : ((which (is_rapid made.what) ≡ true) × MayTouch d (body_of cell.bodies path (tool_after tool made.what)) at made.what q)
        ⊎ MovesTouch which d cell path (tool_after tool made.what) (place_after at made.what) moves q
        → (MovesTouch which d cell path (tool_after tool made.what) (place_after at made.what) moves q
        → LiesIn which d (of_path cell.frames path) (move_stretches cell path (tool_after tool made.what) (place_after at made.what) moves) q)
        → LiesIn which d (of_path cell.frames path) (move_stretches cell path tool at (made ∷ moves)) q
    go (inl here) rest = record {
      stretch = move_stretch cell path tool at made;
      one_of = inl refl;
      counts = here.0;
      inside = move_inside d cell path tool at made q here.1;
    }
    go (inr later) rest =
        let found = rest later in
        record { stretch = found.stretch; one_of = inr found.one_of; counts = found.counts; inside = found.inside }

-- what a path may touch lies in one of its stretches
pub lies_in : (which : Bool → Bool) (d : ℕ) (cell : CellView) (path : Path) (tool : ℕ) (at : Point) (moves : List LinedMove) (q : Point)
    → Touches which d cell path tool at moves q → LiesIn which d (of_path cell.frames path) (stretches_of cell path tool at moves) q
lies_in which d cell path tool at moves q touch = elim touch [
  | inl stands ↦ record {
    stretch = start_stretch cell path tool at;
    one_of = inl refl;
    counts = stands.0;
    inside = start_inside d cell path tool at q stands.1;
  }
  | inr moving ↦ (let found = moves_in which d cell path tool at moves q moving in
      record { stretch = found.stretch; one_of = inr found.one_of; counts = found.counts; inside = found.inside })
]
