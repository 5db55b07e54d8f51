-- The tests of a corner say what its written points keep (the law `corners_lie_on_their_lines`,
-- src/law.rt).
use Rattle.std.proofs.Common.{◌≡◌, ◌≤◌, ◌*◌, ◌+◌, ◌-◌, ℕ, Bool, true, false, ◌&&◌, Option, Some, None, Result, Ok, Err, cond, refl, subst, arith, pos}
use Rattle.std.specs.Prelude.{nat_le, unsigned_abs}
use Rattle.std.proofs.lemmas.Bool.{leb-true}
use Rattle.nc_number.proofs.Bools.{both}
use Rattle.nc_number.proofs.Integers.{lt_is, le_is}
use Rattle.plane_ways.specs.declared.place.Place.{Place}
use Rattle.plane_ways.specs.declared.place.Side.{Side}
use Rattle.plane_ways.specs.Plane.{way, square}
use Rattle.plane_ways.specs.Points.{place_of}
use Rattle.corner_form.specs.declared.corner.TheConstants.{ROUND, LARGEST_CORNER}
use Rattle.corner_form.specs.declared.corner.Corner.{Corner}
use Rattle.corner_form.specs.declared.corner.CornerEnds.{CornerEnds}
use Rattle.corner_form.specs.declared.corner.RoundCorner.{RoundCorner}
use Rattle.corner_form.specs.declared.corner.CornerFault.{CornerFault}
use Rattle.corner_form.specs.Shape.{is_on, is_length, is_ahead_by, is_beside_by, is_round, ahead_of, beside_of}
use Rattle.corner_form.specs.Cuts.{before, tip, after, counts, middle_of, is_short, is_chamfer, is_rounding, chamfer_ends, chamfer_kept, chamfer_turned, chamfer_of, round_corner, rounding_kept, rounding_turned, rounding_of, turn_of}
use Rattle.corner_form.specs.Keeps.{LiesOn, IsLength, LiesBeside, IsRound, IsChamfer, IsRounding}

lies_on : (p q at : Place) → is_on p q at ≡ true → LiesOn p q at
lies_on p q at e =
    let all = both _ _ e in
    let ends = both _ _ all.0 in
    record {
      after = le_is (pos 0) (ahead_of p q at) ends.0;
      before = le_is (ahead_of p q at) (pos (square (way p q))) ends.1;
      near = leb-true _ _ all.1;
    }

length_is : (n size high : ℕ) → is_length n size high ≡ true → IsLength n size high
unfolding is_length
length_is n size high e =
    let all = both _ _ e in
    record { least = leb-true _ _ all.0; most = leb-true _ _ all.1 }

lies_beside : (r : ℕ) (s : Side) (p q at : Place) → is_beside_by r s p q at ≡ true → LiesBeside r s p q at
lies_beside r s p q at e =
    let all = both _ _ e in
    record { side = lt_is (pos 0) (beside_of s p q at) all.0; length = length_is r _ _ all.1 }

round_is : (r : ℕ) (middle at : Place) → is_round r middle at ≡ true → IsRound r middle at
unfolding is_round
round_is r middle at e =
    let all = both _ _ e in
    let low : (r - ROUND) * (r - ROUND) * 1 ≤ square (way middle at) = leb-true _ _ all.0 in
    let high : square (way middle at) ≤ (r + ROUND) * (r + ROUND) * 1 = leb-true _ _ all.1 in
    record { least = omega (arith, low); most = omega (arith, high) }

-- what is kept passed its tests
passed : {A : Type 0} (a b : Bool) (x y : A) → ◌≡◌ {A = Result A CornerFault} (cond a (cond b (Ok x) (Err CornerFault.Inexact)) (Err CornerFault.TooLong)) (Ok y) → (b ≡ true) × (x ≡ y)
passed {A} true true x y e = (refl, let same : ◌≡◌ {A = Result A CornerFault} (Ok x) (Ok y) = e in cc)
passed {A} true false x y e = absurd (let wrong : ◌≡◌ {A = Result A CornerFault} (Err CornerFault.Inexact) (Ok y) = e in cc)
passed {A} false b x y e = absurd (let wrong : ◌≡◌ {A = Result A CornerFault} (Err CornerFault.TooLong) (Ok y) = e in cc)

-- a size that is not too large goes on
went : {A : Type 0} (a : Bool) (r : Result A CornerFault) (y : A) → cond a r (Err CornerFault.TooLarge) ≡ Ok y → r ≡ Ok y
went true r y e = e
went {A} false r y e = absurd (let wrong : ◌≡◌ {A = Result A CornerFault} (Err CornerFault.TooLarge) (Ok y) = e in cc)

chamfer_passed : (corner : Corner) (made : Option CornerEnds) (ends : CornerEnds) → chamfer_kept corner made ≡ Ok ends → is_chamfer corner ends ≡ true
chamfer_passed corner None ends e = absurd (let wrong : ◌≡◌ {A = Result CornerEnds CornerFault} (Err CornerFault.TooLong) (Ok ends) = e in cc)
chamfer_passed corner (Some made) ends e =
    let p = passed (is_short corner made) (is_chamfer corner made) made ends e in
    subst (λ (x : CornerEnds). is_chamfer corner x ≡ true) p.1 p.0

chamfer_turned_is : (corner : Corner) (side : Option Side) (ends : CornerEnds) → chamfer_turned corner side ≡ Ok ends → is_chamfer corner ends ≡ true
chamfer_turned_is corner None ends e = absurd (let wrong : ◌≡◌ {A = Result CornerEnds CornerFault} (Err CornerFault.NoTurn) (Ok ends) = e in cc)
chamfer_turned_is corner (Some s) ends e = chamfer_passed corner (chamfer_ends corner) ends e

pub chamfer_keeps : (corner : Corner) (ends : CornerEnds) → chamfer_of corner ≡ Ok ends → IsChamfer corner ends
chamfer_keeps corner ends e =
    let turned = went (nat_le corner.size LARGEST_CORNER) (chamfer_turned corner (turn_of corner)) ends e in
    let all = both _ _ (chamfer_turned_is corner (turn_of corner) ends turned) in
    let first = both _ _ all.0 in
    let on = both _ _ first.0 in
    record {
      first = lies_on (tip corner) (before corner) (place_of ends.start) on.0;
      second = lies_on (tip corner) (after corner) (place_of ends.end) on.1;
      start = length_is (counts corner) _ _ first.1;
      end = length_is (counts corner) _ _ all.1;
    }

rounding_passed : (corner : Corner) (made : Option RoundCorner) (round : RoundCorner) → rounding_kept corner made ≡ Ok round → is_rounding corner round ≡ true
rounding_passed corner None round e = absurd (let wrong : ◌≡◌ {A = Result RoundCorner CornerFault} (Err CornerFault.TooLong) (Ok round) = e in cc)
rounding_passed corner (Some made) round e =
    let p = passed (is_short corner made.ends) (is_rounding corner made) made round e in
    subst (λ (x : RoundCorner). is_rounding corner x ≡ true) p.1 p.0

rounding_turned_is : (corner : Corner) (side : Option Side) (round : RoundCorner) → rounding_turned corner side ≡ Ok round → is_rounding corner round ≡ true
rounding_turned_is corner None round e = absurd (let wrong : ◌≡◌ {A = Result RoundCorner CornerFault} (Err CornerFault.NoTurn) (Ok round) = e in cc)
rounding_turned_is corner (Some s) round e = rounding_passed corner (round_corner corner) round e

pub rounding_keeps : (corner : Corner) (round : RoundCorner) → rounding_of corner ≡ Ok round → IsRounding corner round
rounding_keeps corner round e =
    let turned = went (nat_le corner.size LARGEST_CORNER) (rounding_turned corner (turn_of corner)) round e in
    let all = both _ _ (rounding_turned_is corner (turn_of corner) round turned) in
    let four = both _ _ all.0 in
    let three = both _ _ four.0 in
    let two = both _ _ three.0 in
    let on = both _ _ two.0 in
    record {
      first = lies_on (tip corner) (before corner) (place_of round.ends.start) on.0;
      second = lies_on (tip corner) (after corner) (place_of round.ends.end) on.1;
      touches_first = lies_beside (counts corner) round.side (before corner) (tip corner) (middle_of round) two.1;
      touches_second = lies_beside (counts corner) round.side (tip corner) (after corner) (middle_of round) three.1;
      start = round_is (counts corner) (middle_of round) (place_of round.ends.start) four.1;
      end = round_is (counts corner) (middle_of round) (place_of round.ends.end) all.1;
    }
