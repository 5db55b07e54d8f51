-- How many plain blocks a form with so many passes stands for: the code counts its blocks to know
-- its passes (`is_short`, src/form.rt). 4,004 is four blocks for each of 1,000 passes, and four
-- more.
use Rattle.std.proofs.Common.{◌≡◌, ℕ, ◌+◌, ◌*◌, Bool, true, false, List, [], ◌∷◌, length, map, refl, arith}
use Rattle.std.specs.Prelude.{nat_le}
use Rattle.std.specs.List.{flat_map}
use Rattle.std.proofs.lemmas.List.{length-append, length-map}
use Rattle.std.proofs.lemmas.Bool.Decides.{nat_tests}
use Rattle.nc_number.specs.declared.point.Point.{Point}
use Rattle.rough_cycle.specs.Roughing.{Rough, passes_from, pass_blocks, contour_blocks, rough_blocks, first_moved, points_moved, straight_to, across_to, along_to}
use Rattle.rough_cycle.specs.Contour.{moved_point}
use Rattle.cycle_form.specs.Forms.{is_short}

-- Each pass has four blocks.
four_each : (r : Rough) (passes : List Point) → length (flat_map (pass_blocks r) passes) ≡ 4 * length passes
four_each r [] = refl
four_each r (p ∷ passes) = let rest = four_each r passes in omega (arith, rest)

-- The way along the contour has four blocks, and one for each point after the first.
along : (start p : Point) (points : List Point) → length (contour_blocks start p points) ≡ length points + 4
along start p points =
    let joined = length-append (map (straight_to true) points) (across_to true start ∷ along_to false start ∷ []) in
    let same = length-map points (straight_to true) in
    omega (arith, joined, same)

-- A form has four blocks a pass, four more, and one for each point after the first.
blocks_are : (r : Rough) (most : ℕ) → length (rough_blocks r most) ≡ 4 * length (passes_from r 1 most) + (length r.points + 4)
blocks_are r most =
    let joined = length-append (flat_map (pass_blocks r) (passes_from r 1 most)) (contour_blocks r.start (first_moved r) (points_moved r)) in
    let passes = four_each r (passes_from r 1 most) in
    let contour = along r.start (first_moved r) (points_moved r) in
    let moved = length-map r.points (moved_point r.across r.along) in
    omega (arith, joined, passes, contour, moved)

-- A count of at most 4,004 blocks and one for each point is that of at most 1,000 passes.
counted : (n passes points : ℕ) → n ≡ 4 * passes + (points + 4) → nat_le n (4004 + points) ≡ nat_le passes 1000
counted n passes points e = go (nat_le passes 1000) refl
  where
    go : (short : Bool) → nat_le passes 1000 ≡ short → nat_le n (4004 + points) ≡ short
    go true short = grind (arith, nat_tests)
    go false short = grind (arith, nat_tests)

-- The count of blocks says whether a form has at most 1,000 passes.
pub short : (r : Rough) (n points : ℕ) → n ≡ length (rough_blocks r 1001) → points ≡ length r.points → nat_le n (4004 + points) ≡ is_short r
short r n points n_is points_is =
    let blocks = blocks_are r 1001 in
    counted n (length (passes_from r 1 1001)) points (omega (arith, n_is, points_is, blocks))
