-- What the passes leave lies within a depth of cut of one of them.
use Rattle.std.proofs.Common.{◌≡◌, ℕ, zero, suc, ◌+◌, ◌*◌, ◌<◌, Bool, true, false, ◌&&◌, List, [], ◌∷◌, length, ℤ, pos, ◌+ℤ◌, ◌≤ℤ◌, ◌<ℤ◌, refl, sym, subst, ap, ◌∙◌, arith, cond, ◌⊎◌, inl, inr}
use Rattle.std.specs.Prelude.{int_lt}
use Rattle.std.proofs.lemmas.Int.{ints, by_lt_z}
use Rattle.nc_number.specs.declared.point.Point.{Point}
use Rattle.nc_number.proofs.Bools.{both_true}
use Rattle.arc_contour.specs.declared.edge.Bound.TheVariants.{Outer}
use Rattle.arc_contour.specs.Contour.{last_of}
use Rattle.arc_contour.specs.Ends.{end_at}
use Rattle.arc_contour.specs.Least.{is_below_some, EndsMet}
use Rattle.arc_contour.proofs.Lengths.{is_lt, not_lt_is}
use Rattle.arc_contour.proofs.Contours.{edges_fall, last_is}
use Rattle.arc_contour.proofs.LeastEnd.{all_left, some_lower}
use Rattle.rough_forms.specs.Roughing.{Rough, IsForm, across_of, first_moved, pieces_moved, outer_moved, x_of_pass, pass_of, is_made, passes_from}
use Rattle.rough_forms.specs.Left.{IsStock, IsAmong, GoesBy, IsNearCut}
use Rattle.rough_forms.proofs.NothingInside.{form_descends}

-- a pass that is not lower than a point of the stock goes by at its Z
goes_by : (r : Rough) (k : ℕ) (at : Point) → IsForm r → EndsMet r.frame.way (first_moved r) (pieces_moved r) → IsStock r at → at.x ≤ℤ x_of_pass r k → (pass_of r k).z ≤ℤ at.z
goes_by r k at form met stock left = by_lt_z at.z end
    (λ less.
    let low = subst (λ l. l.z ≤ℤ at.z) (sym (last_is r.frame.way Outer (first_moved r) (pieces_moved r))) stock.short in
    let over : (first_moved r).x ≤ℤ x_of_pass r k = (let above = stock.above in omega (arith, ints, above, left)) in
    let below = all_left r.frame.way (first_moved r) (pieces_moved r) (record { x = x_of_pass r k; z = at.z }) (form_descends r form) met over less low in
    let there = some_lower (first_moved r) (outer_moved r) at (x_of_pass r k) (edges_fall r.frame.way Outer (first_moved r) (pieces_moved r) (form_descends r form)) left below in
    absurd (let wrong : false ≡ true = sym stock.free ∙ there in cc))
    (λ least. go least (int_lt end (first_moved r).z) refl)
  where
    end : ℤ
    end = end_at (x_of_pass r k) (first_moved r) (outer_moved r)

    go : end ≤ℤ at.z → (b : Bool) → int_lt end (first_moved r).z ≡ b → cond b end ((first_moved r).z +ℤ pos 1) ≤ℤ at.z
    go least true t = least
    go least false t =
        let begins = not_lt_is end (first_moved r).z t in
        by_lt_z (first_moved r).z at.z
        (λ less. omega (arith, ints, less))
        (λ most. absurd (stock.apart (omega (arith, ints, begins, least, most))))

-- each pass is a depth lower than the one before it
next_level : (r : Rough) (k : ℕ) → x_of_pass r k ≡ (x_of_pass r (k + 1) +ℤ pos (across_of r.frame.way r.depth))
next_level r k =
    let more : across_of r.frame.way r.depth * (k + 1) ≡ across_of r.frame.way r.depth * k + across_of r.frame.way r.depth = omega arith in
    omega (arith, ints, more)

-- the level m, or one of the passes after it
abbrev After : Rough → ℕ → ℕ → Point → Type 0
After r m most at =
    (k : ℕ) × (at.x ≤ℤ x_of_pass r k) × (x_of_pass r k ≤ℤ (at.x +ℤ pos (across_of r.frame.way r.depth)))
    × ((k ≡ m) ⊎ (IsAmong (passes_from r (m + 1) most) (pass_of r k) × ((pass_of r k).z ≤ℤ at.z)))

-- from a level that is not lower than the point one comes to a pass near it
levels : (r : Rough) (most m : ℕ) (at : Point) → IsForm r → EndsMet r.frame.way (first_moved r) (pieces_moved r) → IsStock r at → at.x ≤ℤ x_of_pass r m
    → length (passes_from r (m + 1) most) < most → After r m most at
unfolding passes_from
levels r zero m at form met stock left few = absurd (omega (arith, few))
levels r (suc most) m at form met stock left few = by_lt_z at.x (x_of_pass r (m + 1))
    (λ less.
    let behind = goes_by r (m + 1) at form met stock (omega (arith, ints, less)) in
    let above = stock.above in
    let before = stock.before in
    let high = is_lt (first_moved r).x (x_of_pass r (m + 1)) (omega (arith, ints, above, less)) in
    let down = is_lt (pass_of r (m + 1)).z r.start.z (omega (arith, ints, behind, before)) in
    let made : is_made r (pass_of r (m + 1)) ≡ true = both_true _ _ high down in
    further behind (is_made r (pass_of r (m + 1))) made few (λ shorter. levels r most (m + 1) at form met stock (omega (arith, ints, less)) shorter))
    (λ least. (m, left, (let next = next_level r m in omega (arith, ints, next, least)), inl refl))
  where
    further : (pass_of r (m + 1)).z ≤ℤ at.z → (b : Bool) → b ≡ true → length (cond b (pass_of r (m + 1) ∷ passes_from r (m + 1 + 1) most) []) < suc most
        → (length (passes_from r (m + 1 + 1) most) < most → After r (m + 1) most at)
        → (k : ℕ) × (at.x ≤ℤ x_of_pass r k) × (x_of_pass r k ≤ℤ (at.x +ℤ pos (across_of r.frame.way r.depth)))
        × ((k ≡ m) ⊎ (IsAmong (cond b (pass_of r (m + 1) ∷ passes_from r (m + 1 + 1) most) []) (pass_of r k) × ((pass_of r k).z ≤ℤ at.z)))
    further behind false wrong few rest = absurd (let no_way : false ≡ true = wrong in cc)
    further behind true made few rest = found (rest (omega (arith, few)))
      where
        found : After r (m + 1) most at → (k : ℕ) × (at.x ≤ℤ x_of_pass r k) × (x_of_pass r k ≤ℤ (at.x +ℤ pos (across_of r.frame.way r.depth)))
            × ((k ≡ m) ⊎ (IsAmong (pass_of r (m + 1) ∷ passes_from r (m + 1 + 1) most) (pass_of r k) × ((pass_of r k).z ≤ℤ at.z)))
        found (k, low, near, inl same) = (k, low, near, inr (inl (ap (pass_of r) (sym same)), subst (λ n. (pass_of r n).z ≤ℤ at.z) (sym same) behind))
        found (k, low, near, inr (there, past)) = (k, low, near, inr (inr there, past))

-- what the passes leave lies within a depth of cut of one of them
pub nothing_left : (r : Rough) (most : ℕ) (at : Point) → IsForm r → EndsMet r.frame.way (first_moved r) (pieces_moved r) → length (passes_from r 1 most) < most → IsStock r at → IsNearCut r most at
nothing_left r most at form met few stock = found (levels r most 0 at form met stock (let below = stock.below in omega (arith, ints, below)) few)
  where
    found : After r 0 most at → IsNearCut r most at
    found (zero, low, near, goes) = (0, low, near, tt)
    found (suc k, low, near, inl same) = absurd (omega (arith, same))
    found (suc k, low, near, inr goes) = (suc k, low, near, goes)
