-- Which passes are made, and that the loop of `passes` (src/form.rt) makes them all, trying at most
-- 1,001.
use Rattle.std.proofs.Common.{◌≡◌, ℕ, zero, suc, ◌+◌, ◌-◌, ◌<◌, ◌≤◌, Bool, true, false, ◌&&◌, List, [], ◌∷◌, ◌++◌, ◌≤ℤ◌, ◌<ℤ◌, refl, ap, sym, ◌∙◌, arith, append_assoc, append-nil, cond, Some, None}
use Rattle.std.specs.Prelude.{int_lt}
use Rattle.nc_number.specs.declared.point.Point.{Point}
use Rattle.rough_forms.specs.Roughing.{Rough, first_moved, x_of_pass, pass_of, is_made, made_at, passes_from}
use Rattle.arc_contour.proofs.Lengths.{is_lt, is_not_lt}

-- a pass above the contour's first point that leads down from the start is made
made : (r : Rough) (k : ℕ) → (first_moved r).x <ℤ x_of_pass r k → (pass_of r k).z <ℤ r.start.z → made_at r k ≡ Some (pass_of r k)
made r k above below = rw (is_lt (first_moved r).x (x_of_pass r k) above, is_lt (pass_of r k).z r.start.z below) refl

-- a pass that doesn't lead down from the start is not made
none_below : (r : Rough) (k : ℕ) → r.start.z ≤ℤ (pass_of r k).z → made_at r k ≡ None
none_below r k past = go (int_lt (first_moved r).x (x_of_pass r k))
  where
    no : int_lt (pass_of r k).z r.start.z ≡ false
    no = is_not_lt (pass_of r k).z r.start.z past

    go : (b : Bool) → cond (b && int_lt (pass_of r k).z r.start.z) (Some (pass_of r k)) None ≡ None
    go true = rw no refl
    go false = refl

-- if pass k is not made, there are no passes from k on
no_further : (r : Rough) (k most : ℕ) → made_at r k ≡ None → passes_from r k most ≡ []
unfolding passes_from
no_further r k zero none = refl
no_further r k (suc most) none = go (is_made r (pass_of r k)) none
  where
    go : (b : Bool) → cond b (Some (pass_of r k)) None ≡ None → cond b (pass_of r k ∷ passes_from r (k + 1) most) [] ≡ []
    go true wrong = absurd (let different : Some (pass_of r k) ≡ None = wrong in cc)
    go false e = refl

-- a pass that is made is the first of those from there on
one_further : (r : Rough) (k most : ℕ) (pass : Point) → made_at r k ≡ Some pass → passes_from r k (suc most) ≡ pass ∷ passes_from r (k + 1) most
unfolding passes_from
one_further r k most pass some = go (is_made r (pass_of r k)) some
  where
    go : (b : Bool) → cond b (Some (pass_of r k)) None ≡ Some pass → cond b (pass_of r k ∷ passes_from r (k + 1) most) [] ≡ pass ∷ passes_from r (k + 1) most
    go true e = let same : pass_of r k ≡ pass = cc in rw same refl
    go false wrong = absurd (let different : None ≡ Some pass = wrong in cc)

-- if none is left to try, there are no passes
no_passes : (r : Rough) (k : ℕ) → passes_from r k 0 ≡ []
unfolding passes_from
no_passes r k = refl

-- before the loop, no pass is done and all are to come
pub at_first : (r : Rough) (done : List Point) → done ≡ [] → done ++ passes_from r 1 (1002 - 1) ≡ passes_from r 1 1001
at_first r done none = rw none refl

-- once 1,001 passes are tried, those so far are all
pub at_last : (r : Rough) (done all : List Point) (k : ℕ) → done ++ passes_from r k (1002 - k) ≡ all → 1002 ≤ k → done ≡ all
at_last r done all k so_far last =
    let none_left : 1002 - k ≡ 0 = omega arith in
    let rest : passes_from r k (1002 - k) ≡ [] = ap (passes_from r k) none_left ∙ no_passes r k in
    sym (append-nil done) ∙ ap (λ l. done ++ l) (sym rest) ∙ so_far

-- once a pass is not made, those so far are all
pub at_end : (r : Rough) (done all : List Point) (k : ℕ) → done ++ passes_from r k (1002 - k) ≡ all → made_at r k ≡ None → done ≡ all
at_end r done all k so_far none = sym (append-nil done) ∙ ap (λ l. done ++ l) (sym (no_further r k (1002 - k) none)) ∙ so_far

-- once a pass is made, it and those so far go on with the next
pub at_next : (r : Rough) (done new all : List Point) (k : ℕ) (pass : Point) → done ++ passes_from r k (1002 - k) ≡ all → k < 1002 → made_at r k ≡ Some pass → new ≡ done ++ pass ∷ [] → new ++ passes_from r (k + 1) (1002 - (k + 1)) ≡ all
at_next r done new all k pass so_far before some new_is =
    let one_left : 1002 - k ≡ suc (1002 - (k + 1)) = omega arith in
    let rest : passes_from r k (1002 - k) ≡ pass ∷ passes_from r (k + 1) (1002 - (k + 1)) = ap (passes_from r k) one_left ∙ one_further r k (1002 - (k + 1)) pass some in
    ap (λ l. l ++ passes_from r (k + 1) (1002 - (k + 1))) new_is
    ∙ append_assoc done (pass ∷ []) (passes_from r (k + 1) (1002 - (k + 1)))
    ∙ ap (λ l. done ++ l) (sym rest) ∙ so_far
