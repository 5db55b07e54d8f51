-- A stretch more in one of two parts, and what the parts say of the whole list. `parted_at`
-- (src/parts.rt) and `is_any_met` (src/contact.rt) rest on it.
use Rattle.std.proofs.Common.{◌≡◌, ℕ, ◌+◌, ◌<◌, ◌≤◌, length, take, get_or, take_all, Bool, true, false, ◌||◌, List, [], ◌∷◌, ◌++◌, refl, sym, subst, ap, ◌∙◌, arith}
use Rattle.std.specs.List.{list_any}
use Rattle.std.proofs.lemmas.List.Folds.{list_any-append}
use Rattle.std.proofs.lemmas.List.{length-append, take_more}
use Rattle.nc_number.specs.declared.point.Point.{Point}
use Rattle.zone_moves.specs.declared.stretch.Stretch.{Stretch}
use Rattle.zone_moves.specs.Pairs.{is_met, any_met}
use Rattle.zone_moves.specs.Parts.{PartsView, no_parts, parts_with, ArePartsOf}

-- no parts have no stretches
pub nothing_parted : ArePartsOf no_parts []
nothing_parted = record { any = λ q. refl; count = refl }

-- one of two, or one more: whether it is told with the first of them or behind both
first_told : (a b s all : Bool) → (a || b) ≡ all → ((a || (s || false)) || b) ≡ (all || (s || false))
first_told true b s all is = ap (λ x. x || (s || false)) is
first_told false b true all is = sym (right all)
  where
    right : (x : Bool) → (x || true) ≡ true
    right true = refl
    right false = refl
first_told false b false all is = is ∙ sym (right all)
  where
    right : (x : Bool) → (x || false) ≡ x
    right true = refl
    right false = refl

-- the same with the second of them
second_told : (a b s all : Bool) → (a || b) ≡ all → (a || (b || (s || false))) ≡ (all || (s || false))
second_told true b s all is = ap (λ x. x || (s || false)) is
second_told false b s all is = ap (λ x. x || (s || false)) is

-- a stretch more in one of the parts is one more of the whole list
parts_more : (parts : PartsView) (is_before : Bool) (s : Stretch) (so_far : List Stretch) → ArePartsOf parts so_far
    → ArePartsOf (parts_with parts is_before s) (so_far ++ s ∷ [])
parts_more parts true s so_far are = record {
  any = λ q. ap (λ x. x || list_any q parts.behind) (list_any-append q parts.before (s ∷ []))
      ∙ (first_told (list_any q parts.before) (list_any q parts.behind) (q s) (list_any q so_far) (are.any q)
      ∙ sym (list_any-append q so_far (s ∷ [])));
  count =
      let before = length-append parts.before (s ∷ []) in
      let all = length-append so_far (s ∷ []) in
      let count = are.count in
      omega (arith, before, all, count);
}
parts_more parts false s so_far are = record {
  any = λ q. ap (λ x. list_any q parts.before || x) (list_any-append q parts.behind (s ∷ []))
      ∙ (second_told (list_any q parts.before) (list_any q parts.behind) (q s) (list_any q so_far) (are.any q)
      ∙ sym (list_any-append q so_far (s ∷ [])));
  count =
      let behind = length-append parts.behind (s ∷ []) in
      let all = length-append so_far (s ∷ []) in
      let count = are.count in
      omega (arith, behind, all, count);
}

-- parts of the stretches so far, with the next one, are parts of these and that one
pub parted_step : (xs : List Stretch) (i : ℕ) (d : Stretch) (is_before : Bool) (old new : PartsView) → i < length xs
    → new ≡ parts_with old is_before (get_or xs i d) → ArePartsOf old (take i xs) → ArePartsOf new (take (i + 1) xs)
parted_step xs i d is_before old new within is are =
    subst (λ p. ArePartsOf p (take (i + 1) xs)) (sym is)
    (subst (ArePartsOf (parts_with old is_before (get_or xs i d))) (sym (take_more xs i d within))
    (parts_more old is_before (get_or xs i d) (take i xs) are))

-- once no stretch is left, the parts are those of all
pub parted_all : (parts : PartsView) (xs : List Stretch) (i : ℕ) → length xs ≤ i → ArePartsOf parts (take i xs) → ArePartsOf parts xs
parted_all parts xs i over are = subst (ArePartsOf parts) (take_all i xs over) are

-- what a part meets the whole list meets
pub part_met : (gap : Point) (parts : PartsView) (ls others : List Stretch) → ArePartsOf parts ls → any_met gap parts.before others ≡ true
    → any_met gap ls others ≡ true
part_met gap parts ls others are is =
    sym (are.any (is_met gap others)) ∙ ap (λ x. x || any_met gap parts.behind others) is

-- if the part before the middle meets nothing, the other one decides
pub other_met : (gap : Point) (parts : PartsView) (ls others : List Stretch) → ArePartsOf parts ls → any_met gap parts.before others ≡ false
    → any_met gap parts.behind others ≡ any_met gap ls others
other_met gap parts ls others are is =
    sym (ap (λ x. x || any_met gap parts.behind others) is) ∙ are.any (is_met gap others)
