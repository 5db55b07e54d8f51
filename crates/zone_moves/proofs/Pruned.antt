-- A list of stretches meets those of another list that its hull meets, and no others; and a list
-- meets first what its front does. `first_pair` (src/pairs.rt) rests on it.
use Rattle.std.proofs.Common.{◌≡◌, ℕ, ◌+◌, ◌<◌, length, drop, get_or, append_assoc, Bool, true, false, List, [], ◌∷◌, ◌++◌, Option, Some, None, ℤ, ◌≤ℤ◌, ◌||◌, refl, ap, sym, ◌∙◌, arith, inl, inr, if◌then◌else◌}
use Rattle.std.proofs.lemmas.Int.{ints}
use Rattle.std.specs.List.{filter, All}
use Rattle.std.specs.Option.{is_some}
use Rattle.std.proofs.lemmas.List.{drop_more}
use Rattle.std.specs.Int.{int_min, int_max}
use Rattle.std.proofs.lemmas.List.Elements.{All-head, All-tail, All-cons}
use Rattle.nc_number.proofs.Bools.{either, or_left, or_right, not_false}
use Rattle.nc_number.specs.declared.both.Both.{Both}
use Rattle.nc_number.specs.declared.point.Point.{Point}
use Rattle.zone_area.specs.declared.area.Area.{Area}
use Rattle.zone_area.specs.Area.{hull_of, is_beyond, lie_apart, is_clear}
use Rattle.zone_moves.specs.declared.stretch.Stretch.{Stretch}
use Rattle.zone_moves.specs.Pairs.{meets, first_met, any_met, pair_or, first_pair, hull_along, near_one}

-- an area lies within a window
pub record Covers (window area : Area) : Type 0 where
  pub left : window.low.x ≤ℤ area.low.x
  pub right : area.high.x ≤ℤ window.high.x
  pub below : window.low.z ≤ℤ area.low.z
  pub above : area.high.z ≤ℤ window.high.z

-- the areas of all these stretches lie within a window
abbrev pub AreCovered : Area → List Stretch → Type 0
AreCovered window [] = Unit {0}
AreCovered window (stretch ∷ stretches) = Covers window stretch.area × AreCovered window stretches

min_left : (a b : ℤ) → int_min a b ≤ℤ a
min_left a b = grind (arith, ints)

min_right : (a b : ℤ) → int_min a b ≤ℤ b
min_right a b = grind (arith, ints)

max_left : (a b : ℤ) → a ≤ℤ int_max a b
max_left a b = grind (arith, ints)

max_right : (a b : ℤ) → b ≤ℤ int_max a b
max_right a b = grind (arith, ints)

-- a hull has its first area within it
hull_first : (a b : Area) → Covers (hull_of a b) a
hull_first a b = record {
  left = min_left a.low.x b.low.x;
  right = max_left a.high.x b.high.x;
  below = min_left a.low.z b.low.z;
  above = max_left a.high.z b.high.z;
}

-- a hull has its second area within it
hull_second : (a b : Area) → Covers (hull_of a b) b
hull_second a b = record {
  left = min_right a.low.x b.low.x;
  right = max_right a.high.x b.high.x;
  below = min_right a.low.z b.low.z;
  above = max_right a.high.z b.high.z;
}

-- each area lies within itself
covers_same : (a : Area) → Covers a a
covers_same a = record { left = omega (arith, ints); right = omega (arith, ints); below = omega (arith, ints); above = omega (arith, ints) }

-- what lies within an area within a window lies within that
covers_on : (a b c : Area) → Covers a b → Covers b c → Covers a c
covers_on a b c f g =
    let l = f.left in let r = f.right in let u = f.below in let o = f.above in
    let l' = g.left in let r' = g.right in let u' = g.below in let o' = g.above in
    record {
      left = omega (arith, ints, l, l');
      right = omega (arith, ints, r, r');
      below = omega (arith, ints, u, u');
      above = omega (arith, ints, o, o');
    }

-- the hull of an area and stretches has the area within it
along_first : (area : Area) (stretches : List Stretch) → Covers (hull_along area stretches) area
along_first area [] = covers_same area
along_first area (s ∷ stretches) =
    covers_on (hull_along (hull_of area s.area) stretches) (hull_of area s.area) area (along_first (hull_of area s.area) stretches) (hull_first area s.area)

-- the hull of an area and stretches has these within it
along_rest : (area : Area) (stretches : List Stretch) → AreCovered (hull_along area stretches) stretches
along_rest area [] = tt
along_rest area (s ∷ stretches) = (
  covers_on (hull_along (hull_of area s.area) stretches) (hull_of area s.area) s.area (along_first (hull_of area s.area) stretches) (hull_second area s.area),
  along_rest (hull_of area s.area) stretches,
)

-- a span that ends no later lies as far before one that begins no earlier
wider : (gap last first last' first' : ℤ) → last' ≤ℤ last → first ≤ℤ first' → is_beyond gap last first ≡ true → is_beyond gap last' first' ≡ true
wider gap last first last' first' l f is = grind (arith, ints)

-- a span within another lies apart from what that lies apart from
lie_still : (gap low high wide_low wide_high other_low other_high : ℤ) → wide_low ≤ℤ low → high ≤ℤ wide_high
    → lie_apart gap wide_low wide_high other_low other_high ≡ true → lie_apart gap low high other_low other_high ≡ true
lie_still gap low high wide_low wide_high other_low other_high l h is = elim (either _ _ is) [
  | inl up ↦ or_left _ _ (wider gap wide_high other_low high other_low h (omega (arith, ints)) up)
  | inr down ↦ or_right _ _ (wider gap other_high wide_low other_high low (omega (arith, ints)) l down)
]

-- an area within a window is clear of what the window is clear of
still_clear : (gap : Point) (window area other : Area) → Covers window area → is_clear gap window other ≡ true → is_clear gap area other ≡ true
still_clear gap window area other c is = elim (either _ _ is) [
  | inl x ↦ or_left _ _ (lie_still gap.x area.low.x area.high.x window.low.x window.high.x other.low.x other.high.x c.left c.right x)
  | inr z ↦ or_right _ _ (lie_still gap.z area.low.z area.high.z window.low.z window.high.z other.low.z other.high.z c.below c.above z)
]

-- an area within a window meets nothing that the window does not meet
meets_none : (gap : Point) (window area other : Area) → Covers window area → meets gap window other ≡ false → meets gap area other ≡ false
meets_none gap window area other c is =
    let clear : is_clear gap area other ≡ true = still_clear gap window area other c (not_false (is_clear gap window other) is) in
    rw clear refl

-- a stretch within a window meets first what it meets of those that the window meets
met_pruned : (gap : Point) (window : Area) (l : Stretch) (others : List Stretch) → Covers window l.area
    → first_met gap l (filter (λ (s : Stretch). meets gap window s.area) others) ≡ first_met gap l others
met_pruned gap window l [] c = refl
met_pruned gap window l (o ∷ others) c = go (meets gap window o.area) refl (met_pruned gap window l others c)
  where
    go : (b : Bool) → meets gap window o.area ≡ b
        → first_met gap l (filter (λ (s : Stretch). meets gap window s.area) others) ≡ first_met gap l others
        → first_met gap l (filter (λ (s : Stretch). meets gap window s.area) (o ∷ others)) ≡ first_met gap l (o ∷ others)
    go true e rest = rw e (ap (λ (found : Option Stretch). if meets gap l.area o.area then Some o else found) rest)
    go false e rest = let none = meets_none gap window l.area o.area c e in rw (e, none) rest

-- stretches within a window meet first what they meet of those that the window meets
pub pruned : (gap : Point) (window : Area) (ls others : List Stretch) → AreCovered window ls
    → first_pair gap ls (filter (λ (s : Stretch). meets gap window s.area) others) ≡ first_pair gap ls others
pruned gap window [] others c = refl
pruned gap window (l ∷ ls) others c =
    ap (λ (found : Option Stretch). pair_or l found (first_pair gap ls (filter (λ (s : Stretch). meets gap window s.area) others))) (met_pruned gap window l others c.0)
    ∙ ap (λ (later : Option (Both Stretch)). pair_or l (first_met gap l others) later) (pruned gap window ls others c.1)

-- stretches meet first what they meet of those that their hull meets
pub hull_pruned : (gap : Point) (one : Stretch) (rest others : List Stretch)
    → first_pair gap (one ∷ rest) (filter (λ (s : Stretch). meets gap (hull_along one.area rest) s.area) others) ≡ first_pair gap (one ∷ rest) others
hull_pruned gap one rest others = pruned gap (hull_along one.area rest) (one ∷ rest) others (along_first one.area rest, along_rest one.area rest)

-- there is a first pair exactly if a stretch meets one of the others
pub some_met : (gap : Point) (ls others : List Stretch) → is_some (first_pair gap ls others) ≡ any_met gap ls others
some_met gap [] others = refl
some_met gap (l ∷ ls) others = go (first_met gap l others) (some_met gap ls others)
  where
    go : (met : Option Stretch) → is_some (first_pair gap ls others) ≡ any_met gap ls others
        → is_some (pair_or l met (first_pair gap ls others)) ≡ (is_some met || any_met gap ls others)
    go (Some two) rest = refl
    go None rest = rest

-- if two lists of others give the same first pair, a stretch meets one of either or of none
pub met_alike : (gap : Point) (ls some others : List Stretch) → first_pair gap ls some ≡ first_pair gap ls others
    → any_met gap ls some ≡ any_met gap ls others
met_alike gap ls some others same = sym (some_met gap ls some) ∙ ap is_some same ∙ some_met gap ls others

-- without a stretch that meets one of the others there is no first pair
pub none_met : (gap : Point) (ls others : List Stretch) → any_met gap ls others ≡ false → first_pair gap ls others ≡ None
none_met gap ls others none = go (first_pair gap ls others) (some_met gap ls others ∙ none)
  where
    go : (found : Option (Both Stretch)) → is_some found ≡ false → found ≡ None
    go None is = refl
    go (Some pair) is = absurd (let never : true ≡ false = is in cc)

-- what is found first, else what is found later
abbrev pub found_or : Option (Both Stretch) → Option (Both Stretch) → Option (Both Stretch)
found_or (Some pair) later = Some pair
found_or None later = later

-- what the front of a list meets first the list meets first; else it is what its back meets
pub pair_split : (gap : Point) (front back others : List Stretch)
    → first_pair gap (front ++ back) others ≡ found_or (first_pair gap front others) (first_pair gap back others)
pair_split gap [] back others = refl
pair_split gap (l ∷ front) back others = go (first_met gap l others) (pair_split gap front back others)
  where
    go : (met : Option Stretch) → first_pair gap (front ++ back) others ≡ found_or (first_pair gap front others) (first_pair gap back others)
        → pair_or l met (first_pair gap (front ++ back) others) ≡ found_or (pair_or l met (first_pair gap front others)) (first_pair gap back others)
    go (Some two) rest = refl
    go None rest = rest

-- a pair of the front, among what the whole list meets, is the first of the whole list
pub front_pair : (gap : Point) (left front back near right : List Stretch) (pair : Both Stretch) → front ++ back ≡ left
    → first_pair gap left near ≡ first_pair gap left right → first_pair gap front near ≡ Some pair → Some pair ≡ first_pair gap left right
front_pair gap left front back near right pair whole same is =
    ap (λ (found : Option (Both Stretch)). found_or found (first_pair gap back near)) (sym is)
    ∙ sym (pair_split gap front back near) ∙ ap (λ (l : List Stretch). first_pair gap l near) whole ∙ same

-- without a pair of the front it is the back, among what the whole list meets, that has the first
pub back_pair : (gap : Point) (left front back near right : List Stretch) → front ++ back ≡ left
    → first_pair gap left near ≡ first_pair gap left right → first_pair gap front near ≡ None → first_pair gap back near ≡ first_pair gap left right
back_pair gap left front back near right whole same is =
    ap (λ (found : Option (Both Stretch)). found_or found (first_pair gap back near)) (sym is)
    ∙ sym (pair_split gap front back near) ∙ ap (λ (l : List Stretch). first_pair gap l near) whole ∙ same

-- all of a list pass a test on its elements if all passed it before some were left out
pub all_kept : (P : Stretch → Type 0) (test : Stretch → Bool) (xs : List Stretch) → All P xs → All P (filter test xs)
all_kept P test [] all = all
all_kept P test (x ∷ xs) all = go (test x) refl (all_kept P test xs (All-tail P x xs all))
  where
    go : (b : Bool) → test x ≡ b → All P (filter test xs) → All P (filter test (x ∷ xs))
    go true e rest = rw e (All-cons P x (filter test xs) (All-head P x xs all) rest)
    go false e rest = rw e rest

-- a stretch is kept of a list before its rest
filter_one : (gap : Point) (area : Area) (x : Stretch) (xs : List Stretch)
    → near_one gap area x ++ filter (λ (s : Stretch). meets gap area s.area) xs ≡ filter (λ (s : Stretch). meets gap area s.area) (x ∷ xs)
filter_one gap area x xs = go (meets gap area x.area) refl
  where
    go : (b : Bool) → meets gap area x.area ≡ b
        → near_one gap area x ++ filter (λ (s : Stretch). meets gap area s.area) xs ≡ filter (λ (s : Stretch). meets gap area s.area) (x ∷ xs)
    go true e = rw e refl
    go false e = rw e refl

-- what is kept so far and of the rest goes on to be what is kept of all, with one stretch more
pub near_step : (gap : Point) (area : Area) (xs : List Stretch) (i : ℕ) (d : Stretch) (old new : List Stretch) → i < length xs
    → new ≡ old ++ near_one gap area (get_or xs i d)
    → old ++ filter (λ (s : Stretch). meets gap area s.area) (drop i xs) ≡ filter (λ (s : Stretch). meets gap area s.area) xs
    → new ++ filter (λ (s : Stretch). meets gap area s.area) (drop (i + 1) xs) ≡ filter (λ (s : Stretch). meets gap area s.area) xs
near_step gap area xs i d old new within is so_far =
    let q : Stretch → Bool = λ s. meets gap area s.area in
    ap (λ (l : List Stretch). l ++ filter q (drop (i + 1) xs)) is
    ∙ append_assoc old (near_one gap area (get_or xs i d)) (filter q (drop (i + 1) xs))
    ∙ ap (λ (l : List Stretch). old ++ l) (filter_one gap area (get_or xs i d) (drop (i + 1) xs) ∙ ap (filter q) (sym (drop_more xs i d within)))
    ∙ so_far
