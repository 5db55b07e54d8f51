-- The open loops as the stack of src/mismatch.rt holds them: the latest last, where the specs have
-- it first. For the proofs of that file. The file's name is that of the function `open_loops`, the stack
-- as contracts see it.
use Rattle.std.proofs.Common.{◌≡◌, ◌≢◌, ℕ, ◌+◌, ◌-◌, ◌<◌, ◌==◌, Bool, true, false, cond, eqb, ◌||◌, List, [], ◌∷◌, ◌++◌, length, map, reverse, get_or, take, drop, Some, None, refl, sym, ap, ◌∙◌, arith}
use Rattle.std.specs.List.{slice_get, list_any}
use Rattle.std.proofs.lemmas.List.{reverse-append, map-append, append_assoc, append-nil, take_more, take_all, drop_more, drop_all}
use Rattle.std.proofs.lemmas.List.Sorted.{list_any-IsPermutation, IsPermutation-reverse}
use Rattle.std.specs.Option.{option_map}
use Rattle.std.proofs.lemmas.Option.{slice_get_within, slice_get-get_or, get_or_from_slice_get}
use Rattle.std.proofs.lemmas.Bool.Decides.{nat_tests}
use Rattle.block_order.specs.declared.mismatch.OpenLoop.{OpenLoop}
use Rattle.block_order.specs.Order.{or_else}
use Rattle.block_order.specs.Loops.{Open, open_after_end}
use Rattle.block_order.specs.Misplaced.{open_loop_of, open_loops, has_name, is_latest, earliest}

-- A stack on top of another one, as the specs see it, is the upper one and then the lower one.
open_loops-append : (xs ys : List OpenLoop) → open_loops (xs ++ ys) ≡ open_loops ys ++ open_loops xs
unfolding open_loops
open_loops-append xs ys = ap reverse (map-append open_loop_of xs ys) ∙ reverse-append (map open_loop_of xs) (map open_loop_of ys)

-- A stack of one loop is seen as that loop alone.
open_loops-one : (x : OpenLoop) → open_loops (x ∷ []) ≡ open_loop_of x ∷ []
unfolding open_loops
open_loops-one x = refl

-- An empty stack is seen as no open loop.
pub open_loops-none : open_loops [] ≡ []
unfolding open_loops
open_loops-none = refl

-- A loop that is pushed on the stack is seen as the latest.
pub open_loops-push : (xs : List OpenLoop) (x : OpenLoop) → open_loops (xs ++ x ∷ []) ≡ open_loop_of x ∷ open_loops xs
open_loops-push xs x = open_loops-append xs (x ∷ []) ∙ ap (λ ls. ls ++ open_loops xs) (open_loops-one x)

-- A test finds a loop among those of the specs exactly if it finds one among those of the code.
any-map : (p : Open → Bool) (xs : List OpenLoop) → list_any p (map open_loop_of xs) ≡ list_any (λ x. p (open_loop_of x)) xs
any-map p [] = refl
any-map p (x ∷ xs) = ap (λ b. p (open_loop_of x) || b) (any-map p xs)

-- Some loop of the stack has the name exactly if an open loop of the specs has it.
pub open_loops-name : (n : ℕ) (xs : List OpenLoop) → list_any (λ x. x.name == n) xs ≡ has_name n (open_loops xs)
unfolding open_loops
open_loops-name n xs =
    sym (any-map (λ x. x.name == n) xs)
    ∙ list_any-IsPermutation (λ x. x.name == n) (map open_loop_of xs) (reverse (map open_loop_of xs)) (IsPermutation-reverse (map open_loop_of xs))

-- A stack that is not empty is all but its last loop, and that one.
front-last : (xs : List OpenLoop) (d : OpenLoop) → 0 < length xs
    → xs ≡ take (length xs - 1) xs ++ get_or xs (length xs - 1) d ∷ []
front-last xs d h =
    sym (take_all ((length xs - 1) + 1) xs (omega arith)) ∙ take_more xs (length xs - 1) d (omega arith)

-- The last loop of the stack has the name exactly if the latest open one has it.
open_loops-last : (xs : List OpenLoop) (d : OpenLoop) (n : ℕ) → 0 < length xs
    → is_latest n (open_loops xs) ≡ ((get_or xs (length xs - 1) d).name == n)
open_loops-last xs d n h =
    ap (λ ls. is_latest n (open_loops ls)) (front-last xs d h)
    ∙ ap (is_latest n) (open_loops-push (take (length xs - 1) xs) (get_or xs (length xs - 1) d))

-- If the loop at `at` has another name, the search down the stack goes on below it: what is passed,
-- and what closing the name leaves of the rest, stay the same.
pub down-other : (xs : List OpenLoop) (at n : ℕ) (d : OpenLoop) → at < length xs → (get_or xs at d).name ≢ n
    → open_loops (drop (at + 1) xs) ++ open_after_end n (open_loops (take (at + 1) xs)) ≡ open_loops (drop at xs) ++ open_after_end n (open_loops (take at xs))
down-other xs at n d h ne =
    let x = get_or xs at d in
    let test : eqb x.name n ≡ false = grind (arith, nat_tests) in
    let split : open_loops (take (at + 1) xs) ≡ open_loop_of x ∷ open_loops (take at xs) =
    ap open_loops (take_more xs at d h) ∙ open_loops-push (take at xs) x in
    let kept : open_after_end n (open_loops (take (at + 1) xs)) ≡ open_loop_of x ∷ open_after_end n (open_loops (take at xs)) =
    ap (open_after_end n) split ∙ ap (λ v. cond v (open_loops (take at xs)) (open_loop_of x ∷ open_after_end n (open_loops (take at xs)))) test in
    let below : open_loops (drop at xs) ≡ open_loops (drop (at + 1) xs) ++ open_loop_of x ∷ [] =
    ap open_loops (drop_more xs at d h) ∙ open_loops-append (x ∷ []) (drop (at + 1) xs)
    ∙ ap (λ ls. open_loops (drop (at + 1) xs) ++ ls) (open_loops-one x) in
    ap (λ ls. open_loops (drop (at + 1) xs) ++ ls) kept
    ∙ sym (append_assoc (open_loops (drop (at + 1) xs)) (open_loop_of x ∷ []) (open_after_end n (open_loops (take at xs))))
    ∙ ap (λ ls. ls ++ open_after_end n (open_loops (take at xs))) (sym below)

-- If the loop at `at` has the name, closing the name takes just this one from the stack.
pub down-closed : (xs : List OpenLoop) (at n : ℕ) (d : OpenLoop) → at < length xs → (get_or xs at d).name ≡ n
    → open_loops (drop (at + 1) xs) ++ open_after_end n (open_loops (take (at + 1) xs)) ≡ open_loops (take at xs ++ drop (at + 1) xs)
down-closed xs at n d h is =
    let x = get_or xs at d in
    let test : eqb x.name n ≡ true = grind (arith, nat_tests) in
    let split : open_loops (take (at + 1) xs) ≡ open_loop_of x ∷ open_loops (take at xs) =
    ap open_loops (take_more xs at d h) ∙ open_loops-push (take at xs) x in
    let kept : open_after_end n (open_loops (take (at + 1) xs)) ≡ open_loops (take at xs) =
    ap (open_after_end n) split ∙ ap (λ v. cond v (open_loops (take at xs)) (open_loop_of x ∷ open_after_end n (open_loops (take at xs)))) test in
    ap (λ ls. open_loops (drop (at + 1) xs) ++ ls) kept ∙ sym (open_loops-append (take at xs) (drop (at + 1) xs))

-- The last loop of the specs' list was opened first.
earliest-snoc : (ls : List Open) (x : Open) → earliest (ls ++ x ∷ []) ≡ Some x.place
earliest-snoc [] x = refl
earliest-snoc (l ∷ ls) x = ap (λ o. or_else o (Some l.place)) (earliest-snoc ls x)

-- The bottom of the stack is the loop that was opened first.
pub open_loops-earliest : (xs : List OpenLoop) → earliest (open_loops xs) ≡ option_map (λ x. x.place) (slice_get xs 0)
open_loops-earliest [] = ap earliest open_loops-none
open_loops-earliest (x ∷ xs) =
    ap earliest (open_loops-append (x ∷ []) xs ∙ ap (λ ls. open_loops xs ++ ls) (open_loops-one x)) ∙ earliest-snoc (open_loops xs) (open_loop_of x)

-- If the stack's last loop is x, the latest open loop has a name exactly if x has it.
pub latest-some : (xs : List OpenLoop) (n : ℕ) (x : OpenLoop) → slice_get xs (length xs - 1) ≡ Some x
    → (x.name == n) ≡ is_latest n (open_loops xs)
latest-some xs n x e =
    let within = slice_get_within xs (length xs - 1) x e in
    ap (λ y. y.name == n) (sym (get_or_from_slice_get xs (length xs - 1) x x e)) ∙ sym (open_loops-last xs x n (omega arith))

-- In an empty stack no loop is the latest.
pub latest-none : (xs : List OpenLoop) (n : ℕ) → slice_get xs (length xs - 1) ≡ None → false ≡ is_latest n (open_loops xs)
latest-none [] n e = ap (is_latest n) (sym open_loops-none)
latest-none (x ∷ xs) n e =
    let some = slice_get-get_or (x ∷ xs) (length (x ∷ xs) - 1) x (omega arith) in
    let f : Some (get_or (x ∷ xs) (length (x ∷ xs) - 1) x) ≡ None = sym some ∙ e in absurd cc

-- Before the search down the stack nothing is passed: what closing leaves is that of the whole
-- stack.
pub close-start : (xs : List OpenLoop) (at n : ℕ) → at ≡ length xs
    → open_after_end n (open_loops xs) ≡ open_loops (drop at xs) ++ open_after_end n (open_loops (take at xs))
close-start xs at n e =
    sym (ap (λ ls. open_loops ls ++ open_after_end n (open_loops (take at xs))) (drop_all at xs (omega arith))
    ∙ ap (λ ls. ls ++ open_after_end n (open_loops (take at xs))) open_loops-none
    ∙ ap (λ ls. open_after_end n (open_loops ls)) (take_all at xs (omega arith)))

-- If the search came to the bottom, no loop has the name, and closing the name leaves the stack as
-- it is.
pub close-end : (xs : List OpenLoop) (at n : ℕ) → at ≡ 0
    → open_after_end n (open_loops xs) ≡ open_loops (drop at xs) ++ open_after_end n (open_loops (take at xs)) → open_loops xs ≡ open_after_end n (open_loops xs)
close-end xs at n z e =
    sym (e ∙ ap (λ k. open_loops (drop k xs) ++ open_after_end n (open_loops (take k xs))) z
    ∙ ap (λ ls. open_loops xs ++ open_after_end n ls) open_loops-none ∙ append-nil (open_loops xs))
