-- Of several rows of one group the last one counts: for `last_of_group` (src/row.rt) and
-- `group_last` (src/table.rt).
use Rattle.std.proofs.Common.{◌≡◌, ◌≢◌, ℕ, ◌+◌, ◌<◌, Bool, true, false, cond, ◌==◌, List, [], ◌∷◌, ◌++◌, length, get_or, take, Option, Some, None, unwrap_or, IsNone, IfSome, All, Contains, filter, ◌↔◌, append-nil, refl, sym, ◌∙◌, ap, arith}
use Rattle.std.specs.Option.{option_map}
use Rattle.std.proofs.lemmas.Bool.{true≢false, eq-eqb}
use Rattle.std.proofs.lemmas.List.Elements.{All-nil, All-cons, All-head, All-tail, filter-append, filter_map-append, Contains-append_right, All-weaker}
use Rattle.std.proofs.lemmas.List.{take_more}
use Rattle.std.proofs.lemmas.Bool.Decides.{nat_tests}
use Rattle.std.specs.List.{filter_map}
use Rattle.code_tables.specs.declared.row.Row.{Row}
use Rattle.code_tables.specs.Codes.{row_of, rows_of, is_of_group, last_of, last_of_group}

-- the last item of a list with one more at its end is that one
pub last_of_push : {X : Type 0} (xs : List X) (x : X) → last_of (xs ++ x ∷ []) ≡ Some x
last_of_push [] x = refl
last_of_push (y ∷ ys) x = rw (last_of_push ys x) refl

-- with one row more, the last of a group is that row if it is of the group, else the last before
last_of_group_push : (rows : List Row) (row : Row) (group : ℕ) → last_of_group (rows ++ row ∷ []) group ≡ cond (row.group == group) (Some row) (last_of_group rows group)
last_of_group_push rows row group =
    rw (filter-append (λ (r : Row). r.group == group) rows (row ∷ [])) (go (row.group == group) (filter (λ (r : Row). r.group == group) rows))
  where
    go : (b : Bool) (before : List Row) → last_of (before ++ cond b (row ∷ []) []) ≡ cond b (Some row) (last_of before)
    go true before = last_of_push before row
    go false before = ap last_of (append-nil before)

-- of the first i + 1 rows, the last of a group is the one at i or the last of those before
pub last_of_group_more : (rows : List Row) (i group : ℕ) (d : Row) → i < length rows → last_of_group (take (i + 1) rows) group ≡ cond ((get_or rows i d).group == group) (Some (get_or rows i d)) (last_of_group (take i rows) group)
last_of_group_more rows i group d lt =
    rw (take_more rows i d lt) (last_of_group_push (take i rows) (get_or rows i d) group)

-- the rows of the first i + 1 codes are those of the first i, and the row of the code at i
rows_of_more : (rows : List Row) (codes : List ℕ) (i : ℕ) → i < length codes → rows_of rows (take (i + 1) codes) ≡ rows_of rows (take i codes) ++ filter_map (row_of rows) (get_or codes i 0 ∷ [])
rows_of_more rows codes i lt = rw (take_more codes i 0 lt) (filter_map-append (row_of rows) (take i codes) (get_or codes i 0 ∷ []))

-- with one code more that has a row, the last of a group is that row if it is of the group, else
-- the last before
pub last_code_more : (rows : List Row) (codes : List ℕ) (i group : ℕ) (row : Row) → i < length codes → row_of rows (get_or codes i 0) ≡ Some row → last_of_group (rows_of rows (take (i + 1) codes)) group ≡ cond (row.group == group) (Some row) (last_of_group (rows_of rows (take i codes)) group)
last_code_more rows codes i group row lt at =
    rw (rows_of_more rows codes i lt, at) (last_of_group_push (rows_of rows (take i codes)) row group)

-- one code more that has no row leaves the last of a group as it is
pub last_code_kept : (rows : List Row) (codes : List ℕ) (i group : ℕ) → i < length codes → row_of rows (get_or codes i 0) ≡ None → last_of_group (rows_of rows (take (i + 1) codes)) group ≡ last_of_group (rows_of rows (take i codes)) group
last_code_kept rows codes i group lt at =
    rw (rows_of_more rows codes i lt, at) (ap (λ rs. last_of_group rs group) (append-nil (rows_of rows (take i codes))))

-- the last row of a group is one of the rows, and of the group
pub last_is_found : (rows : List Row) (group : ℕ) → IfSome (last_of_group rows group) (λ row. Contains rows row × (row.group ≡ group))
last_is_found [] group = tt
last_is_found (x ∷ xs) group = go (x.group == group) refl (last_of_group xs group) refl (last_is_found xs group)
  where
    go : (b : Bool) → (x.group == group) ≡ b → (later : Option Row) → last_of_group xs group ≡ later → IfSome later (λ row. Contains xs row × (row.group ≡ group)) → IfSome (last_of_group (x ∷ xs) group) (λ row. Contains (x ∷ xs) row × (row.group ≡ group))
    go true e None l found =
        let same : x.group ≡ group = grind (arith, nat_tests) in
        rw (e, l) ((0, omega arith, refl), same)
    go true e (Some row) l found = rw (e, l) (Contains-append_right (x ∷ []) xs row found.0, found.1)
    go false e None l found = rw (e, l) tt
    go false e (Some row) l found = rw (e, l) (Contains-append_right (x ∷ []) xs row found.0, found.1)

-- if there is no last one that passes, no item passes
none_of_filter : {X : Type 0} (p : X → Bool) (xs : List X) → IsNone (last_of (filter p xs)) → All (λ x. p x ≡ false) xs
none_of_filter p [] none = All-nil (λ x. p x ≡ false)
none_of_filter {X} p (x ∷ xs) none = go (p x) refl (none_of_filter p xs)
  where
    go : (b : Bool) → p x ≡ b → (IsNone (last_of (filter p xs)) → All (λ x. p x ≡ false) xs) → All (λ x. p x ≡ false) (x ∷ xs)
    go true e rest = let some : IsNone (last_of (cond true (x ∷ filter p xs) (filter p xs))) = rw e at none in absurd (cc)
    go false e rest = All-cons (λ x. p x ≡ false) x xs e (rest (rw e at none))

-- if no item passes, there is no last one that passes
all_fail_filter : {X : Type 0} (p : X → Bool) (xs : List X) → All (λ x. p x ≡ false) xs → IsNone (last_of (filter p xs))
all_fail_filter p [] all = refl
all_fail_filter {X} p (x ∷ xs) all =
    let Fails : X → Type 0 = λ x. p x ≡ false in
    rw (All-head Fails x xs all) (all_fail_filter p xs (All-tail Fails x xs all))

-- there is no last one that passes exactly if no item passes
pub last_of_filter_none : {X : Type 0} (p : X → Bool) (xs : List X) → IsNone (last_of (filter p xs)) ↔ All (λ x. p x ≡ false) xs
last_of_filter_none p xs = (none_of_filter p xs, all_fail_filter p xs)

-- there is no last row of a group exactly if no row is of the group
pub last_is_none : (rows : List Row) (group : ℕ) → IsNone (last_of_group rows group) ↔ All (λ row. row.group ≢ group) rows
last_is_none rows group =
    let Is : Row → Bool = λ row. row.group == group in (
      λ none. All-weaker (λ row. Is row ≡ false) (λ row. row.group ≢ group) (λ row e same. true≢false (sym (eq-eqb row.group group same) ∙ e)) rows (none_of_filter Is rows none),
      λ all. all_fail_filter Is rows (All-weaker (λ row. row.group ≢ group) (λ row. Is row ≡ false) (λ row other. grind (arith, nat_tests)) rows all),
    )

-- a row that a code has is of that code
row_of_has : (rows : List Row) (code : ℕ) (row : Row) → row_of rows code ≡ Some row → row.code ≡ code
row_of_has [] code row at = absurd (cc)
row_of_has (x ∷ xs) code row at = go (x.code == code) refl (row_of_has xs code row)
  where
    go : (b : Bool) → (x.code == code) ≡ b → (row_of xs code ≡ Some row → row.code ≡ code) → row.code ≡ code
    go true e rest =
        let same : x.code ≡ code = grind (arith, nat_tests) in
        let here : Some x ≡ Some row = rw e at at in
        let is : x ≡ row = cc in
        rw (← is) same
    go false e rest = rest (rw e at at)

-- if the last row and the last code agree, they still do with a row and its code before them
last_code_cons : (row : Row) (code : ℕ) (b : Bool) (rows : List Row) (codes : List ℕ) → row.code ≡ code → option_map (λ (r : Row). r.code) (last_of rows) ≡ last_of codes → option_map (λ (r : Row). r.code) (last_of (cond b (row ∷ rows) rows)) ≡ last_of (cond b (code ∷ codes) codes)
last_code_cons row code false rows codes same rest = rest
last_code_cons row code true rows codes same rest = rw (← rest) (go (last_of rows))
  where
    go : (later : Option Row) → Some (unwrap_or later row).code ≡ Some (unwrap_or (option_map (λ (r : Row). r.code) later) code)
    go None = ap Some same
    go (Some r) = refl

-- the code of the last row is the last of the codes whose row is of the group
pub last_code_is : (rows : List Row) (codes : List ℕ) (group : ℕ) → option_map (λ (row : Row). row.code) (last_of_group (rows_of rows codes) group) ≡ last_of (filter (is_of_group rows group) codes)
last_code_is rows [] group = refl
last_code_is rows (c ∷ cs) group = go (row_of rows c) refl (last_code_is rows cs group)
  where
    go : (here : Option Row) → row_of rows c ≡ here → option_map (λ (row : Row). row.code) (last_of_group (rows_of rows cs) group) ≡ last_of (filter (is_of_group rows group) cs) → option_map (λ (row : Row). row.code) (last_of_group (rows_of rows (c ∷ cs)) group) ≡ last_of (filter (is_of_group rows group) (c ∷ cs))
    go None e rest = rw e rest
    go (Some row) e rest = rw e (last_code_cons row c (row.group == group) (filter (λ (r : Row). r.group == group) (rows_of rows cs)) (filter (is_of_group rows group) cs) (row_of_has rows c row e) rest)
