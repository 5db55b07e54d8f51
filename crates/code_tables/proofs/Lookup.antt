-- A code has one row at most, and the search finds it. For the proof of `find` (src/table.rt).
use Rattle.std.proofs.Common.{◌≡◌, ◌≢◌, ℕ, zero, suc, ◌<◌, Bool, true, false, ◌&&◌, not, ◌==◌, IsTrue, List, [], ◌∷◌, length, get_or, Option, Some, None, IsNone, IfSome, All, Contains, refl, sym, ◌∙◌, ap, arith}
use Rattle.std.proofs.lemmas.Bool.{eq-eqb, true≢false}
use Rattle.std.proofs.lemmas.Bool.Decides.{nat_tests}
use Rattle.std.proofs.lemmas.List.Elements.{All-head, All-tail}
use Rattle.std.proofs.lemmas.List.Folds.{list_any_at}
use Rattle.std.specs.List.{list_any}
use Rattle.code_tables.specs.declared.row.Row.{Row}
use Rattle.code_tables.specs.Codes.{codes_stand_once, row_of}

-- if no row has the code, it has no row
row_of_none : (rows : List Row) (code : ℕ) → All (λ row. row.code ≢ code) rows → row_of rows code ≡ None
row_of_none [] code none = refl
row_of_none (x ∷ xs) code none =
    let Other : Row → Type 0 = λ row. row.code ≢ code in
    let rest : row_of xs code ≡ None = row_of_none xs code (All-tail Other x xs none) in
    let here : x.code ≢ code = All-head Other x xs none in
    grind (arith, nat_tests)

-- if `not b && c` holds, as `codes_stand_once` says of the first row and of the others, b is false
-- and c holds
once_at_head : (b c : Bool) → IsTrue (not b && c) → (b ≡ false) × IsTrue c
once_at_head true c h = absurd (true≢false (sym h))
once_at_head false c h = (refl, h)

-- the code of the first row is not that of a later one
stands_no_more : (x : Row) (xs : List Row) → IsTrue (codes_stand_once (x ∷ xs)) → (row : Row) (k : ℕ) → k < length xs → get_or xs k row ≡ row → x.code ≢ row.code
stands_no_more x xs once row k lt at same =
    let Same : Row → Bool = λ later. later.code == x.code in
    let none : list_any Same xs ≡ false = (once_at_head _ _ once).0 in
    let hit : Same (get_or xs k row) ≡ true = rw at (eq-eqb row.code x.code (sym same)) in
    true≢false (sym (list_any_at Same xs k row lt hit) ∙ none)

-- the one row that has a code is the row of that code
pub row_of_only : (rows : List Row) (code : ℕ) (row : Row) → IsTrue (codes_stand_once rows) → Contains rows row → row.code ≡ code → row_of rows code ≡ Some row
row_of_only [] code row once has is = absurd (omega (arith, has.1))
row_of_only (x ∷ xs) code row once (zero, lt, at) is =
    let here : (x.code == code) ≡ true = eq-eqb x.code code (ap (λ r. r.code) at ∙ is) in
    rw here (ap Some at)
row_of_only (x ∷ xs) code row once (suc k, lt, at) is =
    let rest : row_of xs code ≡ Some row = row_of_only xs code row (once_at_head _ _ once).1 (k, omega arith, at) is in
    let here : x.code ≢ row.code = stands_no_more x xs once row k (omega arith) at in
    grind (arith, nat_tests)

-- a row that is the code's, or none if no row has the code, is the row of the code
pub row_of_is : (rows : List Row) (code : ℕ) (r : Option Row) → IsTrue (codes_stand_once rows) → IfSome r (λ row. Contains rows row × (row.code ≡ code)) → (IsNone r → All (λ row. row.code ≢ code) rows) → r ≡ row_of rows code
row_of_is rows code None once found none = sym (row_of_none rows code (none refl))
row_of_is rows code (Some row) once found none = sym (row_of_only rows code row once found.0 found.1)
