-- No table of G codes has a code past 65,535. For `row_of` (src/dialect.rt), which looks no
-- further.
use Rattle.std.proofs.Common.{◌≡◌, ℕ, ◌<◌, ◌==◌, nat_le, true, false, List, [], ◌∷◌, None, refl, arith}
use Rattle.std.specs.List.{list_all}
use Rattle.std.proofs.lemmas.Bool.{and_parts}
use Rattle.std.proofs.lemmas.Bool.Decides.{nat_tests}
use Rattle.code_tables.specs.declared.row.Row.{Row}
use Rattle.code_tables.specs.declared.system.System.{System}
use Rattle.code_tables.specs.declared.system.System.TheVariants.{A, B}
use Rattle.code_tables.specs.Codes.{row_of}
use Rattle.code_tables.specs.Systems.{rows_of_system}

-- Rows without such a code have no row for it.
none_beyond : (rows : List Row) (code : ℕ) → list_all (λ (row : Row). nat_le row.code 65535) rows ≡ true → 65535 < code
    → row_of rows code ≡ None
none_beyond [] code all beyond = refl
none_beyond (row ∷ rows) code all beyond =
    let parts = and_parts (nat_le row.code 65535) (list_all (λ (r : Row). nat_le r.code 65535) rows) all in
    let rest : row_of rows code ≡ None = none_beyond rows code parts.1 beyond in
    let other : (row.code == code) ≡ false = differs row.code code parts.0 beyond in
    rw other rest
  where
    differs : (own code : ℕ) → nat_le own 65535 ≡ true → 65535 < code → (own == code) ≡ false
    differs own code small beyond = grind (arith, nat_tests)

-- The table of neither system has a row for a code past 65,535.
pub no_row_beyond : (system : System) (code : ℕ) → 65535 < code → row_of (rows_of_system system) code ≡ None
no_row_beyond A code beyond = none_beyond (rows_of_system A) code refl beyond
no_row_beyond B code beyond = none_beyond (rows_of_system B) code refl beyond
