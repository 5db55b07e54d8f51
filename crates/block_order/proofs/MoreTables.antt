-- The tables of the first programs of a tape, with those of one program more. For the proof of
-- `tape_tables` (src/tables.rt).
use Rattle.std.proofs.Common.{◌≡◌, ◌≢◌, ℕ, ◌+◌, ◌<◌, List, [], ◌∷◌, ◌++◌, length, Some, sym, ap, ◌∙◌, arith, subst, ⊎_elim}
use Rattle.std.specs.List.{slice_get}
use Rattle.std.proofs.lemmas.Bool.{cases_eq}
use Rattle.block_order.specs.declared.program.ControlProgram.{ControlProgram}
use Rattle.block_order.specs.declared.tables.ProgramTables.{ProgramTables}
use Rattle.block_order.specs.TapeTable.{IsProgramTables}
use Rattle.block_order.proofs.NotedEnds.{get-push-here, get-push-other}

-- The first n programs have their tables.
abbrev pub EachTables : List ControlProgram → ℕ → List ProgramTables → Type 0
EachTables tape n tables =
    (i : ℕ) (p : ControlProgram) → i < n → slice_get tape i ≡ Some p
    → (own : ProgramTables) × (slice_get tables i ≡ Some own) × IsProgramTables p.blocks own

-- If the first n programs have their tables, and those of the next one are pushed behind, the first
-- n + 1 have theirs.
pub each-more : (tape : List ControlProgram) (n : ℕ) (tables : List ProgramTables) (p : ControlProgram) (own : ProgramTables)
    → length tables ≡ n → slice_get tape n ≡ Some p → IsProgramTables p.blocks own → EachTables tape n tables
    → EachTables tape (n + 1) (tables ++ own ∷ [])
each-more tape n tables p own long at is each i q l there =
    ⊎_elim
    (λ (same : i ≡ n).
    let e : Some p ≡ Some q = sym at ∙ ap (slice_get tape) (sym same) ∙ there in
    let k : p ≡ q = cc in (
      own,
      get-push-here tables own i (omega arith),
      subst (λ (r : ControlProgram). IsProgramTables r.blocks own) k is,
    ))
    (λ (other : i ≢ n).
    let w = each i q (omega arith) there in
    (w.0, get-push-other tables own i (λ e. other (e ∙ long)) ∙ w.1, w.2))
    (cases_eq i n)
