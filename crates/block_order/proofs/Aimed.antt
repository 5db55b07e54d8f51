-- That the first fault of the first stage that has one is the tape's, and that the tables of a
-- program are found at its place. For the proofs of src/draft.rt and src/order.rt.
use Rattle.std.proofs.Common.{◌≡◌, ℕ, zero, suc, ◌<◌, [], ◌∷◌, List, length, Option, Some, slice_get, slice_index_or, refl, subst, sym, ◌∙◌, arith}
use Rattle.block_order.specs.declared.fault.OrderFault.{OrderFault}
use Rattle.block_order.specs.declared.program.ControlProgram.{ControlProgram}
use Rattle.block_order.specs.Faults.{Stage, IsFirst, IsClearBefore}
use Rattle.block_order.specs.First.{IsFirstOf}
use Rattle.block_order.specs.declared.tables.ProgramTables.{ProgramTables}
use Rattle.block_order.specs.Order.{blocks}
use Rattle.block_order.specs.ProgramPlaces.{place_of}
use Rattle.block_order.specs.TapeTable.{IsProgramTables, IsTapeTables}
use Rattle.block_order.proofs.Programs.{stands, blocks_there, place_within}

-- If the stages before are clear, the first fault of a stage is the first fault of the tape.
pub first_of : (tape : List ControlProgram) (stage : Stage) (o : Option OrderFault) (fault : OrderFault) → IsClearBefore tape stage
    → IsFirstOf tape stage o → o ≡ Some fault → IsFirst tape fault.line fault.cause
first_of tape stage o fault before first is =
    let f : IsFirstOf tape stage (Some fault) = subst (IsFirstOf tape stage) is first in
    record { stage = stage; before = before; holds = f.0; least = f.1 }

-- Below a list's length there is an entry.
item_at : {X : Type 0} (xs : List X) (i : ℕ) → i < length xs → (x : X) × (slice_get xs i ≡ Some x)
item_at [] i within = absurd (omega (arith, within))
item_at (x ∷ xs) zero within = (x, refl)
item_at (x ∷ xs) (suc i) within = item_at xs i (omega (arith, within))

-- The tables of a program stand at its place.
pub tables_there : (tape : List ControlProgram) (tables : List ProgramTables) (q i : ℕ) → IsTapeTables tape tables → Some i ≡ place_of tape q
    → (own : ProgramTables) × (slice_get tables i ≡ Some own) × IsProgramTables (blocks tape q) own
tables_there tape tables q i are e =
    let within = place_within tape q i e in
    let stood = item_at tape i within in
    let p : ControlProgram = stood.0 in
    let at : ◌≡◌ {A = Option ControlProgram} (Some p) (Some (slice_index_or tape i p)) = sym stood.1 ∙ stands tape i p within in
    let is : p ≡ slice_index_or tape i p = cc in
    let found = are.each i p stood.1 in
    (found.0, found.1, subst (λ bs. IsProgramTables bs found.0) (blocks_there tape q i p e within is) found.2)

-- The place of a program lies within the tables.
pub tables_within : (tape : List ControlProgram) (tables : List ProgramTables) (q i : ℕ) → IsTapeTables tape tables → Some i ≡ place_of tape q
    → i < length tables
tables_within tape tables q i are e = omega (arith, place_within tape q i e, are.long)
