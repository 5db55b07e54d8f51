-- Rows whose codes of the work group all name a work offset leave one of G54 to G59 in force. For
-- the proof of `work_after` (src/modal.rt).
use Rattle.std.proofs.Common.{◌≡◌, ℕ, Bool, true, false, ◌&&◌, ◌||◌, not, ◌==◌, IsTrue, List, [], ◌∷◌, Option, Some, None, IfSome, refl}
use Rattle.code_tables.specs.declared.row.Row.{Row}
use Rattle.code_tables.specs.declared.group.TheConstants.{WORK_GROUP}
use Rattle.code_tables.specs.Codes.{last_of_group, is_work_code, names_work_offsets}
use Rattle.modal_state.specs.Modal.{in_force_after}

-- what `names_work_offsets` says of the first row, where it is of the work group
named_first : (b work rest : Bool) → b ≡ true → IsTrue ((not b || work) && rest) → IsTrue work
named_first true true rest e h = refl
named_first true false rest e h = h
named_first false work rest e h = absurd (cc)

-- if the first row and the rest pass a test, the rest does
named_rest : (first rest : Bool) → IsTrue (first && rest) → IsTrue rest
named_rest true rest h = h
named_rest false rest h = absurd (cc)

-- the last row of the work group names a work offset
last_is_named : (rows : List Row) → IsTrue (names_work_offsets rows) → IfSome (last_of_group rows WORK_GROUP) (λ row. IsTrue (is_work_code row.code))
last_is_named [] named = tt
last_is_named (x ∷ xs) named = go (x.group == WORK_GROUP) refl (last_of_group xs WORK_GROUP) refl (last_is_named xs (named_rest _ _ named))
  where
    go : (b : Bool) → (x.group == WORK_GROUP) ≡ b → (later : Option Row) → last_of_group xs WORK_GROUP ≡ later → IfSome later (λ row. IsTrue (is_work_code row.code)) → IfSome (last_of_group (x ∷ xs) WORK_GROUP) (λ row. IsTrue (is_work_code row.code))
    go true e None l found = rw (e, l) (named_first (x.group == WORK_GROUP) (is_work_code x.code) _ e named)
    go true e (Some row) l found = rw (e, l) found
    go false e None l found = rw (e, l) tt
    go false e (Some row) l found = rw (e, l) found

-- the code of the work group in force after such rows is one of G54 to G59
pub in_force_is_work : (rows : List Row) (before : ℕ) → IsTrue (names_work_offsets rows) → IsTrue (is_work_code before) → IsTrue (is_work_code (in_force_after rows WORK_GROUP before))
in_force_is_work rows before named work = go (last_of_group rows WORK_GROUP) refl (last_is_named rows named)
  where
    go : (last : Option Row) → last_of_group rows WORK_GROUP ≡ last → IfSome last (λ row. IsTrue (is_work_code row.code)) → IsTrue (is_work_code (in_force_after rows WORK_GROUP before))
    go None l found = rw l work
    go (Some row) l found = rw l found
