-- The record of an edit that is read, or why its numbers are none. For the proof of `take_edit`
-- (src/reading.rt).
use Rattle.std.proofs.Common.{◌≡◌, ℕ, List, ◌∷◌, ◌++◌, drop, sym, ◌∙◌, ap, Some}
use Rattle.nc_number.specs.Path.{number_of}
use Rattle.nc_number.specs.declared.path.Path.{Path}
use Rattle.run_records.specs.declared.edit.Edit.{Edit}
use Rattle.run_records.specs.declared.numbers.EditNumbers.{EditNumbers}
use Rattle.run_records.specs.Edits.{numbers_of, edit_with}
use Rattle.run_records.specs.Spelling.{numbers_bytes}
use Rattle.run_records.proofs.EditsSpelled.{edit_back}

-- an edit spells the bytes that its numbers were read from
pub edit_spells : (path : Path) (numbers : EditNumbers) (edit : Edit) (bytes : List ℕ) → edit_with numbers ≡ Some edit → numbers_bytes numbers ++ drop 19 bytes ≡ bytes
    → number_of path ∷ 6 ∷ bytes ≡ number_of path ∷ 6 ∷ (numbers_bytes (numbers_of edit) ++ drop 19 bytes)
edit_spells path numbers edit bytes is read =
    ap (λ (l : List ℕ). number_of path ∷ 6 ∷ l) (sym (ap (λ n. numbers_bytes n ++ drop 19 bytes) (edit_back numbers edit is).0 ∙ read))
