-- What is told of a text of edits is told of the file that has it.
-- For the proof of `edits_of_file` (src/editing.rt).
use Rattle.std.proofs.Common.{◌≡◌, ℕ, List, [], ◌∷◌, Result, Ok, Err}
use Rattle.std.specs.Prelude.{IfOk, IfErr}
use Rattle.nc_outside.specs.Files.{ShelfState}
use Rattle.nc_outside.specs.Written.{SinkState}
use Rattle.edit_texts.specs.declared.edit_list.PathEdit.{PathEdit}
use Rattle.edit_texts.specs.Edits.{edits_of}
use Rattle.lathe_calls.specs.Answers.{Ends}
use Rattle.lathe_calls.proofs.Ended.{ends_by}
use Rattle.lathe_looks.specs.Edited.{AreEditsOf, IsUnedited}
use Rattle.lathe_looks.specs.Fetched.{AreHad, IsOfFiles, answers}
use Rattle.lathe_looks.specs.Named.{edits_named, only_text}

-- The edits of the text are those of the file that has it.
pub edits_read : (old new : ShelfState) (name text : List ℕ) (result : Result (List PathEdit) ℕ) → AreHad old new (edits_named name) (text ∷ [])
    → IfOk result (λ edits. edits_of text ≡ Ok edits) → IfOk result (λ edits. AreEditsOf old new name edits)
edits_read old new name text (Ok edits) had are = record { text = text; had = had; are = are }
edits_read old new name text (Err status) had are = tt

-- What is due to a text of edits that can't be read is due to its file.
pub edits_unread : (old new : ShelfState) (before after : SinkState) (name text : List ℕ) (result : Result (List PathEdit) ℕ)
    → AreHad old new (edits_named name) (text ∷ [])
    → IfErr result (λ status. Ends (IsUnedited text) before after status)
    → IfErr result (λ status. Ends (IsOfFiles only_text (edits_named name) (Unit {0}) IsUnedited old new) before after status)
edits_unread old new before after name text (Ok edits) had ends = tt
edits_unread old new before after name text (Err status) had ends = ends_by status (λ answer is. answers (text ∷ []) had is) ends
