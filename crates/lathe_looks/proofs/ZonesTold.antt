-- What is told of a text of zones is told of the file that has it.
-- For the proof of `plan_of_file` (src/zoning.rt).
use Rattle.std.proofs.Common.{◌≡◌, ℕ, List, [], ◌∷◌, Result, Ok, Err}
use Rattle.std.specs.Prelude.{IfOk, IfErr}
use Rattle.nc_outside.specs.Files.{ShelfState}
use Rattle.nc_outside.specs.Written.{SinkState}
use Rattle.zone_cell.specs.declared.plan.Plan.{Plan}
use Rattle.zone_cell.specs.Plans.{plan_of}
use Rattle.lathe_calls.specs.Answers.{Ends}
use Rattle.lathe_calls.proofs.Ended.{ends_by}
use Rattle.lathe_looks.specs.Fetched.{AreHad, IsOfFiles, answers}
use Rattle.lathe_looks.specs.Named.{only_text, zones_named}
use Rattle.lathe_looks.specs.Zoned.{IsPlanOf}
use Rattle.zone_calls.specs.Zoned.{IsUnzoned}

-- What a text asks for is asked for by the file that has it.
pub zones_read : (old new : ShelfState) (name text : List ℕ) (result : Result Plan ℕ) → AreHad old new (zones_named name) (text ∷ [])
    → IfOk result (λ plan. plan_of text ≡ Ok plan) → IfOk result (λ plan. IsPlanOf old new name plan)
zones_read old new name text (Ok plan) had is = record { text = text; had = had; is = is }
zones_read old new name text (Err status) had is = tt

-- What is due to a text of zones that can't be read is due to its file.
pub zones_unread : (old new : ShelfState) (before after : SinkState) (name text : List ℕ) (result : Result Plan ℕ)
    → AreHad old new (zones_named name) (text ∷ [])
    → IfErr result (λ status. Ends (IsUnzoned text) before after status)
    → IfErr result (λ status. Ends (IsOfFiles only_text (zones_named name) (Unit {0}) IsUnzoned old new) before after status)
zones_unread old new before after name text (Ok plan) had ends = tt
zones_unread old new before after name text (Err status) had ends = ends_by status (λ answer is. answers (text ∷ []) had is) ends
