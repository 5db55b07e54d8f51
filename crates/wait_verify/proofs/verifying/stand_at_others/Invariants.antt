-- The labels so far are the first ones and those at the positions so far (loop of
-- `stand_at_others`, src/verifying.rt).
use Rattle.std.proofs.Common.{◌≡◌, ℕ, List, Ok}
use Rattle.cell_settings.specs.Cell.{settings_of}
use Rattle.cell_settings.specs.View.{view}
use Rattle.wait_verify.specs.Asked.{question_of}
use Rattle.wait_verify.specs.Verdict.{HasOthers}
use Rattle.wait_verify.proofs.verifying.stand_at_others.Given as goal

abbrev pub invariant-loop-below : goal.invariant-loop-below
invariant-loop-below l =
    (text : List ℕ) → settings_of text ≡ Ok (view l.settings)
    → HasOthers (question_of l.left l.right text l.outside) l.free l.below l.fn.first l.standings.items
