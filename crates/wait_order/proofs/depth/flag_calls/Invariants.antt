-- The flags are those from before and those of the loud programs that the blocks so far call. A
-- loud program has a wait or an end, or calls one that has. What the loop of `flag_calls` keeps
-- (src/depth.rt).
use Rattle.std.proofs.Common.{◌≡◌, ◌↔◌, ◌⊎◌, ℕ, true, List, length}
use Rattle.block_order.specs.declared.program.ControlProgram.{ControlProgram}
use Rattle.wait_order.specs.Depth.{HasLoudCallBelow}
use Rattle.block_order.specs.ProgramPlaces.{is_flagged}
use Rattle.block_order.specs.Heard.{AreFlagsOf}
use Rattle.wait_order.proofs.depth.flag_calls.Given as goal

abbrev pub invariant-loop-block : goal.invariant-loop-block
invariant-loop-block l =
    (tape : List ControlProgram) → AreFlagsOf tape l.loud → length l.fn.flags ≡ length tape
    → (q : ℕ) → (is_flagged tape l.flags q ≡ true) ↔ ((is_flagged tape l.fn.flags q ≡ true) ⊎ HasLoudCallBelow tape l.blocks l.block-index q)
