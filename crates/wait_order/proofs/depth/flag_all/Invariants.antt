-- The flags are those from before and those of the loud programs that the reached ones of the
-- programs so far call. A loud program comes to a wait or an end, itself or by its calls.
-- What the loop of `flag_all` keeps (src/depth.rt).
use Rattle.std.proofs.Common.{◌≡◌, ◌↔◌, ◌⊎◌, ℕ, true}
use Rattle.wait_order.specs.Depth.{IsCalledBelow}
use Rattle.block_order.specs.ProgramPlaces.{is_flagged}
use Rattle.wait_order.proofs.depth.flag_all.Given as goal

abbrev pub invariant-loop-program : goal.invariant-loop-program
invariant-loop-program l =
    (q : ℕ) → (is_flagged l.programs l.next q ≡ true)
    ↔ ((is_flagged l.programs l.fn.next q ≡ true) ⊎ IsCalledBelow l.programs l.reached l.program-index q)
