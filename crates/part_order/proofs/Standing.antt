-- After n waits a path stands in part n: the law `each_block_stands_in_its_part` (src/laws.rt). The
-- items of a path's list are its stretches (runs of blocks up to a wait, an end, an M99 without a
-- number or a call that leads to a wait or an end), its waits and its new beginning.
use Rattle.std.proofs.Common.{◌≡◌, ℕ, suc, Bool, true, false, List, [], ◌∷◌, drop, refl, subst, ◌∙◌}
use Rattle.block_order.specs.declared.frame.Frame.{Frame}
use Rattle.block_order.specs.declared.program.ControlProgram.{ControlProgram}
use Rattle.block_order.specs.Order.{blocks}
use Rattle.block_order.specs.Loud.{loud, marks}
use Rattle.block_order.specs.Labels.{room, IsUnforked}
use Rattle.block_order.specs.Steps.{IsPlace, Step}
use Rattle.block_order.proofs.LoudReaches.{are_loud}
use Rattle.block_order.proofs.StepsStay.{step_stays, next_stays}
use Rattle.part_order.specs.Parts.{Follows, first, times, items_of_call, stretch_at, items_after, path_items, IsInPart, listed, called, IsReached, starts, steps, passes, StandsInParts}
use Rattle.part_order.proofs.ItemsAhead.{items_ahead-counts, items_ahead-quiet, stretch_first}
use Rattle.part_order.proofs.KeepsItems.{Stands, goes_stands, passed_stands}

-- If the items ahead of a place follow n waits, its running block is in part n.
in_part : (tape : List ControlProgram) (n : ℕ) (f : Frame) (stack : List Frame) → IsPlace tape (f ∷ stack)
    → Stands tape n (f ∷ stack) → IsInPart tape n f.program f.block
in_part tape n f [] place s =
    let own = stretch_first tape (λ q k. items_of_call tape (room []) q k) f.program (stretch_at tape f.program f.block)
    (drop (stretch_at tape f.program f.block) (marks (loud tape) (blocks tape f.program)))
    (times f.left (λ k. items_of_call tape (suc (room [])) f.program k) (items_after tape [])) in
    listed f.program f.block own.0 (subst (Follows (path_items tape) n) (items_ahead-counts tape f [] refl ∙ own.1) s)
in_part tape n f (g ∷ stack) place s =
    go (loud tape f.program) refl
    (λ e. in_part tape n g stack place.3 (subst (Follows (path_items tape) n) (items_ahead-quiet tape f (g ∷ stack) e) s))
  where
    go : (b : Bool) → loud tape f.program ≡ b → (loud tape f.program ≡ false → IsInPart tape n g.program g.block)
        → IsInPart tape n f.program f.block
    go true e below =
        let own = stretch_first tape (λ q k. items_of_call tape (room (g ∷ stack)) q k) f.program (stretch_at tape f.program f.block)
        (drop (stretch_at tape f.program f.block) (marks (loud tape) (blocks tape f.program)))
        (times f.left (λ k. items_of_call tape (suc (room (g ∷ stack))) f.program k) (items_after tape (g ∷ stack))) in
        listed f.program f.block own.0 (subst (Follows (path_items tape) n) (items_ahead-counts tape f (g ∷ stack) e ∙ own.1) s)
    go false e below = called g.program g.block f.program f.block place.0 (below e) place.1 e

-- A step leads on in the items, past no wait.
step_stands : (tape : List ControlProgram) → IsUnforked tape → (n : ℕ) (from to : List Frame) → IsPlace tape from
    → Step tape from to → Stands tape n from → Stands tape n to
step_stands tape un n [] to place step s = absurd place
step_stands tape un n (f ∷ stack) to place (c, is, goes) s = goes_stands tape (are_loud tape) un n f stack place c is to goes s

-- Wherever a path comes after n waits, it stands in part n.
pub reached_stands : (tape : List ControlProgram) → IsUnforked tape → (n : ℕ) (place : List Frame) → IsReached tape n place
    → IsPlace tape place × Stands tape n place
reached_stands tape un _ _ starts = ((refl, refl), first)
reached_stands tape un _ _ (steps n from to before step) =
    let at = reached_stands tape un n from before in
    (step_stays tape from to at.0 step, step_stands tape un n from to at.0 step at.1)
reached_stands tape un _ _ (passes n code from before is) =
    let at = reached_stands tape un n from before in
    (next_stays tape from at.0, passed_stands tape (are_loud tape) n code from is at.1)

-- The law: each block that a path comes to after n waits is in part n.
pub stands_in_parts : (tape : List ControlProgram) → IsUnforked tape → StandsInParts tape
stands_in_parts tape un n f stack reached =
    let at = reached_stands tape un n (f ∷ stack) reached in in_part tape n f stack at.0 at.1
