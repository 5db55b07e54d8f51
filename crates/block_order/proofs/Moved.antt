-- What each move of a place comes to, frame by frame. A frame is an open program of a path: its
-- number, its block and its repeats left. For KeepsLabels and StepsStay.
use Rattle.std.proofs.Common.{◌≡◌, ℕ, zero, suc, ◌-◌, ◌<◌, ◌==◌, ◌||◌, Bool, true, false, nat_lt, List, ◌∷◌, length, Option, Some, None, Result, Ok, Err, refl, arith, if◌then◌else◌}
use Rattle.std.proofs.lemmas.Bool.Decides.{nat_tests}
use Rattle.nc_number.specs.declared.cause.Cause.{Cause}
use Rattle.nc_number.specs.declared.cause.Cause.TheVariants.{TooDeep}
use Rattle.block_order.specs.declared.frame.Frame.{Frame}
use Rattle.block_order.specs.declared.program.ControlProgram.{ControlProgram}
use Rattle.block_order.specs.Order.{blocks, IsLoop, Leads, target_of, end_of_loop, head_of_loop}
use Rattle.block_order.specs.Moves.{frame_at_block, place_to, place_by, place_of_jump, behind_end, place_behind_loop, at_head, place_of_head, place_in, place_of_call}
use Rattle.block_order.proofs.Searches.{head_is_of_loop}

-- A move of the running frame leads to the block that is its target and changes no other frame.
moved_to : (target : Frame → Result ℕ Cause) (f : Frame) (stack to : List Frame) → place_by target (f ∷ stack) ≡ Ok to
    → (block : ℕ) × (target f ≡ Ok block) × (to ≡ frame_at_block f block ∷ stack)
moved_to target f stack to e = go (target f) e
  where
    go : (r : Result ℕ Cause) → place_to (f ∷ stack) r ≡ Ok to → (block : ℕ) × (r ≡ Ok block) × (to ≡ frame_at_block f block ∷ stack)
    go (Ok block) e = (block, refl, cc)
    go (Err cause) e = absurd cc

-- A jump leads to a block of the running program, and changes no other frame.
pub jump_leads : (tape : List ControlProgram) (n : ℕ) (f : Frame) (stack to : List Frame)
    → place_of_jump tape n (f ∷ stack) ≡ Ok to
    → (target : ℕ) × Leads (blocks tape f.program) f.block n target × (to ≡ frame_at_block f target ∷ stack)
jump_leads tape n f stack to e =
    moved_to (λ f. target_of (blocks tape f.program) f.block n) f stack to e

-- A loop that is left leads behind its END.
pub exit_leads : (tape : List ControlProgram) (f : Frame) (stack to : List Frame)
    → place_behind_loop tape (f ∷ stack) ≡ Ok to
    → (close : ℕ) × IsLoop (blocks tape f.program) f.block close × (to ≡ frame_at_block f (suc close) ∷ stack)
exit_leads tape f stack to e = go (end_of_loop (blocks tape f.program) f.block) refl e
  where
    go : (o : Option ℕ) → end_of_loop (blocks tape f.program) f.block ≡ o → place_to (f ∷ stack) (behind_end o) ≡ Ok to
        → (close : ℕ) × IsLoop (blocks tape f.program) f.block close × (to ≡ frame_at_block f (suc close) ∷ stack)
    go None is e = absurd cc
    go (Some close) is e = (close, is, cc)

-- An END leads to the head of its loop.
pub head_leads : (tape : List ControlProgram) (f : Frame) (stack to : List Frame) → place_of_head tape (f ∷ stack) ≡ Ok to
    → (head : ℕ) × IsLoop (blocks tape f.program) head f.block × (to ≡ frame_at_block f head ∷ stack)
head_leads tape f stack to e = go (head_of_loop (blocks tape f.program) f.block) refl e
  where
    go : (o : Option ℕ) → head_of_loop (blocks tape f.program) f.block ≡ o → place_to (f ∷ stack) (at_head o) ≡ Ok to
        → (head : ℕ) × IsLoop (blocks tape f.program) head f.block × (to ≡ frame_at_block f head ∷ stack)
    go None is e = absurd cc
    go (Some head) is e = (head, head_is_of_loop (blocks tape f.program) f.block head is, cc)

-- If neither of two tests holds, the second does not.
second_false : (a b : Bool) → (a || b) ≡ false → b ≡ false
second_false true b e = absurd cc
second_false false b e = e

-- A call runs its program at least once, and leaves no more than eight calls open.
pub call_leads : (program repeats : ℕ) (f : Frame) (stack to : List Frame) → place_of_call program repeats (f ∷ stack) ≡ Ok to
    → (more : ℕ) × (repeats ≡ suc more) × (length stack < 8) × (to ≡ place_in program more (f ∷ stack))
call_leads program zero f stack to e = absurd cc
call_leads program (suc more) f stack to e =
    go (suc more - 1) (omega arith) (suc more == 0 || nat_lt 8 (length (f ∷ stack))) refl e
  where
    go : (left : ℕ) → left ≡ more → (deep : Bool) → (suc more == 0 || nat_lt 8 (length (f ∷ stack))) ≡ deep
        → ◌≡◌ {A = Result (List Frame) Cause} (if deep then Err TooDeep else Ok (place_in program left (f ∷ stack))) (Ok to)
        → (left : ℕ) × (suc more ≡ suc left) × (length stack < 8) × (to ≡ place_in program left (f ∷ stack))
    go left one true is e = absurd cc
    go left one false is e =
        let few = second_false (suc more == 0) (nat_lt 8 (length (f ∷ stack))) is in
        (left, omega arith, grind (arith, nat_tests), cc)
