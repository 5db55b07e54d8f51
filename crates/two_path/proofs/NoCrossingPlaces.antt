-- No move of control raises the alarm of waits that differ: for NoCrossingStatements and
-- NoCrossingBlocks. `Another alarm` here is each one but that.
use Rattle.std.proofs.Common.{ℕ, ◌-◌, ◌==◌, ◌||◌, nat_lt, List, [], ◌∷◌, length, Option, Some, None, Result, Ok, Err, refl}
use Rattle.nc_number.specs.declared.cause.Cause.{Cause}
use Rattle.nc_number.specs.declared.cause.Cause.TheVariants.{TooDeep, IntoLoop}
use Rattle.nc_number.specs.declared.value.Var.{Var}
use Rattle.block_order.specs.declared.control.Control.{Control}
use Rattle.block_order.specs.declared.control.Control.TheVariants as control
use Rattle.block_order.specs.declared.frame.Frame.{Frame}
use Rattle.block_order.specs.declared.program.ControlBlock.{ControlBlock}
use Rattle.block_order.specs.declared.program.ControlProgram.{ControlProgram}
use Rattle.block_order.specs.Order.{blocks, seek, end_of_loop, head_of_loop, permits, permitted_target, target_of}
use Rattle.block_order.specs.Moves.{place_to, place_by, place_of_jump, behind_end, place_behind_loop, at_head, place_of_head, place_in, place_of_call, place_of_caller, place_of_jump_back}
use Rattle.path_state.specs.Standing.{Standing, standing_at, with_call, without_call, standing_behind}
use Rattle.two_path.proofs.NoCrossing.{IsOtherCause, either}

-- a jump that is not permitted raises another alarm
permitted_other : (bs : List ControlBlock) (block : ℕ) (target : Option ℕ) → IsOtherCause (permitted_target bs block target)
permitted_other bs block None = refl
permitted_other bs block (Some target) =
    either (λ (r : Result ℕ Cause). IsOtherCause r) (permits bs block target) (Ok target) (Err IntoLoop) tt refl

-- the target of a sequence number raises another alarm, if any
target_other : (bs : List ControlBlock) (block n : ℕ) → IsOtherCause (target_of bs block n)
target_other bs block n = permitted_other bs block (seek bs block n)

-- a place that a target gives raises another alarm, if any, if each target does
place_by_other : (target : Frame → Result ℕ Cause) → ((f : Frame) → IsOtherCause (target f)) → (place : List Frame)
    → IsOtherCause (place_by target place)
place_by_other target others [] = tt
place_by_other target others (f ∷ stack) = go (target f) (others f)
  where
    go : (block : Result ℕ Cause) → IsOtherCause block → IsOtherCause (place_to (f ∷ stack) block)
    go (Ok block) other = tt
    go (Err cause) other = other

-- a jump raises another alarm, if any
pub jump_other : (tape : List ControlProgram) (n : ℕ) (place : List Frame) → IsOtherCause (place_of_jump tape n place)
jump_other tape n place =
    place_by_other (λ f. target_of (blocks tape f.program) f.block n)
    (λ f. target_other (blocks tape f.program) f.block n) place

-- the search for the block behind a loop's end raises another alarm, if any
behind_end_other : (end : Option ℕ) → IsOtherCause (behind_end end)
behind_end_other None = refl
behind_end_other (Some close) = tt

-- the way out of a loop raises another alarm, if any
pub exit_other : (tape : List ControlProgram) (place : List Frame) → IsOtherCause (place_behind_loop tape place)
exit_other tape place =
    place_by_other (λ f. behind_end (end_of_loop (blocks tape f.program) f.block))
    (λ f. behind_end_other (end_of_loop (blocks tape f.program) f.block)) place

-- the search for a loop's head raises another alarm, if any
at_head_other : (head : Option ℕ) → IsOtherCause (at_head head)
at_head_other None = refl
at_head_other (Some head) = tt

-- the way back to a loop's head raises another alarm, if any
pub head_other : (tape : List ControlProgram) (place : List Frame) → IsOtherCause (place_of_head tape place)
head_other tape place =
    place_by_other (λ f. at_head (head_of_loop (blocks tape f.program) f.block))
    (λ f. at_head_other (head_of_loop (blocks tape f.program) f.block)) place

-- a call raises another alarm, if any
call_other : (program repeats : ℕ) (place : List Frame) → IsOtherCause (place_of_call program repeats place)
call_other program repeats place =
    either (λ (r : Result (List Frame) Cause). IsOtherCause r) (repeats == 0 || nat_lt 8 (length place)) (Err TooDeep)
    (Ok (place_in program (repeats - 1) place)) refl tt

-- a standing moved to another place raises another alarm, if any, if the place does
standing_at_other : (s : Standing) (to : Result (List Frame) Cause) → IsOtherCause to → IsOtherCause (standing_at s to)
standing_at_other s (Ok there) other = tt
standing_at_other s (Err cause) other = other

-- where control goes behind a block of words raises another alarm, if any
pub behind_other : (tape : List ControlProgram) (s : Standing) (arguments : Option (List Var)) (c : Control)
    → IsOtherCause (standing_behind tape s arguments c)
behind_other tape s arguments (control.Call program repeats) =
    standing_at_other (with_call arguments s) (place_of_call program repeats s.place) (call_other program repeats s.place)
behind_other tape s arguments control.Back = tt
behind_other tape s arguments (control.BackTo n) =
    standing_at_other (without_call s) (place_of_jump_back tape n s.place) (jump_other tape n (place_of_caller s.place))
behind_other tape s arguments _ = tt
