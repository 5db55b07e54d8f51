-- Where control goes behind a block of words, the order of blocks allows: each move of a place (the
-- open programs of a path, each with its block) is a step of it. For ControlledWords.
use Rattle.std.proofs.Common.{◌≡◌, ℕ, inl, inr, List, Option, Some, Result, Ok, Err, refl}
use Rattle.nc_number.specs.declared.cause.Cause.{Cause}
use Rattle.nc_number.specs.declared.value.Var.{Var}
use Rattle.block_order.specs.declared.control.Control.{Control}
use Rattle.block_order.specs.declared.control.Control.TheVariants.{Next, Goto, While, Do, EndLoop, Wait, End, Call, Back, BackTo}
use Rattle.block_order.specs.declared.frame.Frame.{Frame}
use Rattle.block_order.specs.declared.program.ControlProgram.{ControlProgram}
use Rattle.block_order.specs.Moves.{place_of_call, place_of_jump_back}
use Rattle.block_order.specs.Steps.{Step, control_of_place}
use Rattle.path_state.specs.Standing.{Standing, standing_at, with_call, without_call, standing_behind}

-- a standing that a path goes to, if it goes anywhere, is a step of the order from the place
abbrev pub Steps : List ControlProgram → List Frame → Result Standing Cause → Type 0
Steps tape place (Ok to) = Step tape place to.place
Steps tape place (Err cause) = Unit {0}

-- the control is no end of a loop, no wait and no end: behind any other a block of words can be
-- done
abbrev pub Passes : Control → Type 0
Passes (EndLoop name) = ⊥
Passes (Wait code) = ⊥
Passes End = ⊥
Passes _ = Unit {0}

-- if a move of the place is a step, so is the standing that is moved there with its calls and
-- levels
steps_at : (tape : List ControlProgram) (place : List Frame) (s : Standing) (to : Result (List Frame) Cause)
    → ((there : List Frame) → to ≡ Ok there → Step tape place there) → Steps tape place (standing_at s to)
steps_at tape place s (Ok there) step = step there refl
steps_at tape place s (Err cause) step = tt

-- where control leads behind a block of words of such a control is a step of the order
pub behind_steps : (tape : List ControlProgram) (s : Standing) (arguments : Option (List Var)) (c : Control)
    → control_of_place tape s.place ≡ Some c → Passes c → Steps tape s.place (standing_behind tape s arguments c)
behind_steps tape s arguments (Call program repeats) is passes =
    steps_at tape s.place (with_call arguments s) (place_of_call program repeats s.place)
    (λ there e. (Call program repeats, is, e))
behind_steps tape s arguments Back is passes = (Back, is, refl)
behind_steps tape s arguments (BackTo n) is passes =
    steps_at tape s.place (without_call s) (place_of_jump_back tape n s.place) (λ there e. (BackTo n, is, e))
behind_steps tape s arguments Next is passes = (Next, is, refl)
behind_steps tape s arguments (Goto n) is passes = (Goto n, is, inl refl)
behind_steps tape s arguments (While name) is passes = (While name, is, inl refl)
behind_steps tape s arguments (Do name) is passes = (Do name, is, refl)
behind_steps tape s arguments (EndLoop name) is passes = absurd passes
behind_steps tape s arguments (Wait code) is passes = absurd passes
behind_steps tape s arguments End is passes = absurd passes
