-- Where control goes from a place: each move as a function of the place and of the tape. A place is
-- the list of a path's open programs, the running one first. What the variables hold only chooses
-- among the moves.
use Rattle.std.specs.Prelude.{ℕ, zero, suc, ◌-◌, ◌==◌, ◌||◌, nat_lt, List, [], ◌∷◌, length, Option, Some, None, Result, Ok, Err, if◌then◌else◌}
use Rattle.nc_number.specs.declared.cause.Cause.{Cause}
use Rattle.nc_number.specs.declared.cause.Cause.TheVariants.{TooDeep, LoopMismatch}
use Rattle.block_order.specs.declared.frame.Frame.{Frame}
use Rattle.block_order.specs.declared.program.ControlProgram.{ControlProgram}
use Rattle.block_order.specs.Order.{blocks, target_of, end_of_loop, head_of_loop}

-- The frame at another block.
abbrev pub frame_at_block : Frame → ℕ → Frame
frame_at_block f block = record f { block = block }

-- The place with its running frame at another block.
abbrev pub place_at : ℕ → List Frame → List Frame
place_at block [] = []
place_at block (f ∷ stack) = frame_at_block f block ∷ stack

-- The place with its running frame at the next block; a wait is passed by this move.
abbrev pub place_behind : List Frame → List Frame
place_behind [] = []
place_behind (f ∷ stack) = frame_at_block f (suc f.block) ∷ stack

-- The place with its running frame at the block that was found, or the alarm if none was.
abbrev pub place_to : List Frame → Result ℕ Cause → Result (List Frame) Cause
place_to place (Ok block) = Ok (place_at block place)
place_to place (Err cause) = Err cause

-- The place with its running frame at the block to which `target` leads that frame, or its alarm.
abbrev pub place_by : (Frame → Result ℕ Cause) → List Frame → Result (List Frame) Cause
place_by target [] = Ok []
place_by target (f ∷ stack) = place_to (f ∷ stack) (target f)

-- The place behind a jump of the running program to a sequence number, or alarm 50 or 53.
abbrev pub place_of_jump : List ControlProgram → ℕ → List Frame → Result (List Frame) Cause
place_of_jump tape n place = place_by (λ f. target_of (blocks tape f.program) f.block n) place

-- The block behind the END of a loop; cause 52 if there is no END.
abbrev pub behind_end : Option ℕ → Result ℕ Cause
behind_end None = Err LoopMismatch
behind_end (Some close) = Ok (suc close)

-- The place behind the loop whose head is the running block; cause 52 if no loop begins there.
abbrev pub place_behind_loop : List ControlProgram → List Frame → Result (List Frame) Cause
place_behind_loop tape place = place_by (λ f. behind_end (end_of_loop (blocks tape f.program) f.block)) place

-- The head of a loop; cause 52 if there is none.
abbrev pub at_head : Option ℕ → Result ℕ Cause
at_head None = Err LoopMismatch
at_head (Some head) = Ok head

-- The place at the head of the loop whose END is the running block; cause 52 if no loop ends there.
abbrev pub place_of_head : List ControlProgram → List Frame → Result (List Frame) Cause
place_of_head tape place = place_by (λ f. at_head (head_of_loop (blocks tape f.program) f.block)) place

-- The place at the start of a program that runs above these frames, with so many repeats still to
-- come.
abbrev pub place_in : ℕ → ℕ → List Frame → List Frame
place_in program left place = record { program = program; block = 0; left = left } ∷ place

-- The place after a call of a program, to run it so many times; alarm 32 if the call would be the
-- ninth that is open, or would run the program no time.
abbrev pub place_of_call : ℕ → ℕ → List Frame → Result (List Frame) Cause
place_of_call program repeats place =
    if repeats == 0 || nat_lt 8 (length place) then Err TooDeep else Ok (place_in program (repeats - 1) place)

-- The place after a return from a frame with so many repeats left, above these callers.
abbrev pub return_by : ℕ → Frame → List Frame → List Frame
return_by left f [] = frame_at_block f 0 ∷ []
return_by zero f (g ∷ stack) = frame_at_block g (suc g.block) ∷ stack
return_by (suc left) f (g ∷ stack) = place_in f.program left (g ∷ stack)

-- The place after an M99: the start of the main program, the start of the next repeat, or the block
-- behind the call.
abbrev pub place_of_return : List Frame → List Frame
place_of_return [] = []
place_of_return (f ∷ stack) = return_by f.left f stack

-- The place of the caller, at its call; in the main program the place itself.
abbrev pub place_of_caller : List Frame → List Frame
place_of_caller [] = []
place_of_caller (f ∷ []) = f ∷ []
place_of_caller (f ∷ g ∷ stack) = g ∷ stack

-- The place after an M99 with a sequence number: a jump of the caller, whatever repeats are left;
-- in the main program a jump of its own.
abbrev pub place_of_jump_back : List ControlProgram → ℕ → List Frame → Result (List Frame) Cause
place_of_jump_back tape n place = place_of_jump tape n (place_of_caller place)
