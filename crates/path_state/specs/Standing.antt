-- Where a path stands: its place, with its calls and their levels of local variables; and where it
-- stands behind a block of words. block_order says where control may go; calls and levels are added
-- here. Effect is built on it.
use Rattle.std.specs.Prelude.{◌≡◌, ℕ, zero, suc, ◌+◌, List, [], ◌∷◌, length, Option, Some, None, Result, Ok, Err}
use Rattle.nc_number.specs.declared.cause.Cause.{Cause}
use Rattle.nc_number.specs.declared.value.Var.{Var}
use Rattle.block_forms.specs.declared.called.CallKind.{CallKind}
use Rattle.block_forms.specs.declared.called.CallKind.TheVariants.{Macro, Subprogram}
use Rattle.block_order.specs.declared.control.Control.{Control}
use Rattle.block_order.specs.declared.control.Control.TheVariants.{Call, Back, BackTo}
use Rattle.block_order.specs.declared.frame.Frame.{Frame}
use Rattle.block_order.specs.declared.program.ControlProgram.{ControlProgram}
use Rattle.block_order.specs.Moves.{place_behind, place_of_call, place_of_return, place_of_jump_back}
use Rattle.local_levels.specs.declared.stack.Level.{Level}
use Rattle.local_levels.specs.Stack.{opened_level, reopened_stack, stack_below}
use Rattle.path_state.specs.View.{PathView}

-- a place, with what belongs to its open calls
pub record Standing : Type 0 where
  -- the open programs, the running one first
  pub place : List Frame
  -- for each open call, the latest first, whether it is that of a macro or of a subprogram
  pub calls : List CallKind
  -- the levels of local variables, the running one first
  pub levels : List Level

-- where a path stands
abbrev pub standing_of : PathView → Standing
standing_of path = record { place = path.place; calls = path.calls; levels = path.levels }

-- the path, standing elsewhere
abbrev pub with_standing : PathView → Standing → PathView
with_standing path standing = record path { place = standing.place; calls = standing.calls; levels = standing.levels }

-- a standing moved to another place, with the same calls
abbrev pub standing_moved : Standing → List Frame → Standing
standing_moved standing place = record standing { place = place }

-- a standing moved to another place, or the cause for which there is none
abbrev pub standing_at : Standing → Result (List Frame) Cause → Result Standing Cause
standing_at standing (Ok place) = Ok (standing_moved standing place)
standing_at standing (Err cause) = Err cause

-- the kind of a call: one with arguments is that of a macro
abbrev pub kind_with : Option (List Var) → CallKind
kind_with None = Subprogram
kind_with (Some arguments) = Macro

-- the levels in the called program: a macro gets one more, which holds its arguments
abbrev pub levels_with : Option (List Var) → List Level → List Level
levels_with None levels = levels
levels_with (Some arguments) levels = opened_level arguments ∷ levels

-- a standing with one call more, of a macro if it has arguments; the place is as it was
abbrev pub with_call : Option (List Var) → Standing → Standing
with_call arguments standing =
    record standing { calls = kind_with arguments ∷ standing.calls; levels = levels_with arguments standing.levels }

-- the open calls without the latest
abbrev pub calls_below : List CallKind → List CallKind
calls_below [] = []
calls_below (call ∷ calls) = calls

-- the levels behind the end of the latest call: one less if it is that of a macro
abbrev pub levels_below : List CallKind → List Level → List Level
levels_below (Macro ∷ calls) levels = stack_below levels
levels_below _ levels = levels

-- a standing without its latest call, and without the level of that call if it is of a macro
abbrev pub without_call : Standing → Standing
without_call standing =
    record standing { calls = calls_below standing.calls; levels = levels_below standing.calls standing.levels }

-- the levels as the latest call begins once more: that of a macro is opened anew with its arguments
abbrev pub levels_anew : List CallKind → List Level → List Level
levels_anew (Macro ∷ calls) levels = reopened_stack levels
levels_anew _ levels = levels

-- a standing whose latest call begins once more; the place is as it was
abbrev pub with_repeat : Standing → Standing
with_repeat standing = record standing { levels = levels_anew standing.calls standing.levels }

-- a standing behind a return with so many repeats left: the call begins once more, or is gone if
-- none is left
abbrev pub behind_return : ℕ → Standing → Standing
behind_return zero standing = without_call standing
behind_return (suc left) standing = with_repeat standing

-- how often the running program is still to be repeated
abbrev pub repeats_left : List Frame → ℕ
repeats_left [] = 0
repeats_left (f ∷ stack) = f.left

-- where a call of a program, to run it so many times, leads; a macro call has its arguments
abbrev pub standing_of_call : Option (List Var) → ℕ → ℕ → Standing → Result Standing Cause
standing_of_call arguments program repeats standing =
    standing_at (with_call arguments standing) (place_of_call program repeats standing.place)

-- where M99 leads
abbrev pub standing_of_return : Standing → Standing
standing_of_return standing =
    standing_moved (behind_return (repeats_left standing.place) standing) (place_of_return standing.place)

-- where a block of words of this control leads, or the cause for which it leads nowhere
abbrev pub standing_behind : List ControlProgram → Standing → Option (List Var) → Control → Result Standing Cause
standing_behind tape standing arguments (Call program repeats) = standing_of_call arguments program repeats standing
standing_behind tape standing arguments Back = Ok (standing_of_return standing)
standing_behind tape standing arguments (BackTo n) =
    standing_at (without_call standing) (place_of_jump_back tape n standing.place)
standing_behind tape standing arguments other = Ok (standing_moved standing (place_behind standing.place))

-- how many of these calls are calls of macros
abbrev pub macros : List CallKind → ℕ
macros [] = 0
macros (Macro ∷ calls) = suc (macros calls)
macros (Subprogram ∷ calls) = macros calls

-- calls and levels match the place: each frame but the main program's has its kind of call, and
-- each call of a macro its level above the base level
pub record IsMatched (standing : Standing) : Type 0 where
  pub calls : length standing.calls + 1 ≡ length standing.place
  pub levels : macros standing.calls + 1 ≡ length standing.levels
