-- What the worker of a path does at the answers of its stepper: its calls, and what it sends along
-- the drive line (src/worker.rt, src/lane.rt). No other crate cites this file, but the clauses of
-- `run_lane` have `calls_made`, `IsWhole` and `told_at_end`.
use Rattle.std.specs.Prelude.{◌≡◌, ℕ, ◌+◌, List, [], ◌∷◌, ◌++◌, length, map, flat_map, Option, All}
use Rattle.nc_number.specs.declared.path.Path.{Path}
use Rattle.nc_outside.specs.declared.halt.Next.{Next}
use Rattle.nc_outside.specs.declared.halt.Next.TheVariants.{Silent, Moves, Drain, Finished, Halted}
use Rattle.nc_outside.specs.declared.stepper.Call.{Call}
use Rattle.nc_outside.specs.declared.stepper.Call.TheVariants.{Step, Drained}
use Rattle.nc_outside.specs.Calls.{IsCalled, moves_of}
use Rattle.nc_outside.specs.Lined.{lined_moves}
use Rattle.drive_line.specs.declared.item.Item.{Item}
use Rattle.drive_line.specs.declared.item.Item.TheVariants.{Move, Mark, Finish, End}
use Rattle.drive_line.specs.Line.{moves_among}
use Rattle.nc_outside.specs.declared.got.Got.{Got}
use Rattle.nc_outside.specs.declared.got.Got.TheVariants.{Rested}
use Rattle.nc_outside.specs.declared.rest.Rest.TheVariants as rest
use Rattle.path_worker.specs.declared.worker.Why.{Why}

-- what a worker sends at an answer: its moves; at Drain the mark of the wait, which the drive
-- answers once its turret has every move before it and is at rest; if the answer is the last the
-- end, before which it sends that the path has ended if it has
abbrev pub items_at : Next → List Item
items_at Silent = []
items_at (Moves moves) = map Move (lined_moves moves)
items_at (Drain code) = Mark code ∷ []
items_at Finished = Finish ∷ End ∷ []
items_at (Halted why) = End ∷ []

-- the calls beside the step at an answer: at Drain one, that the line of the path was drained
-- behind n moves; at any other answer none
abbrev pub drained_at : Path → ℕ → Next → List Call
drained_at path n (Drain code) = Drained path n ∷ []
drained_at path n _ = []

-- the calls that got these answers, of a worker whose line had n moves: a step each, and at Drain
-- that it was drained
abbrev pub calls_made : Path → ℕ → List Next → List Call
calls_made path n [] = []
calls_made path n (answer ∷ answers) =
    Step path answer ∷ (drained_at path n answer ++ calls_made path (n + length (moves_of answer)) answers)

-- A worker of the path got these answers: its calls, one list before and one after, and the items
-- of its line.
pub record Works (path : Path) (before after : Option (List Call)) (old new : List Item) (answers : List Next) : Type 0 where
  -- the stepper got the calls of these answers
  pub calls : IsCalled before after (calls_made path (length (moves_among old)) answers)
  -- the line got the items of these answers
  pub items : new ≡ old ++ flat_map items_at answers

-- the answer is not the last one of a worker: the path goes on after it
abbrev pub GoesOn : Next → Type 0
GoesOn Finished = ⊥
GoesOn (Halted why) = ⊥
GoesOn _ = Unit {0}

-- the answer is the last one of a worker that ended for this
abbrev pub IsAnswerOf : Next → Why → Type 0
IsAnswerOf answer Why.Finished = answer ≡ Finished
IsAnswerOf answer (Why.Halted why) = answer ≡ Halted why

-- the answers of a whole run of a worker: the path goes on behind each but the last, by which it
-- ended
abbrev pub IsWhole : List Next → Why → Type 0
IsWhole answers why = (before : List Next) × (last : Next) × (answers ≡ before ++ last ∷ []) × All GoesOn before × IsAnswerOf last why

-- what the turret of a path is told last, behind what the steps answered: its rest at the end of the
-- path, unless the run has stopped before
abbrev pub told_at_end : Why → List Got
told_at_end Why.Finished = Rested rest.End ∷ []
told_at_end (Why.Halted why) = []
