-- The law for any machine whose moves are steps of the pair: its states are any, and what its
-- blocks do besides is its own. No file rests on this; it shows that the law does not hang on the
-- machine of this repository.
use Rattle.std.proofs.Common.{◌≡◌, List, sym, subst}
use Rattle.block_order.specs.declared.program.ControlProgram.{ControlProgram}
use Rattle.pair_order.specs.Pairs.{Paths, Goes, IsBeginning, IsReached, begun, gone, IsFree}
use Rattle.pair_order.proofs.Meetings.{IsLawfulPair, never_stuck}

-- Some number of steps of the pair, or none, leads there.
pub data Leads (left right : List ControlProgram) (from : Paths) : Paths → Type 0 where
  -- No step leads to where the paths stand.
  stays : (to : Paths) → to ≡ from → Leads left right from to
  -- One step more leads on.
  further : (between to : Paths) → Leads left right from between → Goes left right between to → Leads left right from to

-- A machine each of whose moves is some steps of the pair, or leaves its paths where they were.
pub record Machine (left right : List ControlProgram) : Type 1 where
  -- Its states.
  pub State : Type 0
  -- Which moves it may make.
  pub Moves : State → State → Type 0
  -- Where its two paths stand, and how they met.
  pub paths : State → Paths
  -- Each move is steps of the pair.
  pub lawful : (from to : State) → Moves from to → Leads left right (paths from) (paths to)

-- Some moves of the machine lead from a beginning to the state.
pub data IsRun {left right : List ControlProgram} (m : Machine left right) : m.State → Type 0 where
  -- A beginning is reached by no move.
  starts : (at : m.State) → IsBeginning left right (m.paths at) → IsRun m at
  -- The state behind one move more is reached.
  moved : (from to : m.State) → IsRun m from → m.Moves from to → IsRun m to

-- If steps lead from paths that are reached to others, these are reached.
reached_by : (left right : List ControlProgram) (from to : Paths) → IsReached left right from → Leads left right from to → IsReached left right to
reached_by left right from _ before (stays to same) = subst (λ p. IsReached left right p) (sym same) before
reached_by left right from _ before (further between to leads goes) =
    gone between to (reached_by left right from between before leads) goes

-- The paths of each run of a machine are reached by steps of the pair.
run_reached : (left right : List ControlProgram) (m : Machine left right) (at : m.State) → IsRun m at → IsReached left right (m.paths at)
run_reached left right m _ (starts at begins) = begun (m.paths at) begins
run_reached left right m _ (moved from to before moves) =
    reached_by left right (m.paths from) (m.paths to) (run_reached left right m from before) (m.lawful from to moves)

-- Over two tapes with one list of labels no run of a machine waits in vain.
machine_free : (left right : List ControlProgram) → IsLawfulPair left right → (m : Machine left right) (at : m.State) → IsRun m at
    → IsFree left right (m.paths at)
machine_free left right pair m at run = never_stuck left right pair (m.paths at) (run_reached left right m at run)
