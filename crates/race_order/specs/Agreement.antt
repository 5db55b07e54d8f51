-- When two runs of a machine come to the same, whichever path had which turn: what the law of
-- src/laws.rt says of pairs without a race.
use Rattle.std.specs.Prelude.{◌≡◌, ◌⊎◌, ℕ, Bool, true, List, [], ◌∷◌, ◌++◌}
use Rattle.nc_number.specs.declared.path.Path.{Path}
use Rattle.nc_number.specs.declared.path.Path.TheVariants.{One, Two}
use Rattle.nc_number.specs.Both.{both_of}
use Rattle.nc_moves.specs.declared.motion.Moves.{Moves}
use Rattle.common_vars.specs.declared.links.Write.{Write}
use Rattle.common_vars.specs.Writes.{value_after}
use Rattle.block_order.specs.Labels.{start}
use Rattle.tape_flow.specs.declared.flow.Flow.{Flow}
use Rattle.path_state.specs.View.{PathView}
use Rattle.path_state.specs.Looks.{is_shared}
use Rattle.path_state.specs.Statements.{Write as Written}
use Rattle.two_path.specs.declared.turn.Turn.{Turn}
use Rattle.two_path.specs.declared.turn.Turn.TheVariants as turn
use Rattle.two_path.specs.Machine.{Part, MachineView, opening}
use Rattle.two_path.specs.Turns.{Tapes, TurnResult, tapes_of, turn_of}
use Rattle.two_path.specs.Histories.{run, turns_of}
use Rattle.race_order.specs.Races.{HasNoRace}

-- a thing that a path does in a run, as turrets and zones see it
pub data Deed : Type 0 where
  -- it makes the moves of a block
  Makes : (moves : Moves) → Deed
  -- it passes a wait of this code, as the other path does, and goes on from here
  Meets : (code : ℕ) → (from : PathView) → Deed

-- what the path does whose turn it is, and which goes on from here
abbrev pub own_deeds : Turn → PathView → List Deed
own_deeds (turn.Did moves) from = Makes moves ∷ []
own_deeds (turn.Ended moves) from = Makes moves ∷ []
own_deeds (turn.Read variable stamp) from = []
own_deeds (turn.Arrived code) from = []
own_deeds (turn.Met code) from = Meets code from ∷ []
own_deeds (turn.Waiting code) from = []
own_deeds turn.Finished from = []
own_deeds (turn.Alarm alarm) from = []
own_deeds (turn.Halted alarm) from = []
own_deeds turn.Edited from = []

-- what a path does in a turn of the other, from which it goes on here: it passes its wait if they
-- meet
abbrev pub other_deeds : Turn → PathView → List Deed
other_deeds (turn.Met code) from = Meets code from ∷ []
other_deeds (turn.Did moves) from = []
other_deeds (turn.Ended moves) from = []
other_deeds (turn.Read variable stamp) from = []
other_deeds (turn.Arrived code) from = []
other_deeds (turn.Waiting code) from = []
other_deeds turn.Finished from = []
other_deeds (turn.Alarm alarm) from = []
other_deeds (turn.Halted alarm) from = []
other_deeds turn.Edited from = []

-- what a turn of a path adds to what the path `who` does
abbrev pub turn_deeds : Path → Path → TurnResult → List Deed
turn_deeds One One r = own_deeds r.turn r.machine.paths.one.path
turn_deeds Two Two r = own_deeds r.turn r.machine.paths.two.path
turn_deeds One Two r = other_deeds r.turn r.machine.paths.one.path
turn_deeds Two One r = other_deeds r.turn r.machine.paths.two.path

-- what a path does in a run of these turns: its moves, and each meeting where it lies among them
abbrev pub deeds_by : Tapes → Path → MachineView → List Path → List Deed
deeds_by tapes who m [] = []
deeds_by tapes who m (path ∷ turns) =
    turn_deeds who path (turn_of tapes path m) ++ deeds_by tapes who (turn_of tapes path m).machine turns

-- the moves among what a path does
abbrev pub moves_among : List Deed → List Moves
moves_among [] = []
moves_among (Makes moves ∷ deeds) = moves ∷ moves_among deeds
moves_among (Meets code from ∷ deeds) = moves_among deeds

-- the moves of a path in a run of these turns
abbrev pub moves_by : Tapes → Path → MachineView → List Path → List Moves
moves_by tapes who m turns = moves_among (deeds_by tapes who m turns)

-- the list begins with these
abbrev pub BeginsWith : {A : Type 0} → List A → List A → Type 0
BeginsWith {A} front whole = (rest : List A) × (whole ≡ front ++ rest)

-- one of the two lists begins with the other
abbrev pub AreAlike : {A : Type 0} → List A → List A → Type 0
AreAlike one other = BeginsWith one other ⊎ BeginsWith other one

-- both paths have ended
pub record AreDone (m : MachineView) : Type 0 where
  pub first : m.paths.one.finished ≡ true
  pub second : m.paths.two.finished ≡ true

-- a path in the machine but for the numbers of records that it holds
abbrev pub unstamped_part : Part → Part
unstamped_part part = record part { stamps = []; since = 0 }

-- the machine but for the writes to shared variables, and for the numbers of records that paths
-- hold
abbrev pub but_for_order : MachineView → MachineView
but_for_order m = record m { paths = both_of unstamped_part m.paths; writes = [] }

-- these writes are those of the first path and those of the second, each in their order
pub data AreMixed : List Written → List Written → List Write → Type 0 where
  -- neither path wrote
  none : AreMixed [] [] []
  -- the last write is one of the first path
  one : (mine yours : List Written) (writes : List Write) (stamp : ℕ) (w : Written) → AreMixed mine yours writes
      → AreMixed (mine ++ w ∷ []) yours (writes ++ record { stamp = stamp; variable = w.variable; value = w.value } ∷ [])
  -- the last write is one of the second path
  two : (mine yours : List Written) (writes : List Write) (stamp : ℕ) (w : Written) → AreMixed mine yours writes
      → AreMixed mine (yours ++ w ∷ []) (writes ++ record { stamp = stamp; variable = w.variable; value = w.value } ∷ [])

-- The runs of two lists of turns come to the same.
pub record Agree (tapes : Tapes) (start : MachineView) (turns others : List Path) : Type 0 where
  -- they lead to one machine, but for the order of its records and their numbers
  pub machine : but_for_order (run tapes start (turns_of turns)) ≡ but_for_order (run tapes start (turns_of others))
  -- each path did the same, its moves and its meetings in order
  pub deeds : (who : Path) → deeds_by tapes who start turns ≡ deeds_by tapes who start others
  -- each path made the same moves
  pub first_moves : moves_by tapes One start turns ≡ moves_by tapes One start others
  pub second_moves : moves_by tapes Two start turns ≡ moves_by tapes Two start others
  -- each path wrote the same to shared variables, in the same order
  pub first_writes : List Written
  pub second_writes : List Written
  pub written : AreMixed first_writes second_writes (run tapes start (turns_of turns)).writes
  pub also_written : AreMixed first_writes second_writes (run tapes start (turns_of others)).writes
  -- each shared variable has the same value in the end
  pub values : (v : ℕ) → value_after (run tapes start (turns_of turns)).count v (run tapes start (turns_of turns)).writes
      ≡ value_after (run tapes start (turns_of others)).count v (run tapes start (turns_of others)).writes

-- the path is at the start of its flow, and `shared` tells which variables it shares with the other
pub record IsBeginning (flow : Flow) (shared : ℕ → Bool) (path : PathView) : Type 0 where
  pub place : path.place ≡ start flow.order
  pub shares : (v : ℕ) → is_shared path.fixed v ≡ shared v

-- If there is no race, all runs of turns that finish come to the same, whichever path has which
-- turn. An operator's edit is no turn, so no run with one is meant.
abbrev pub RaceFreeRunsAgree : Flow → Flow → Type 0
RaceFreeRunsAgree left right =
    (shared : ℕ → Bool) → HasNoRace shared left right
    → (first second : PathView) → IsBeginning left shared first → IsBeginning right shared second
    → (turns others : List Path)
    → AreDone (run (tapes_of left right) (opening first second) (turns_of turns))
    → AreDone (run (tapes_of left right) (opening first second) (turns_of others))
    → Agree (tapes_of left right) (opening first second) turns others

-- In the runs of two lists of turns each path does the same, as far as the shorter goes: what it does
-- in one run is how it begins in the other.
abbrev pub GoAlike : Tapes → MachineView → List Path → List Path → Type 0
GoAlike tapes start turns others = (who : Path) → AreAlike (deeds_by tapes who start turns) (deeds_by tapes who start others)

-- If there is no race, all runs of turns go alike, those too that stop early, end by an alarm, or
-- could go on for ever: between one meeting and the next each path makes the same moves in each run
-- that comes to the next, and a front of them in each that does not.
abbrev pub RaceFreeRunsGoAlike : Flow → Flow → Type 0
RaceFreeRunsGoAlike left right =
    (shared : ℕ → Bool) → HasNoRace shared left right
    → (first second : PathView) → IsBeginning left shared first → IsBeginning right shared second
    → (turns others : List Path) → GoAlike (tapes_of left right) (opening first second) turns others
