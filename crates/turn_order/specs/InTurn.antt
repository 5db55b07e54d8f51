-- The run of a pair whose paths take turns: its turns, and its records. How it ended is in Ending.
use Rattle.std.specs.Prelude.{◌≡◌, ℕ, zero, suc, ◌≤◌, List, [], ◌∷◌, length, None}
use Rattle.nc_number.specs.declared.path.Path.{Path}
use Rattle.nc_number.specs.declared.path.Path.TheVariants.{One}
use Rattle.nc_number.specs.Path.{other_of}
use Rattle.nc_verify.specs.declared.verified.Verified.{Verified}
use Rattle.run_records.specs.Entries.{Entry}
use Rattle.two_path.specs.Machine.{MachineView}
use Rattle.two_path.specs.Start.{machine_at_start}
use Rattle.two_path.specs.Ending.{end_of}
use Rattle.two_path.specs.Turns.{Tapes, tapes_of}
use Rattle.two_path.specs.Histories.{Event, TurnOf, history, fold}

-- the blocks of both tapes of an accepted pair, as the machine takes them
abbrev pub tapes_in : Verified → Tapes
tapes_in verified = tapes_of verified.left verified.right

-- the machine of an accepted pair before its first turn
abbrev pub start_of : Verified → MachineView
start_of verified = machine_at_start verified.left verified.right verified.settings

-- so many turns, of this path and the other one in turn
abbrev pub in_turn : Path → ℕ → List Event
in_turn path zero = []
in_turn path (suc n) = TurnOf path ∷ in_turn (other_of path) n

-- The records of a run whose paths take turns, from path 1 on: it has no more than so many, and
-- only a run that has ended has fewer.
pub record IsInTurn (tapes : Tapes) (start : MachineView) (limit : ℕ) (entries : List Entry) : Type 0 where
  -- how many turns there were
  pub turns : ℕ
  -- their records are these
  pub records : history tapes start (in_turn One turns) ≡ entries
  -- there are no more than the limit
  pub within : length entries ≤ limit
  -- a run that has not ended has as many as the limit
  pub ended : end_of (fold tapes start entries) ≡ None → length entries ≡ limit
