-- A run over stops and restarts: what each restart finds in the journal, and what a stop leaves of
-- it. The law `restarts_make_one_history` (src/laws.rt) is said by it.
use Rattle.std.specs.Prelude.{◌≡◌, ℕ, ◌≤◌, List, [], ◌∷◌, ◌++◌, length, take}
use Rattle.run_records.specs.Entries.{Entry}
use Rattle.run_records.specs.declared.header.Header.{Header}
use Rattle.run_journal.specs.Meaning.{a_run}
use Rattle.run_journal.specs.Stands.{Stands}
use Rattle.two_path.specs.Histories.{Event, history}
use Rattle.nc_verify.specs.declared.verified.Verified.{Verified}
use Rattle.nc_restart.specs.Pair.{texts_of, IsPairOf, tapes_in, machine_behind}
use Rattle.nc_restart.specs.Meaning.{StandsForRun}

-- From a restart to a stop: the machine is made anew of the records that were found, any events
-- happen, and of all records the first so many are left, among them those that were found.
pub record IsLife (header : Header) (found left : List Entry) : Type 0 where
  -- the pair of the header's texts
  pub pair : Verified
  -- the texts are accepted
  pub accepted : IsPairOf (texts_of header) pair
  -- the turns and edits after the restart
  pub events : List Event
  -- how many records are left of those that were found and those of the events
  pub kept : ℕ
  -- all records that were found are left
  pub holds : length found ≤ kept
  -- what is left are the first `kept` of the records found and those of the events
  pub are : left ≡ take kept (found ++ history (tapes_in pair) (machine_behind pair found) events)
  -- there are no more records than the settings allow
  pub few : length left ≤ pair.settings.records

-- a life that begins with the one image ends with the other; in a restart that is stopped no events
-- happen
pub record Leaves (before after : List ℕ) : Type 0 where
  -- the header of the run
  pub header : Header
  -- the records that the restart found
  pub found : List Entry
  -- the records that the stop left
  pub left : List Entry
  -- the one image stands for the run with the records that were found
  pub begins : StandsForRun (a_run header found) before
  -- from these records the run came to those that are left
  pub life : IsLife header found left
  -- the other image stands for those that are left
  pub ends : Stands header left after

-- each image leaves the next one
abbrev pub LeaveEach : List ℕ → List (List ℕ) → Type 0
LeaveEach image [] = Unit {0}
LeaveEach image (next ∷ images) = Leaves image next × LeaveEach next images

-- each image stands for a history of this header, which begins with the records of those before it
abbrev pub AreOneHistory : Header → List Entry → List (List ℕ) → Type 0
AreOneHistory header found [] = Unit {0}
AreOneHistory header found (image ∷ images) =
    (left : List Entry) × StandsForRun (a_run header left) image × (take (length found) left ≡ found) × AreOneHistory header left images
