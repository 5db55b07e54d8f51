-- Which lists of records are a history of a pair, and which record is the first that may not stand
-- where it stands.
use Rattle.std.specs.Prelude.{◌≡◌, ℕ, ◌≤◌, List, ◌∷◌, ◌++◌, length}
use Rattle.run_records.specs.declared.bad_record.BadRecord.{BadRecord}
use Rattle.run_records.specs.declared.bad_record.BadRecord.TheVariants.{NotLegal, TooManyRecords}
use Rattle.run_records.specs.Entries.{Entry}
use Rattle.two_path.specs.Machine.{MachineView, without_reads}
use Rattle.two_path.specs.Histories.{IsLegal, IsNext}
use Rattle.two_path.specs.Joined.{AreAtTheirWaits}
use Rattle.nc_verify.specs.declared.verified.Verified.{Verified}
use Rattle.nc_restart.specs.Pair.{tapes_in, opening_of, machine_behind}

-- each record is legal at its place, and there are no more than the settings allow
pub record IsHistory (pair : Verified) (entries : List Entry) : Type 0 where
  -- each record is the step of the machine behind those before it
  pub legal : IsLegal (tapes_in pair) (opening_of pair) entries
  -- there are no more than the settings allow
  pub few : length entries ≤ pair.settings.records

-- The records are a history of the pair, and the machine is their fold. It counts them, no block
-- has read anything, and a path that waits stands on a wait.
pub record IsBehind (pair : Verified) (entries : List Entry) (machine : MachineView) : Type 0 where
  -- the records are a history of the pair
  pub history : IsHistory pair entries
  -- the machine is the fold of the records
  pub folds : machine ≡ machine_behind pair entries
  -- no unfinished block has read a variable
  pub bare : without_reads machine ≡ machine
  -- the machine counts the records
  pub counts : machine.count ≡ length entries
  -- a path that waits stands on a wait
  pub waits : AreAtTheirWaits pair.left.order pair.right.order machine

-- behind these records of the pair, this record is a step of the machine
abbrev pub MayFollow : Verified → List Entry → Entry → Type 0
MayFollow pair before entry = IsNext (tapes_in pair) (machine_behind pair before) entry

-- Why a record may not stand behind these: it is not the machine's step; or it is, and the run has
-- all its records.
pub data IsOutOfPlace (pair : Verified) (before : List Entry) (entry : Entry) : BadRecord → Type 0 where
  -- it is no step of the machine
  illegal : (MayFollow pair before entry → ⊥) → IsOutOfPlace pair before entry NotLegal
  -- it is a step of the machine, and the settings allow no record more
  beyond : MayFollow pair before entry → length before ≡ pair.settings.records → IsOutOfPlace pair before entry TooManyRecords

-- the record of this index is the first that may not stand where it stands
pub record IsOutOfPlaceAt (pair : Verified) (entries : List Entry) (index : ℕ) (cause : BadRecord) : Type 0 where
  -- the records before it
  pub before : List Entry
  -- the record itself
  pub entry : Entry
  -- the records after it
  pub after : List Entry
  -- the records are those before it, it, and those after it
  pub are : entries ≡ before ++ entry ∷ after
  -- it has this index, counted from 0
  pub index_is : index ≡ length before
  -- the records before it stand where they may
  pub history : IsHistory pair before
  -- it may not stand behind them, for this cause
  pub bad : IsOutOfPlace pair before entry cause
