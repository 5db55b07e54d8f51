-- What a recovery finds on a disk: the pair, its machine and records, and the journal. It is what
-- `Table::from_recovered` asks for; the table that is made of it is in Begun.
use Rattle.std.specs.Prelude.{◌≡◌, ℕ, ◌≤◌, List, length}
use Rattle.disk_model.specs.Device.{DiskState, Reads}
use Rattle.run_records.specs.Entries.{Entry}
use Rattle.run_records.specs.declared.header.Header.{Header}
use Rattle.run_journal.specs.Kept.{Log, IsFresh}
use Rattle.run_journal.specs.Stands.{Holds}
use Rattle.nc_verify.specs.declared.verified.Verified.{Verified}
use Rattle.two_path.specs.Machine.{MachineView}
use Rattle.two_path.specs.Joined.{AreAtTheirWaits}
use Rattle.two_path.specs.Histories.{IsLegal, fold}
use Rattle.run_table.specs.Kept.{tapes_in, opening_of, IsVerdictOf}

-- if the disk makes its content known, it holds this header and these records, which the journal
-- has written in the version that it has
abbrev pub HoldsAll : {D : Type 0} → (D → DiskState) → Header → List Entry → Log D → Type 0
HoldsAll state header entries log =
    (bytes : List ℕ) → Reads (state log.file.disk) bytes
    → Holds header log.version entries (state log.file.disk) log.file.end

-- The parts of one recovery: the records are a legal history of the pair, of as many records as the
-- pair allows at most. The machine is its fold, without block reads. The journal may be written,
-- has just as many records and none that pends, and stands for the history and for a header whose
-- texts are the pair's.
pub record IsRecovered {D : Type 0} (state : D → DiskState) (verified : Verified) (machine : MachineView) (entries : List Entry) (log : Log D) : Type 0 where
  -- the records are a legal history of the pair
  pub legal : IsLegal (tapes_in verified) (opening_of verified) entries
  -- there are no more than the settings allow
  pub few : length entries ≤ verified.settings.records
  -- the machine is the fold of the records, without block reads
  pub machine_is : machine ≡ fold (tapes_in verified) (opening_of verified) entries
  -- each waiting path stands on a wait
  pub waits : AreAtTheirWaits verified.left.order verified.right.order machine
  -- no record pends, and the journal may be written
  pub fresh : IsFresh (length entries) log
  -- the journal stands for the history, and for a header whose texts are the pair's
  pub stands : (header : Header) × IsVerdictOf header verified × HoldsAll state header entries log
