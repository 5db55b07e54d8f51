-- How a table begins, new or after a recovery, what room for records it gets, and what is left of
-- it at the end. What the disk must hold after a recovery is in Recovered.
use Rattle.std.specs.Prelude.{◌≡◌, ℕ, [], length, Option, Some, None, Result, Ok, Err, OnOk, OnErr}
use Rattle.nc_moves.specs.declared.alarm.Alarm.{Alarm}
use Rattle.nc_outside.specs.declared.halt.Halt.{Halt}
use Rattle.nc_outside.specs.declared.halt.Halt.TheVariants as halt
use Rattle.gate_file.specs.declared.fault.GateFault.{GateFault}
use Rattle.run_records.specs.Room.{Entries}
use Rattle.run_journal.specs.Kept.{Log}
use Rattle.nc_verify.specs.declared.verified.Verified.{Verified}
use Rattle.two_path.specs.Joined.{RoomyMachine}
use Rattle.run_table.specs.Draining.{none_resting}
use Rattle.run_table.specs.Kept.{TableView, opening_of}

-- a new table of the pair: without records, and with no leave to make any
pub record IsBegun {D : Type 0} (verified : Verified) (t : TableView D) : Type 0 where
  -- it is of the pair
  pub pair : t.verified ≡ verified
  -- the machine stands before its first turn
  pub machine : t.machine ≡ opening_of verified
  -- it has no record
  pub history : t.recording.history ≡ []
  -- no record is on the disk
  pub flushed : t.recording.flushed ≡ 0
  -- nothing has stopped it
  pub halt : t.halt ≡ None
  -- it may make no record yet
  pub budget : t.budget ≡ 0
  -- no turret was told to rest for a wait
  pub resting : t.resting ≡ none_resting

-- the disk in the answer of `begin`: that of the new table's journal, or that given back with a
-- fault
abbrev pub disk_in : {D : Type 0} → Result (TableView D) (D × GateFault) → D
disk_in (Ok t) = t.recording.log.file.disk
disk_in (Err fault) = fault.0

-- why a recovered table has stopped: for the alarm of its machine, or not at all
abbrev pub reason_in : Option Alarm → Option Halt
reason_in None = None
reason_in (Some alarm) = Some (halt.Alarm alarm)

-- the table of what a recovery found: all its records are on the disk, and it has no leave for more
abbrev pub recovered_table : {D : Type 0} → Verified → RoomyMachine → Entries → Log D → TableView D
recovered_table verified m entries log = record {
  verified = verified;
  machine = m.machine;
  turns = m.room;
  recording = record { history = entries.items; room = entries.room; flushed = length entries.items; log = log };
  halt = reason_in m.machine.alarm;
  budget = 0;
  resting = none_resting;
}

-- What `prepare` does: it gives leave for n records, or, if memory runs out, leaves the budget as
-- it was. Nothing else changes but room, and that no turret counts as told to rest for a wait. That there is room for the budget is part of `IsTable`
-- (Kept).
pub record IsPrepared {D T E : Type 0} (n : ℕ) (old new : TableView D) (result : Result T E) : Type 0 where
  -- after an Ok it may make n records
  pub budget : OnOk result (new.budget ≡ n)
  -- without memory the leave is what it was
  pub stays : OnErr result (new.budget ≡ old.budget)
  -- the pair stays
  pub verified : new.verified ≡ old.verified
  -- the machine stays
  pub machine : new.machine ≡ old.machine
  -- the records stay
  pub history : new.recording.history ≡ old.recording.history
  -- as many records are on the disk as before
  pub flushed : new.recording.flushed ≡ old.recording.flushed
  -- the journal stays
  pub log : new.recording.log ≡ old.recording.log
  -- the reason to stop stays
  pub halt : new.halt ≡ old.halt
  -- after an Ok no turret counts as told to rest for a wait
  pub resting : OnOk result (new.resting ≡ none_resting)

-- what is left of a table that is taken apart: its pair, machine, records, reason and disk
pub record IsLeft {D : Type 0} (t : TableView D) (verified : Verified) (m : RoomyMachine) (entries : Entries) (halt : Option Halt) (disk : D) : Type 0 where
  -- the pair is that of the table
  pub verified_is : verified ≡ t.verified
  -- the machine is that of the table
  pub machine : m.machine ≡ t.machine
  -- the records are all of the table, also those that pend
  pub entries_are : entries.items ≡ t.recording.history
  -- the reason is the one that the table keeps
  pub halt_is : halt ≡ t.halt
  -- the disk is that of the journal
  pub disk_is : disk ≡ t.recording.log.file.disk
