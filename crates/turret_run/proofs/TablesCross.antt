-- A table may go to another thread if its disk may; so it is with its file, its journal and its
-- recording.
-- The proofs of `held_crosses` and `table_crosses` (src/crossing.rt) use it.
use denote.RattleType.{RattleType}
use denote.Param.Send.{IsSend, sendable, view_send}
use denote.Param.SendFields.{declared_send}
use Rattle.std.proofs.Crossing.{crosses}
use Rattle.disk_model.specs.declared.device.Disk as disk
use Rattle.gate_file.specs.contracts.gate.GateFile as gate
use Rattle.gate_file.specs.contracts.gate.GateFile.TheInside as gated
use Rattle.nc_verify.specs.contracts.verified.Verified as verified
use Rattle.run_journal.specs.contracts.batch.Batch as batch
use Rattle.run_journal.specs.contracts.batch.Batch.TheInside as batched
use Rattle.run_journal.specs.contracts.journal.Journal as journal
use Rattle.run_journal.specs.contracts.journal.Journal.TheInside as journaled
use Rattle.run_records.specs.contracts.lists.EntryList as entries
use Rattle.run_table.specs.contracts.held.Held as held
use Rattle.run_table.specs.contracts.held.Held.TheInside as inside
use Rattle.run_table.specs.contracts.table.Table as table
use Rattle.run_table.specs.contracts.table.Table.TheInside as tabled
use Rattle.run_table.specs.contracts.recording.Recording as recording
use Rattle.run_table.specs.contracts.recording.Recording.TheInside as recorded
use Rattle.run_table.specs.declared.held.Opening as opening
use Rattle.two_path.specs.contracts.machine.Machine as machine

-- a batch of records may go to another thread
batch_sent : IsSend batch.the_row
batch_sent = view_send _ _ _ _ _ (declared_send batched.the_type (search (sendable, crosses) depth 20, tt))

-- a disk that may go to another thread
module _ (D : RattleType) (g : disk.Ghosts D.Denot) (d : IsSend D) where
  -- a file of gates on such a disk may go to another thread
  gate_sent : IsSend (gate.the_row D g)
  gate_sent = view_send _ _ _ _ _ (declared_send (gated.the_type D g) (search (sendable, d) depth 20, (search sendable depth 20, (search sendable depth 20, (search (sendable, crosses) depth 20, tt)))))

  -- a journal on such a disk may go to another thread
  journal_sent : IsSend (journal.the_row D g)
  journal_sent = view_send _ _ _ _ _ (declared_send (journaled.the_type D g) (gate_sent, (batch_sent, (search sendable depth 20, (search sendable depth 20, tt)))))

  -- a recording on such a disk may go to another thread, if its list of records may
  recording_sent : IsSend entries.the_row → IsSend (recording.the_row D g)
  recording_sent list = view_send _ _ _ _ _ (declared_send (recorded.the_type D g) (list, (journal_sent, (search sendable depth 20, tt))))

  -- a table on such a disk may go to another thread, if its pair, its machine and its list of
  -- records may
  pub table_sent : IsSend verified.the_row → IsSend machine.the_row → IsSend entries.the_row → IsSend (table.the_row D g)
  table_sent pair m list = view_send _ _ _ _ _ (declared_send (tabled.the_type D g)
      (pair, (m, (recording_sent list, (search sendable depth 20, (search sendable depth 20, (search sendable depth 20, tt)))))))

-- a held table may go to another thread if its table may: of the opening it keeps nothing but its
-- type
pub held_sent : (D O : RattleType) (g : disk.Ghosts D.Denot) (o : opening.Ghosts O.Denot D.Denot) → IsSend (table.the_row D g) → IsSend (held.the_row D O g o)
held_sent D O g o table = view_send _ _ _ _ _ (declared_send (inside.the_type D O g o) (table, (search sendable depth 20, (search sendable depth 20, tt))))
