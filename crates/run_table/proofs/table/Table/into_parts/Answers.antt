-- For the proof of `Table::into_parts` (src/table.rt): the machine that is left is the fold of the
-- history that is left, and only a fault of the disk ends the writing of the journal.
use Rattle.std.proofs.Common.{◌≡◌, Some, subst}
use Rattle.std.specs.Prelude.{IsTrue}
use Rattle.nc_outside.specs.declared.halt.Halt.TheVariants as halt
use Rattle.two_path.specs.Histories.{IsKept}
use Rattle.run_table.specs.Kept.{TableView, tapes_in, opening_of}
use Rattle.run_table.proofs.TablesKept.{live_by}
use Rattle.run_table.proofs.table.Table.into_parts.Goals as goal

pub returns-clause-kept : goal.returns-clause-kept
returns-clause-kept g c =
    subst (λ (t : TableView g.row.D.Denot). IsKept (tapes_in t.verified) (opening_of t.verified) t.recording.history t.machine) c.self.view_is
    c.self.invariant.kept

pub returns-clause-live : goal.returns-clause-live
returns-clause-live g c =
    subst (λ (t : TableView g.row.D.Denot). (t.halt ≡ Some halt.Disk → ⊥) → IsTrue t.recording.log.file.live) c.self.view_is
    (live_by _ _ _ c.self.invariant.reason)
