-- For the proof of `Table::drained` (src/table.rt): a path that was drained stands before its wait
-- still.
use Rattle.std.proofs.Common.{sym, subst}
use Rattle.nc_number.specs.declared.both.Both.{Both}
use Rattle.run_table.specs.declared.resting.Resting.{Resting}
use Rattle.run_table.specs.Kept.{IsTable}
use Rattle.run_table.proofs.RestsKept.{drained_stands}
use Rattle.run_table.proofs.TablesKept.{table_of, told_table}
use Rattle.run_table.proofs.table.Table.drained.Goals as goal

pub invariant_of-self : goal.invariant_of-self
invariant_of-self g c =
    let i = c.self.inside in
    subst (λ (b : Both Resting). IsTable g.D.Disk.state (table_of i.verified i.machine i.recording i.halt i.budget b)) (sym c.with_drained-self-inside.ensures)
    (told_table g.D.Disk.state i.verified i.machine i.recording i.halt i.budget i.resting _ c.self.invariant
    (λ free. drained_stands i.verified i.machine.machine c.args.path i.resting (c.self.invariant.rests free)))
