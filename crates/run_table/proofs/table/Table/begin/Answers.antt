-- For the proof of `Table::begin` (src/table.rt): a new table has no records, and its journal holds
-- the header.
use Rattle.std.proofs.Common.{rules, ◌≡◌, List, sym, subst, Ok}
use Rattle.run_records.specs.Entries.{Entry}
use Rattle.run_journal.specs.Beginning.{BeginsRun}
use Rattle.run_table.specs.Kept.{TableView, opening_of}
use Rattle.run_table.specs.Begun.{recovered_table}
use Rattle.run_table.specs.Recovered.{HoldsAll}
use Rattle.run_table.proofs.TablesBegin.{nothing_found, begun, new_holds}
use Rattle.run_table.proofs.table.Table.begin.Goals as goal

pub from_recovered-requires : goal.from_recovered-requires
from_recovered-requires g c =
    let d = g.D.Disk.state in
    let machine : c.in-Ok.machine.machine ≡ opening_of c.args.verified = search rules in
    let holds = new_holds d c.args.header.now (d c.args.disk) c.in-Ok-begin.journal c.in-Ok-begin.journal c.in-Ok-begin.ensures.begun c.in-Ok-begin.ensures.version c.in-Ok-begin.ensures.end in
    nothing_found d c.args.verified c.in-Ok.machine.machine c.empty.result.items c.in-Ok-begin.journal c.args.header.now machine c.empty.ensures
    c.in-Ok-begin.ensures.fresh c.requires.verdict holds

pub returns-in-Ok-begin-clause-begun : goal.returns-in-Ok-begin-clause-begun
returns-in-Ok-begin-clause-begun g c =
    let d = g.D.Disk.state in
    subst (λ (t : TableView g.row.D.Denot). BeginsRun c.args.header.now (d c.args.disk) (d t.recording.log.file.disk) (Ok t)) (sym c.from_recovered.ensures.table)
    (begun c.args.header.now (d c.args.disk) (d c.in-Ok-begin.journal.file.disk) c.in-Ok-begin.journal
    (recovered_table c.args.verified c.in-Ok.machine c.empty.result c.in-Ok-begin.journal) c.in-Ok-begin.ensures.begun)

pub returns-in-Ok-begin-clause-journal : goal.returns-in-Ok-begin-clause-journal
returns-in-Ok-begin-clause-journal g c =
    let d = g.D.Disk.state in
    let holds = new_holds d c.args.header.now (d c.args.disk) c.in-Ok-begin.journal c.in-Ok-begin.journal c.in-Ok-begin.ensures.begun c.in-Ok-begin.ensures.version c.in-Ok-begin.ensures.end in
    c.from_recovered.ensures.journal c.args.header.now
    (subst (λ (l : List Entry). HoldsAll d c.args.header.now l c.in-Ok-begin.journal) (sym c.empty.ensures) holds)
