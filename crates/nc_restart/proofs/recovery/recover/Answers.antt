-- Once the journal is opened, the answer is the run that was rebuilt from it, or why there is none
-- (`recover`, src/recovery.rt).
use Rattle.std.proofs.Common.{Err, sym, subst}
use Rattle.run_journal.specs.Opening.{Found}
use Rattle.nc_restart.specs.Recovered.{Recovers}
use Rattle.nc_restart.proofs.Recoveries.{not_rebuilt, rebuilt, held}
use Rattle.nc_restart.proofs.recovery.recover.Goals as goal

pub returns-in-Err-rebuild-clause-recovers : goal.returns-in-Err-rebuild-clause-recovers
returns-in-Err-rebuild-clause-recovers g c =
    let opened = c.in-Ok.field-0 in
    let found : Found = record { header = opened.header; version = opened.journal.version; entries = opened.entries.items; offsets = opened.offsets; end = opened.journal.file.end } in
    subst (λ (d : g.row.D.Denot). Recovers (g.D.Disk.state c.args.disk) (g.D.Disk.state d) (Err c.in-Err-rebuild.fault)) (sym c.into_disk.ensures)
    (not_rebuilt (g.D.Disk.state c.args.disk) (g.D.Disk.state opened.journal.file.disk) found c.in-Ok.ensures.finds c.in-Err-rebuild.fault c.in-Err-rebuild.ensures.refused)

pub returns-in-Ok-rebuild-clause-recovers : goal.returns-in-Ok-rebuild-clause-recovers
returns-in-Ok-rebuild-clause-recovers g c =
    let opened = c.in-Ok.field-0 in
    let found : Found = record { header = opened.header; version = opened.journal.version; entries = opened.entries.items; offsets = opened.offsets; end = opened.journal.file.end } in
    rebuilt (g.D.Disk.state c.args.disk) (g.D.Disk.state opened.journal.file.disk) found c.in-Ok.ensures.finds c.in-Ok-rebuild.field-0.pair
    c.in-Ok-rebuild.ensures.pair c.in-Ok-rebuild.ensures.behind.history

pub returns-in-Ok-rebuild-clause-short : goal.returns-in-Ok-rebuild-clause-short
returns-in-Ok-rebuild-clause-short g c = c.in-Ok.ensures.finds.found.1.run.short

pub returns-in-Ok-rebuild-clause-run : goal.returns-in-Ok-rebuild-clause-run
returns-in-Ok-rebuild-clause-run g c =
    let opened = c.in-Ok.field-0 in
    let found : Found = record { header = opened.header; version = opened.journal.version; entries = opened.entries.items; offsets = opened.offsets; end = opened.journal.file.end } in
    record {
      accepted = c.in-Ok-rebuild.ensures.pair;
      behind = c.in-Ok-rebuild.ensures.behind;
      fresh = c.in-Ok.ensures.fresh;
      holds = held (g.D.Disk.state c.args.disk) (g.D.Disk.state opened.journal.file.disk) found c.in-Ok.ensures.finds;
    }
