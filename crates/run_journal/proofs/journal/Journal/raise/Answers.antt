-- After an Ok the journal is of version 2; its records are the same at every moment
-- (`Journal::raise`, src/journal.rt).
use Rattle.std.proofs.Common.{rules, List, refl, ap, subst, arith}
use Rattle.std.proofs.lemmas.Result.{err_from_is_err_and}
use Rattle.disk_model.specs.Moments.{LeavesOnly}
use Rattle.run_records.specs.declared.header.Header.{Header}
use Rattle.run_records.specs.declared.version.Version.TheVariants.{One, Two}
use Rattle.run_records.specs.Entries.{Entry}
use Rattle.run_journal.specs.Kept.{Log}
use Rattle.run_journal.specs.Stands.{Stands, Holds}
use Rattle.run_journal.proofs.Batches.{raised, raising}
use Rattle.run_journal.proofs.journal.Journal.raise.Goals as goal

pub returns-clause-acknowledged : goal.returns-clause-acknowledged
returns-clause-acknowledged g c =
    let d = g.D.Disk.state in
    let inside = c.self.inside in
    subst (λ (log : Log g.row.D.Denot). (header : Header) (entries : List Entry) → Holds header One entries (d log.file.disk) log.file.end → Holds header Two entries (d c.append.new.self.disk) c.append.new.self.end) c.self.view_is
    (λ header entries holds. raised header entries (d inside.file.disk) (d c.append.new.self.disk) inside.file.end holds c.append.new.self.end c.in_ok-append.ensures.acknowledged)

pub returns-clause-any_moment : goal.returns-clause-any_moment
returns-clause-any_moment g c =
    let d = g.D.Disk.state in
    let inside = c.self.inside in
    subst (λ (log : Log g.row.D.Denot). (header : Header) (entries : List Entry) → Holds header One entries (d log.file.disk) log.file.end → LeavesOnly (Stands header entries) (d log.file.disk) (d c.append.new.self.disk)) c.self.view_is
    (λ header entries holds. raising header entries (d inside.file.disk) (d c.append.new.self.disk) inside.file.end holds c.append.ensures.any_moment)

pub returns-in_err-append-clause-any_moment : goal.returns-in_err-append-clause-any_moment
returns-in_err-append-clause-any_moment g c =
    let d = g.D.Disk.state in
    let inside = c.self.inside in
    subst (λ (log : Log g.row.D.Denot). (header : Header) (entries : List Entry) → Holds header One entries (d log.file.disk) log.file.end → LeavesOnly (Stands header entries) (d log.file.disk) (d c.append.new.self.disk)) c.self.view_is
    (λ header entries holds. raising header entries (d inside.file.disk) (d c.append.new.self.disk) inside.file.end holds c.append.ensures.any_moment)

pub returns-clause-raised : goal.returns-clause-raised
returns-clause-raised g c = record {
  version = refl;
  stays = tt;
  moved = omega (arith, c.in_ok-append.ensures.moved, ap (λ (log : Log g.row.D.Denot). log.file.end) c.self.view_is);
  batch = ap (λ (log : Log g.row.D.Denot). log.batch) c.self.view_is;
  live = search rules;
  count = ap (λ (log : Log g.row.D.Denot). log.count) c.self.view_is;
}

pub returns-in_err-append-clause-raised : goal.returns-in_err-append-clause-raised
returns-in_err-append-clause-raised g c =
    let p = err_from_is_err_and c.from_residual.result c.from_residual.ensures.1 in
    rw (p.1, p.2) (record {
      version = tt;
      stays = ap (λ (log : Log g.row.D.Denot). log.version) c.self.view_is;
      moved = tt;
      batch = ap (λ (log : Log g.row.D.Denot). log.batch) c.self.view_is;
      live = search rules;
      count = ap (λ (log : Log g.row.D.Denot). log.count) c.self.view_is;
    })
