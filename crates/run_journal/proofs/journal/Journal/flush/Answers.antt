-- After an Ok the disk holds the records and the batch; a crash leaves the records or both
-- (`Journal::flush`, src/journal.rt).
use Rattle.std.proofs.Common.{rules, ◌≡◌, ◌++◌, List, ℕ, subst, sym, ◌∙◌, ap, ◌≤◌, arith}
use Rattle.disk_model.specs.Moments.{LeavesOnly}
use Rattle.run_records.specs.declared.header.Header.{Header}
use Rattle.run_records.specs.Entries.{Entry}
use Rattle.run_journal.specs.Batches.{a_batch}
use Rattle.run_journal.specs.Kept.{Log, pending_in}
use Rattle.run_journal.specs.Stands.{Pends, Holds, StandsEither}
use Rattle.run_journal.proofs.Batches.{kept, moments, is_batch, none_pending}
use Rattle.run_journal.proofs.journal.Journal.flush.Goals as goal

pub returns-then-count-eq0-clause-flushed : goal.returns-then-count-eq0-clause-flushed
returns-then-count-eq0-clause-flushed g c =
    let batch : List ℕ = c.self.inside.batch in
    let same = ap (λ (log : Log g.row.D.Denot). log.batch) c.self.view_is in
    let none : pending_in batch ≡ 0 = omega (arith, c.count.ensures.count, c.if-count-eq0.true) in
    record {
      emptied = sym same ∙ none_pending batch c.count.ensures.has none;
      stays = search rules;
      moved = λ some. absurd (omega (arith, some, none, ap pending_in same));
      live = search rules;
      count = search rules;
      version = search rules;
    }

pub returns-clause-acknowledged : goal.returns-clause-acknowledged
returns-clause-acknowledged g c =
    let d = g.D.Disk.state in
    let inside = c.self.inside in
    let batch : List ℕ = inside.batch in
    let some : 1 ≤ pending_in batch = omega (arith, c.count.ensures.count, c.if-count-eq0.false) in
    subst (λ (log : Log g.row.D.Denot). (header : Header) (entries pending : List Entry) → Pends log.version pending log.batch → Holds header log.version entries (d log.file.disk) log.file.end
    → Holds header inside.version (entries ++ pending) (d c.append.new.self.disk) c.append.new.self.end) c.self.view_is
    (λ header entries pending pends holds. kept header inside.version entries (d inside.file.disk) (d c.append.new.self.disk) inside.file.end holds (a_batch pending) (is_batch inside.version pending batch pends c.count.ensures.has.few some) c.as_slice.result.now
    (c.as_slice.ensures.bytes ∙ pends.bytes) c.append.new.self.end c.in_ok-append.ensures.acknowledged)

pub returns-clause-any_moment : goal.returns-clause-any_moment
returns-clause-any_moment g c =
    let d = g.D.Disk.state in
    let inside = c.self.inside in
    let batch : List ℕ = inside.batch in
    let some : 1 ≤ pending_in batch = omega (arith, c.count.ensures.count, c.if-count-eq0.false) in
    subst (λ (log : Log g.row.D.Denot). (header : Header) (entries pending : List Entry) → Pends log.version pending log.batch → Holds header log.version entries (d log.file.disk) log.file.end
    → LeavesOnly (StandsEither header entries pending) (d log.file.disk) (d c.append.new.self.disk)) c.self.view_is
    (λ header entries pending pends holds. moments header inside.version entries (d inside.file.disk) (d c.append.new.self.disk) inside.file.end holds (a_batch pending) (is_batch inside.version pending batch pends c.count.ensures.has.few some)
    c.as_slice.result.now (c.as_slice.ensures.bytes ∙ pends.bytes) c.append.ensures.any_moment)

pub returns-in_err-append-clause-any_moment : goal.returns-in_err-append-clause-any_moment
returns-in_err-append-clause-any_moment g c =
    let d = g.D.Disk.state in
    let inside = c.self.inside in
    let batch : List ℕ = inside.batch in
    let some : 1 ≤ pending_in batch = omega (arith, c.count.ensures.count, c.if-count-eq0.false) in
    subst (λ (log : Log g.row.D.Denot). (header : Header) (entries pending : List Entry) → Pends log.version pending log.batch → Holds header log.version entries (d log.file.disk) log.file.end
    → LeavesOnly (StandsEither header entries pending) (d log.file.disk) (d c.append.new.self.disk)) c.self.view_is
    (λ header entries pending pends holds. moments header inside.version entries (d inside.file.disk) (d c.append.new.self.disk) inside.file.end holds (a_batch pending) (is_batch inside.version pending batch pends c.count.ensures.has.few some)
    c.as_slice.result.now (c.as_slice.ensures.bytes ∙ pends.bytes) c.append.ensures.any_moment)
