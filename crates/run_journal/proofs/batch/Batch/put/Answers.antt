-- A record that is put into a batch stands after those that are to be written, and is counted
-- (`Batch::put`, src/batch.rt).
use Rattle.std.proofs.Common.{◌++◌, [], ◌∷◌, List, ℕ, subst}
use Rattle.run_records.specs.declared.version.Version.{Version}
use Rattle.run_records.specs.Entries.{Entry}
use Rattle.run_journal.specs.Batches.{MayStand}
use Rattle.run_journal.specs.Stands.{Pends}
use Rattle.run_journal.proofs.Batches.{pends_push}
use Rattle.run_journal.proofs.batch.Batch.put.Goals as goal

pub returns : goal.returns
returns c =
    subst (λ (batch : List ℕ). (version : Version) (pending : List Entry) → MayStand version c.args.entry.now → Pends version pending batch → Pends version (pending ++ c.args.entry.now ∷ []) c.put_behind.new.body.items) c.self.view_is
    (λ version pending may pends. pends_push version pending c.args.entry.now c.self.inside.bytes.items c.put_behind.new.body.items pends c.put_behind.ensures.entry may c.put_behind.ensures.items)
