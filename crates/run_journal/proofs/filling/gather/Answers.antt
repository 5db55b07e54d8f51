-- With the next record put into it, the batch has the records up to the next index (loop of
-- `gather`, src/filling.rt).
use Rattle.std.proofs.Common.{◌≡◌, List, arith, sym, subst}
use Rattle.run_records.specs.declared.version.Version.TheVariants.{One, Two}
use Rattle.run_records.specs.Entries.{Entry}
use Rattle.run_journal.specs.Stands.{Pends}
use Rattle.run_journal.proofs.Fillings.{one_more}
use Rattle.run_journal.proofs.filling.gather.Goals as goal

pub loop-index-preserved : goal.loop-index-preserved
loop-index-preserved c =
    let items = c.args.entries.now.items in
    let index = c.loop-index.index in
    let more = one_more items c.args.start index c.get.result c.loop-index.auto.index (omega (arith, c.loop-index-test.true, c.requires.order.1)) c.get.ensures in
    subst (λ (l : List Entry). Pends Two l c.put.new.self) (sym more)
    (c.put.ensures Two _ (λ (one : Two ≡ One). absurd (cc)) c.loop-index.invariant)
