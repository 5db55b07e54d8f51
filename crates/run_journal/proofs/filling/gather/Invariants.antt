-- The batch has the records from the start up to this index (loop of `gather`, src/filling.rt).
use Rattle.std.proofs.Common.{◌-◌, take, drop}
use Rattle.run_records.specs.declared.version.Version.TheVariants.{Two}
use Rattle.run_journal.specs.Stands.{Pends}
use Rattle.run_journal.proofs.filling.gather.Given as goal

abbrev pub invariant-loop-index : goal.invariant-loop-index
invariant-loop-index l = Pends Two (take (l.index - l.start) (drop l.start l.entries.items)) l.batch
