-- The bodies are those of the records so far; fewer are left each time (loop of `journal_bodies`,
-- src/filling.rt).
use Rattle.std.proofs.Common.{◌-◌}
use Rattle.run_journal.proofs.Fillings.{IsFilling}
use Rattle.run_journal.proofs.filling.journal_bodies.Given as goal

abbrev pub invariant-loop-at : goal.invariant-loop-at
invariant-loop-at l = IsFilling l.header l.at l.upto l.entries.items l.bodies

abbrev pub decreases-loop-at : goal.decreases-loop-at
decreases-loop-at l = l.upto - l.at
