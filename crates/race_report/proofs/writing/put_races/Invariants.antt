-- For `put_races`: putting the lines of the races that are left puts those of all (loop of
-- src/writing.rt).
use Rattle.std.proofs.Common.{drop}
use Rattle.race_report.proofs.Puts.{PutsAll}
use Rattle.race_report.proofs.writing.put_races.Given as goal

abbrev pub invariant-loop-race : goal.invariant-loop-race
invariant-loop-race g l = PutsAll (g.K.Sink.state l.initial.sink) (g.K.Sink.state l.sink) l.races (drop l.race-index l.races)
