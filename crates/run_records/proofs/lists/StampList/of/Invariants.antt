-- The stamps of a record so far are the first of those given (loop of `of`, src/lists.rt).
use Rattle.std.proofs.Common.{◌≡◌, take}
use Rattle.run_records.proofs.lists.StampList.of.Given as goal

abbrev pub invariant-loop-stamp : goal.invariant-loop-stamp
invariant-loop-stamp l = l.list ≡ take l.stamp-index l.stamps
