-- What was swept so far, with the moves that are left, is what all moves sweep (loop of
-- `Swept::add_all`, src/swept.rt).
use Rattle.std.proofs.Common.{◌≡◌, drop}
use Rattle.zone_area.specs.Area.{swept_along}
use Rattle.zone_area.proofs.swept.Swept.add_all.Given as goal

abbrev pub invariant-loop-what : goal.invariant-loop-what
invariant-loop-what l = swept_along l.self (drop l.what-index l.moves) ≡ swept_along l.fn.self l.moves
