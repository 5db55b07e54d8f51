-- To ask for a wake keeps the rule of the table (`stand_by`, src/taking.rt).
use Rattle.std.proofs.Common.{rules}
use Rattle.seat_table.proofs.Keeping.{asks}
use Rattle.seat_table.proofs.taking.stand_by.Goals as goal

pub compare_exchange-requires : goal.compare_exchange-requires
compare_exchange-requires g c = (search rules, search rules, asks g.C.Turns.told g.C.Turns.reason _ _ _)
