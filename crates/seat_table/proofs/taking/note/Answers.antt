-- To note calls keeps the rule of the table (`note`, src/taking.rt).
use Rattle.std.proofs.Common.{rules}
use Rattle.seat_table.proofs.Keeping.{notes}
use Rattle.seat_table.proofs.taking.note.Goals as goal

pub load-requires : goal.load-requires
load-requires g c = (search rules, search rules, notes g.C.Turns.told g.C.Turns.reason _ _ _ g.N.Noted.calls c.requires.idle.0)
