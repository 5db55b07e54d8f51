-- To count the end of a wait keeps the rule of the table (`count_change`, src/taking.rt).
use Rattle.std.proofs.Common.{rules, arith, ◌+◌, ◌%◌, ◌^◌}
use Rattle.seat_table.proofs.Keeping.{touches}
use Rattle.seat_table.proofs.taking.count_change.Goals as goal

pub fetch_add-requires : goal.fetch_add-requires
fetch_add-requires g c = (search rules, search rules, touches g.C.Turns.told g.C.Turns.reason _ _ _ _ (λ n. (n + 1) % 2 ^ 64) (omega arith))
