-- To count a sleeper, and to count it off, keeps the rule of the table (`await_change`,
-- src/taking.rt).
use Rattle.std.proofs.Common.{rules, arith, ◌+◌, ◌-◌, ◌%◌, ◌^◌}
use Rattle.seat_table.proofs.Keeping.{touches}
use Rattle.seat_table.proofs.taking.await_change.Goals as goal

pub fetch_add-requires : goal.fetch_add-requires
fetch_add-requires g c = (search rules, search rules, touches g.C.Turns.told g.C.Turns.reason _ _ _ _ (λ n. (n + 1) % 2 ^ 64) (omega arith))

pub fetch_sub-requires : goal.fetch_sub-requires
fetch_sub-requires g c = (search rules, search rules, touches g.C.Turns.told g.C.Turns.reason _ _ _ _ (λ n. (n + (2 ^ 64 - 1)) % 2 ^ 64) (omega arith))
