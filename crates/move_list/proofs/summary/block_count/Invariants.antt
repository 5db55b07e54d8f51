-- For the loop of `block_count` (src/summary.rt): the blocks of the programs so far are counted,
-- and each program has fewer than 2 ^ 64 of them.
use Rattle.std.proofs.Common.{◌≡◌, ◌*◌, ◌≤◌, take}
use Rattle.move_list.specs.Summary.{block_count}
use Rattle.move_list.proofs.summary.block_count.Given as goal

abbrev pub invariant-loop-program : goal.invariant-loop-program
invariant-loop-program l = record {
  counted : l.count ≡ block_count (take l.program-index l.programs);
  bounded : l.count ≤ l.program-index * 18446744073709551615;
}
