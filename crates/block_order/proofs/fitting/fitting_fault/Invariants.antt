-- The set holds the O numbers of the programs so far, and none of them has a fault. What the loop
-- of `fitting_fault` keeps (src/fitting.rt).
use Rattle.std.proofs.Common.{◌≡◌, ℕ, nat_eq, map, take}
use Rattle.std.specs.List.{list_any}
use Rattle.std.specs.HashSet.{contains}
use Rattle.block_order.proofs.Located.{ClearTo}
use Rattle.block_order.proofs.fitting.fitting_fault.Given as goal

abbrev pub invariant-loop-program : goal.invariant-loop-program
invariant-loop-program l = record {
  known : (q : ℕ) → contains nat_eq l.numbers q ≡ list_any (nat_eq q) (map (λ p. p.number) (take l.program-index l.tape));
  clear : ClearTo l.tape l.program-index;
}
