-- The count of faults of a turret in memory goes up by a planned fault, and else stays. For the
-- proofs of `is_planned` and `refuses` (src/memory_turret.rt).
use Rattle.std.proofs.Common.{◌≡◌, ℕ, ◌+◌, ◌-◌, ◌^◌, ◌<◌, ◌≤◌, ap, arith, min}
use Rattle.nc_number.specs.Faults.{next}
use Rattle.nc_outside.specs.Faults.{CountsFault}

-- all faults: planned ones of `place` and `hand`, calls that found no room, and planned ones of
-- `settle`
abbrev pub in_all : ℕ → ℕ → ℕ → ℕ
in_all planned past settles = min (min (planned + past) (2 ^ 64 - 1) + settles) (2 ^ 64 - 1)

-- a planned fault of `place` or `hand` raises the count, and without one it stays
pub call_counts : (a b past settles : ℕ) (failed : Type 0) → (failed → a < b) → ((failed → ⊥) → b ≡ a) → a ≤ b → CountsFault (in_all a past settles) (in_all b past settles) failed
call_counts a b past settles failed rose kept later = record {
  later = grind arith;
  rose = λ has. let less = rose has in grind arith;
  kept = λ none. ap (λ k. in_all k past settles) (kept none);
}

-- a planned fault of `settle` raises the count, and without one it stays
pub settle_counts : (planned past a b : ℕ) (failed : Type 0) → (failed → a < b) → ((failed → ⊥) → b ≡ a) → a ≤ b → CountsFault (in_all planned past a) (in_all planned past b) failed
settle_counts planned past a b failed rose kept later = record {
  later = grind arith;
  rose = λ has. let less = rose has in grind arith;
  kept = λ none. ap (λ k. in_all planned past k) (kept none);
}

-- a call that finds no room raises the count
pub past_counts : (planned past settles : ℕ) (failed : Type 0) → failed → CountsFault (in_all planned past settles) (in_all planned (next past) settles) failed
past_counts planned past settles failed has = record {
  later = grind arith;
  rose = λ _. grind arith;
  kept = λ none. absurd (none has);
}
