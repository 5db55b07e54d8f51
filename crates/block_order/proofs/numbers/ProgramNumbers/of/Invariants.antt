-- Of each O number the place noted so far, or else that of the first program ahead with the number,
-- is its place on the whole tape. What the loop of `of` keeps (src/numbers.rt).
use Rattle.std.proofs.Common.{◌≡◌, ℕ, drop}
use Rattle.block_order.specs.Order.{or_else}
use Rattle.block_order.specs.Numbers.{place_kept}
use Rattle.block_order.specs.ProgramPlaces.{place_from, place_of}
use Rattle.block_order.proofs.numbers.ProgramNumbers.of.Given as goal

abbrev pub invariant-loop-place : goal.invariant-loop-place
invariant-loop-place l =
    (q : ℕ) → or_else (place_kept l.places.items q) (place_from (drop l.place l.programs) l.place q) ≡ place_of l.programs q
