-- What the type of the settings keeps of waiting codes and switches. For src/settings.rt and its
-- proofs; who has a `Settings` has these facts by its type.
use Rattle.std.specs.Prelude.{◌≡◌, ℕ, ◌≤◌}
use Rattle.std.specs.Int.{bit_at}

-- the waiting codes from low to high: at least one, and all of three digits
pub record IsWaitRange (low high : ℕ) : Type 0 where
  -- the first code has three digits
  pub least : 100 ≤ low
  -- the last code is not below the first
  pub ordered : low ≤ high
  -- the last code has three digits
  pub greatest : high ≤ 999

-- the mask has bits of switches alone: bit n is switch n, and these are 1 to 9
pub record IsSwitches (mask : ℕ) : Type 0 where
  -- no bit but 1 to 9 is on
  pub only : (n : ℕ) → bit_at mask n ≡ 1 → (1 ≤ n) × (n ≤ 9)
