-- The count of faults that each object of the outside keeps: shelf, sink, turret and line. The
-- contracts of these traits cite it.
use Rattle.std.specs.Prelude.{◌≡◌, ℕ, ◌≤◌}
pub use Rattle.nc_number.specs.Faults.{next, Rose}

-- A call counts its fault: the count never falls; if the call failed, it rose or stands at the last
-- value of u64; if the call did not fail, it is as before.
pub record CountsFault (before now : ℕ) (failed : Type 0) : Type 0 where
  -- the count does not fall
  pub later : before ≤ now
  -- a call that failed raised it, or it stands at its last value
  pub rose : failed → Rose before now
  -- a call that did not fail left it
  pub kept : (failed → ⊥) → now ≡ before
