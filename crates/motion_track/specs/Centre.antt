-- The centre of an arc, as I and K or as R gives it.
use Rattle.std.specs.Prelude.{ℕ, ◌≤◌, ℤ, pos, unsigned_abs, Option, Some, None, IfSome, unwrap_or}
use Rattle.nc_moves.specs.declared.motion.Centre.{Centre}
use Rattle.nc_moves.specs.declared.motion.Centre.TheVariants.{Offset, Radius}

-- the centre that I, K and R give: R before I and K; where one of I and K is given, the other
-- counts 0
abbrev pub centre_of : Option ℤ → Option ℤ → Option ℤ → Option Centre
centre_of i k (Some r) = Some (Radius r)
centre_of None None None = None
centre_of i k None = Some (Offset (unwrap_or i (pos 0)) (unwrap_or k (pos 0)))

-- the lengths of a centre are no larger than that
abbrev pub IsCentreWithin : ℕ → Centre → Type 0
IsCentreWithin far (Offset i k) = (unsigned_abs i ≤ far) × (unsigned_abs k ≤ far)
IsCentreWithin far (Radius r) = unsigned_abs r ≤ far

-- the centre, if there is one, has no larger length
abbrev pub IsGivenWithin : ℕ → Option Centre → Type 0
IsGivenWithin far None = Unit {0}
IsGivenWithin far (Some centre) = IsCentreWithin far centre

-- the length, if it is given, is no larger than that
abbrev pub IsLengthWithin : ℕ → Option ℤ → Type 0
IsLengthWithin far length = IfSome length (λ n. unsigned_abs n ≤ far)
