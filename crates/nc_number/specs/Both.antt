-- One thing for each path, such as its tape, its place or its turret. Src/both.rt computes
-- `of_path`.
use Rattle.nc_number.specs.declared.path.Path.{Path}
use Rattle.nc_number.specs.declared.path.Path.TheVariants.{One, Two}
use Rattle.nc_number.specs.declared.both.Both.{Both}

-- what a path has of the two
abbrev pub of_path : {A : Type 0} → Both A → Path → A
of_path both One = both.one
of_path both Two = both.two

-- a function applied to what each path has
abbrev pub both_of : {A B : Type 0} → (A → B) → Both A → Both B
both_of f both = record { one = f both.one; two = f both.two }
