-- What a variable (#1, #100 ..) counts as in arithmetic.
use Rattle.std.specs.Prelude.{ℤ, pos}
use Rattle.nc_number.specs.declared.value.Var.{Var}
use Rattle.nc_number.specs.declared.value.Var.TheVariants.{Vacant, Is}

-- a variable's value, where a vacant one counts as 0
abbrev pub or_zero : Var → ℤ
or_zero Vacant = pos 0
or_zero (Is a) = a
