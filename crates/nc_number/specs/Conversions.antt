-- What a literal counts where its address is a length or a time, in thousandths.
use Rattle.std.specs.Prelude.{ℤ, pos, if◌then◌else◌}
use Rattle.nc_number.specs.declared.literal.Literal.{Literal}
use Rattle.nc_number.specs.Arithmetic.{nearest_quotient}

-- thousandths of the unit: a literal with a point is in whole units, and one without counts
-- thousandths; to the nearest, halves away from zero
abbrev pub thousandths_of : Literal → ℤ
thousandths_of literal = nearest_quotient literal.value (pos (if literal.point then 1000 else 1000000))
