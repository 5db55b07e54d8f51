-- When a condition of a macro statement holds. Vacant equals vacant alone in EQ and NE, and counts
-- as 0 in the others. The contract of `holds` (src/compare.rt).
use Rattle.std.specs.Prelude.{Bool, true, false, not, int_lt, int_le}
use Rattle.std.specs.Ordering.{int_eq}
use Rattle.nc_number.specs.declared.value.Var.{Var}
use Rattle.nc_number.specs.declared.value.Var.TheVariants.{Vacant, Is}
use Rattle.macro_expr.specs.declared.tree.Rel.{Rel}
use Rattle.macro_expr.specs.declared.tree.Rel.TheVariants.{Eq, Ne, Gt, Ge, Lt, Le}
use Rattle.nc_number.specs.Variables.{or_zero}

-- Whether both values are vacant, or both are the same number.
abbrev pub are_same : Var → Var → Bool
are_same Vacant Vacant = true
are_same (Is x) (Is y) = int_eq x y
are_same Vacant (Is y) = false
are_same (Is x) Vacant = false

-- Whether the relation holds of the two values.
abbrev pub holds_of : Rel → Var → Var → Bool
holds_of Eq a b = are_same a b
holds_of Ne a b = not (are_same a b)
holds_of Gt a b = int_lt (or_zero b) (or_zero a)
holds_of Ge a b = int_le (or_zero b) (or_zero a)
holds_of Lt a b = int_lt (or_zero a) (or_zero b)
holds_of Le a b = int_le (or_zero a) (or_zero b)
