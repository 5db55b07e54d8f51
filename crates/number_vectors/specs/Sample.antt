-- The variables of the tests of macro expressions: #0 and #1 are vacant, #2 is 2.5, #3 is 3, #500
-- is shared, and there is no other. `Sample` (src/values.rt) has this table; its rows count on it.
use Rattle.std.specs.Prelude.{ℕ, ◌==◌, ◌||◌, Result, Ok, Err, pos, if◌then◌else◌}
use Rattle.nc_number.specs.declared.value.Var.TheVariants.{Vacant, Is}
use Rattle.macro_eval.specs.declared.scope.Look.{Look}
use Rattle.macro_eval.specs.declared.scope.Look.TheVariants as look
use Rattle.macro_eval.specs.declared.scope.VarFault.{VarFault}
use Rattle.macro_eval.specs.declared.scope.VarFault.TheVariants.{Range}

-- what is known of each variable, with values in 0.000001
abbrev pub sample_table : ℕ → Result Look VarFault
sample_table v =
    if v == 0 || v == 1 then Ok (look.Is Vacant)
    else if v == 2 then Ok (look.Is (Is (pos 2500000)))
    else if v == 3 then Ok (look.Is (Is (pos 3000000)))
    else if v == 500 then Ok look.Shared
    else Err Range
