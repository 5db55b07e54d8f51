-- Where a route of the code (src/route.rt) leads a path: control behind a block of words, decided
-- before anything changes. src/standing.rt proves that it is what Standing says of the block's
-- control. No other crate cites it; Decisions is built on it.
use Rattle.std.specs.Prelude.{List, Option, Result, Ok, Err}
use Rattle.nc_number.specs.declared.cause.Cause.{Cause}
use Rattle.nc_number.specs.declared.value.Var.{Var}
use Rattle.block_order.specs.Moves.{place_behind, place_at, place_of_caller}
use Rattle.path_state.specs.declared.route.Route.{Route}
use Rattle.path_state.specs.declared.route.Route.TheVariants.{Next, Call, Back, BackTo}
use Rattle.path_state.specs.Standing.{Standing, standing_moved, without_call, standing_of_call, standing_of_return}

-- where control leads, or the place before if it leads nowhere
abbrev pub or_stays : Standing → Result Standing Cause → Standing
or_stays standing (Ok there) = there
or_stays standing (Err cause) = standing

-- where a route leads from here; a call with arguments is that of a macro
abbrev pub route_end : Standing → Option (List Var) → Route → Standing
route_end standing arguments Next = standing_moved standing (place_behind standing.place)
route_end standing arguments (Call program repeats) =
    or_stays standing (standing_of_call arguments program repeats standing)
route_end standing arguments Back = standing_of_return standing
route_end standing arguments (BackTo block) =
    standing_moved (without_call standing) (place_at block (place_of_caller standing.place))

-- where a route leads from here, or the cause for which there is none
abbrev pub route_end_or_cause : Standing → Option (List Var) → Result Route Cause → Result Standing Cause
route_end_or_cause standing arguments (Ok route) = Ok (route_end standing arguments route)
route_end_or_cause standing arguments (Err cause) = Err cause
