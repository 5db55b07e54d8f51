-- There is room for the level of a macro, since there are no more levels than calls
-- (src/standing.rt).
use Rattle.std.proofs.Common.{rules, arith, reverse, length, ◌≤◌, IsOk}
use Rattle.path_state.proofs.StandingLevels.{macros_few}
use Rattle.path_state.proofs.standing.Standing.call_macro.Goals as goal

pub open_level-requires : goal.open_level-requires
open_level-requires c =
    let few = macros_few (reverse c.self.inside.calls.items) in
    let opened : IsOk c.call.result = search rules in
    omega (arith, few, c.call.ensures.room.0 opened)
