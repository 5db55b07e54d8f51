-- For the loop of `add_moves` (src/turns.rt): the moves so far and those that are left are the
-- moves before and all of the block.
use Rattle.std.proofs.Common.{◌≡◌, ◌++◌, drop}
use Rattle.std.specs.Prelude.{map}
use Rattle.nc_outside.specs.Lined.{lined_move}
use Rattle.move_list.proofs.turns.add_moves.Given as goal

abbrev pub invariant-loop-what : goal.invariant-loop-what
invariant-loop-what l =
    l.list.items ++ map (lined_move l.line) (drop l.what-index l.made) ≡ l.initial.list.items ++ map (lined_move l.line) l.made
