-- For the loop of `push_moves` (src/listing.rt): the events so far and those of the other moves are
-- all events.
use Rattle.std.proofs.Common.{◌≡◌, ◌++◌, drop, map}
use Rattle.lathe_calls.specs.Events.{move_event}
use Rattle.lathe_calls.proofs.listing.push_moves.Given as goal

abbrev pub invariant-loop-what : goal.invariant-loop-what
invariant-loop-what l = l.list.items ++ map (move_event l.at) (drop l.what-index l.moves) ≡ l.fn.list.items ++ map (move_event l.at) l.moves
