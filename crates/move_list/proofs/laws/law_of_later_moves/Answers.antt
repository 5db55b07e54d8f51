-- The moves of a longer history are those of its first records and those of the later ones
-- (src/laws.rt).
use Rattle.move_list.proofs.Streams.{later_moves}
use Rattle.move_list.proofs.laws.law_of_later_moves.Goals as goal

pub returns : goal.returns
returns c = later_moves
