-- The moves that a path's records make between two numbers of a history are those of these records
-- (src/laws.rt).
use Rattle.std.proofs.Common.{take, drop}
use Rattle.two_path.specs.Histories.{fold}
use Rattle.run_table.specs.Kept.{tapes_in, opening_of}
use Rattle.path_moves.proofs.OfRecords.{of_records}
use Rattle.path_moves.proofs.laws.the_moves_of_records_are_one.Goals as goal

pub returns : goal.returns
returns c pair path from upto history =
    of_records (tapes_in pair) (fold (tapes_in pair) (opening_of pair) (take from history)) path (drop from (take upto history))
