-- The moves of a path's records are seven a record at most, and so is what they tell (src/laws.rt).
use Rattle.run_table.proofs.MovesFew.{made_few, told_few}
use Rattle.run_table.proofs.laws.a_record_makes_seven_moves_at_most.Goals as goal

pub returns-clause-moves : goal.returns-clause-moves
returns-clause-moves c = made_few

pub returns-clause-tells : goal.returns-clause-tells
returns-clause-tells c = told_few
