-- A made tape has 5006 lines, and its text reads as these lines (src/laws.rt).
use Rattle.tape_maker.proofs.MadeLines.{length_made, read_made}
use Rattle.tape_maker.proofs.laws.law_of_lines.Goals as goal

pub returns-clause-read : goal.returns-clause-read
returns-clause-read c = read_made

pub returns-clause-count : goal.returns-clause-count
returns-clause-count c = length_made
