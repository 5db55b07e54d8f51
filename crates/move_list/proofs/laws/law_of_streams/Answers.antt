-- A turret's text is the line of its place and the lines that a report has (src/laws.rt).
use Rattle.std.proofs.Common.{refl}
use Rattle.move_list.specs.Report.{path_text}
use Rattle.move_list.proofs.Streams.{stream_is}
use Rattle.move_list.proofs.laws.law_of_streams.Goals as goal

pub returns-clause-stream : goal.returns-clause-stream
returns-clause-stream c = stream_is

pub returns-clause-report : goal.returns-clause-report
unfolding path_text
returns-clause-report c path moves = refl
