-- For the proof of this law (src/stream_laws.rt): what a turret writes are the lines that the
-- report has for its path.
use Rattle.lathe_top.specs.Stops.{call_in}
use Rattle.lathe_top.proofs.StreamsWritten.{streams_of}
use Rattle.lathe_top.proofs.stream_laws.a_stream_has_the_reports_lines.Goals as goal

pub returns : goal.returns
returns g c = λ call around status is makes uncut. streams_of g.D.Disk.state g.E.Disk.state (call_in g.D.Disk.state around call) status is makes uncut
