-- What is kept and counted of a whole line is enough to read it (`behind_whole_line`,
-- src/step.rt).
use Rattle.nc_text.specs.View.{before_of}
use Rattle.nc_text.proofs.Standing.{whole_line}
use Rattle.nc_text.proofs.step.behind_whole_line.Goals as goal

pub returns-clause-step : goal.returns-clause-step
returns-clause-step c = whole_line c.behind_line.result c.args.skips c.args.stage c.in_ok-kept.kept.now c.longer-len.result (before_of c.args.progress.now) (before_of c.behind_line.new.progress) c.args.bytes.now c.in_ok-kept.ensures.value c.longer-len.ensures c.behind_line.ensures.step
