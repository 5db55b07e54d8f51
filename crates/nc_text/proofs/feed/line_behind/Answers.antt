-- From the line that ended the reading leads to the line that begins (`line_behind`, src/feed.rt).
use Rattle.nc_text.specs.View.{before_of}
use Rattle.nc_text.proofs.Standing.{next_line}
use Rattle.nc_text.proofs.feed.line_behind.Goals as goal

pub returns-clause-reads : goal.returns-clause-reads
returns-clause-reads c = λ bytes is.
    let line = c.args.line.now in
    let next = c.in_ok-next.next in
    next_line c.args.skips line.stage c.in_ok-stage.stage c.in_ok-stage-2.stage next.stage line.kept.items c.as_slice.result.now next.kept.items line.len next.len (before_of c.args.progress.now) (before_of c.behind_line.new.progress) (before_of c.behind_lines.new.progress)
    c.args.behind.now c.in_ok-stage-2.rest.now c.as_slice.ensures.value c.in_ok-stage.ensures.step c.in_ok-stage-2.ensures.reads c.in_ok-next.ensures.0 c.in_ok-next.ensures.1 bytes is
