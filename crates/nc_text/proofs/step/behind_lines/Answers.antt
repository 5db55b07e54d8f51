-- One line more of a tape's text leads the reader further (`behind_lines`, src/step.rt).
use Rattle.nc_text.specs.View.{before_of}
use Rattle.nc_text.proofs.Standing.{line_read, leads_on}
use Rattle.nc_text.proofs.step.behind_lines.Goals as goal

pub loop-line-preserved : goal.loop-line-preserved
loop-line-preserved c =
    let before = before_of c.loop-line.progress in
    let new = before_of c.behind_whole_line.new.progress in
    let text = c.loop-line.rest.now in
    let left = c.left_to_read-rest-in-Some.result.now in
    let cut = c.in-Some.ensures.cut in record {
      reads = leads_on c.args.skips c.args.stage c.loop-line.stage c.in_ok-stage.stage (before_of c.args.progress.now) before new c.args.text.now text left c.loop-line.invariant.reads
          (line_read c.args.skips c.loop-line.stage c.in_ok-stage.stage before new text c.in-Some.line.now c.in-Some.behind.now left cut.0 cut.1 c.in_ok-stage.ensures.step (c.left_to_read-rest-in-Some.ensures.same c.args.skips new));
      grows = λ start follows. c.behind_whole_line.ensures.grows start (c.loop-line.invariant.grows start follows);
    }
