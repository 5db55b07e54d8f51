-- Without a present line, and with one that the end of the text ends, the answer is that of the
-- text (`finish`, src/feed.rt).
use Rattle.nc_text.specs.View.{before_of}
use Rattle.nc_text.proofs.Standing.{no_line, last_line}
use Rattle.nc_text.proofs.feed.Feed.finish.Goals as goal

pub returns-then-line-eq0-clause-exact : goal.returns-then-line-eq0-clause-exact
returns-then-line-eq0-clause-exact c =
    let feed = c.args.self in
    no_line feed.skips feed.line.stage feed.line.kept.items feed.line.len (before_of feed.progress) c.conclude.result c.if-line-eq0.true c.conclude.ensures.exact

pub returns-clause-exact : goal.returns-clause-exact
returns-clause-exact c =
    let feed = c.args.self in
    last_line feed.skips feed.line.stage c.in_ok-stage.stage feed.line.kept.items c.as_slice.result.now feed.line.len (before_of feed.progress) (before_of c.behind_line.new.progress) c.conclude-2.result c.if-line-eq0.false
    c.as_slice.ensures.value c.in_ok-stage.ensures.step c.conclude-2.ensures.exact
