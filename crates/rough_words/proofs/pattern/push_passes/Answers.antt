-- One pass more was put (loop of `push_passes`, src/pattern.rt).
use Rattle.rough_words.proofs.OncePass.{one_put}
use Rattle.rough_words.proofs.pattern.push_passes.Goals as goal

pub loop-n-preserved : goal.loop-n-preserved
loop-n-preserved c =
    one_put c.args.offsets.now c.args.frame.now c.args.start.now c.args.contour.now c.args.feed.now c.loop-n.n
    c.args.lines.now.items c.loop-n.lines.items c.push_pass.new.lines.items c.loop-n.invariant c.in_ok-push_pass.ensures
