-- `decide_words`: if the evaluation of the words stops, the decision is the need or the alarm of
-- the definition (src/decision.rt).
use Rattle.std.proofs.Common.{sym, ◌∙◌}
use Rattle.path_state.proofs.Decided.{unwaiting}
use Rattle.path_state.proofs.path.PathState.decide_words.Goals as goal

-- a block of words, no wait and no macro call, whose evaluation stopped, stops so
pub returns-in-Err-clause-decided : goal.returns-in-Err-clause-decided
returns-in-Err-clause-decided c =
    let words = c.args.words.now in
    sym (c.in-Err.ensures.said c.args.order.now c.args.control)
    ∙ sym (unwaiting c.args.order.now c.args.self.now.fixed c.args.self.now words.purpose words.dialect.system words.words c.args.control c.args.reads.now
    (λ code. c.in_default.not-Wait code) c.requires.calls)
