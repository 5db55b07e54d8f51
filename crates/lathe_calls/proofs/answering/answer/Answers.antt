-- For the proof of `answer` (src/answering.rt): the front of the text that is due stands in the
-- caller's room, what lies behind it is as it was, and the whole length is told.
use Rattle.std.proofs.Common.{List, ℕ, sym, subst, ◌∙◌}
use Rattle.lathe_calls.specs.Answers.{Ends}
use Rattle.lathe_calls.specs.Due.{IsDueTo}
use Rattle.lathe_calls.specs.Said.{IsHanded}
use Rattle.lathe_calls.specs.Texts.{texts_of, sink_with}
use Rattle.lathe_calls.proofs.FitTexts.{settings_fit}
use Rattle.lathe_calls.proofs.Handed.{said_of}
use Rattle.lathe_calls.proofs.answering.answer.Goals as goal

pub tell-status-requires : goal.tell-status-requires
tell-status-requires c = settings_fit (texts_of c.args.texts.now) (sym c.are_fit.ensures ∙ c.if-not-are_fit.false)

pub returns : goal.returns
returns c =
    said_of c.tell-status.result (sym c.are_fit.ensures ∙ c.if-not-are_fit.false)
    (subst (λ (t : List ℕ). Ends (IsDueTo c.args.question (texts_of c.args.texts.now)) (sink_with t) (sink_with c.tell-status.new.out) c.tell-status.result)
    c.empty-text.ensures c.tell-status.ensures)
    (subst (λ (t : List ℕ). IsHanded c.tell-status.result t c.args.room.now c.hand_text.new.room c.hand_text.result) c.as_slice.ensures c.hand_text.ensures)
