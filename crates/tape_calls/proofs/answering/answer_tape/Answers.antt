-- For the proof of `answer_tape` (src/answering.rt): the front of the text that is due stands in the
-- caller's room, what lies behind it is as it was, and the whole length is told.
use Rattle.std.proofs.Common.{List, ℕ, sym, subst, ◌∙◌}
use Rattle.lathe_calls.specs.Answers.{Ends}
use Rattle.lathe_calls.specs.Said.{IsHanded}
use Rattle.lathe_calls.specs.Texts.{sink_with}
use Rattle.lathe_calls.proofs.Handed.{said_of}
use Rattle.tape_calls.specs.Due.{IsDueToTape}
use Rattle.tape_calls.specs.Texts.{texts_of}
use Rattle.tape_calls.proofs.FitTexts.{settings_fit}
use Rattle.tape_calls.proofs.answering.answer_tape.Goals as goal

pub tell_tape-status-requires : goal.tell_tape-status-requires
tell_tape-status-requires c = settings_fit (texts_of c.args.texts.now) (sym c.are_fit.ensures ∙ c.if-not-are_fit.false)

pub returns : goal.returns
returns c =
    said_of c.tell_tape-status.result (sym c.are_fit.ensures ∙ c.if-not-are_fit.false)
    (subst (λ (t : List ℕ). Ends (IsDueToTape c.args.question (texts_of c.args.texts.now)) (sink_with t) (sink_with c.tell_tape-status.new.out) c.tell_tape-status.result)
    c.empty-text.ensures c.tell_tape-status.ensures)
    (subst (λ (t : List ℕ). IsHanded c.tell_tape-status.result t c.args.room.now c.hand_text.new.room c.hand_text.result) c.as_slice.ensures c.hand_text.ensures)
