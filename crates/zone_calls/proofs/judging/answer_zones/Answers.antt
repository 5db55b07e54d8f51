-- For the proof of `answer_zones` (src/judging.rt): the front of the text that is due stands in the
-- caller's room, what lies behind it is as it was, and the whole length is told.
use Rattle.std.proofs.Common.{List, ℕ, subst, rules}
use Rattle.lathe_calls.specs.Answers.{Ends}
use Rattle.lathe_calls.specs.Said.{IsHanded}
use Rattle.lathe_calls.specs.Texts.{sink_with, texts_of}
use Rattle.lathe_calls.proofs.Handed.{said_of}
use Rattle.zone_calls.specs.Due.{AreZones}
use Rattle.zone_calls.proofs.judging.answer_zones.Goals as goal

pub returns : goal.returns
returns c =
    said_of c.tell_zones-status.result (search rules)
    (subst (λ (t : List ℕ). Ends (AreZones c.args.limit c.args.zones.now (texts_of c.args.texts.now)) (sink_with t) (sink_with c.tell_zones-status.new.out) c.tell_zones-status.result)
    c.empty-text.ensures c.tell_zones-status.ensures)
    (subst (λ (t : List ℕ). IsHanded c.tell_zones-status.result t c.args.room.now c.hand_text.new.room c.hand_text.result) c.as_slice.ensures c.hand_text.ensures)
