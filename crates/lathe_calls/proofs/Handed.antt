-- What a call says, from what was told and handed out.
-- For the proofs of `answer` (src/answering.rt) and `events` (src/happening.rt).
use Rattle.std.proofs.Common.{◌≡◌, ℕ, Bool, List, [], true, length, refl, sym, subst, ◌∙◌, ap, arith}
use Rattle.nc_verify.specs.Verdict.{Texts}
use Rattle.lathe_calls.specs.Answers as answers
use Rattle.lathe_calls.specs.Answers.{Answer, tells, Ends}
use Rattle.lathe_calls.specs.declared.event.Event.{Event}
use Rattle.lathe_calls.specs.declared.said.Said.{Said}
use Rattle.lathe_calls.specs.Order.{AreDue, AreToldOf}
use Rattle.lathe_calls.specs.Said.{IsHanded, IsSaid, room_with, answer_with}
use Rattle.lathe_calls.specs.Said as says
use Rattle.lathe_calls.specs.Texts.{are_fit, sink_with}

-- if a text that was told into memory was handed out, the call said what is due
pub said_of : {IsDue : Answer → Type 0} {fit : Bool} {text before after : List ℕ} {it : Said} (status : ℕ) → fit ≡ true
    → Ends IsDue (sink_with []) (sink_with text) status → IsHanded status text before after it
    → IsSaid fit (λ s t. IsDue (tells s t)) before after it
said_of status is_fit ends (says.lacking is same left) = says.lacking is_fit same left
said_of {IsDue} status is_fit (answers.whole {text = told} due calm is) (says.whole some same left) =
    says.whole is_fit (subst (λ t. IsDue (tells status t)) (sym is) due) same left
said_of status is_fit (answers.cut due rose n is) (says.whole some same left) = absurd (omega (arith, rose))
said_of status is_fit (answers.unwritten due calm n is) (says.whole some same left) = absurd (some refl)
said_of status is_fit (answers.untold due calm is) (says.whole some same left) = absurd (some refl)

-- if events that are due were handed out, the call told them
pub events_said : {order : List ℕ} {texts : Texts} {list given before after : List Event} {it : Said} (status : ℕ) → are_fit texts ≡ true
    → AreDue order texts status list → given ≡ list → it ≡ answer_with status (length given) → after ≡ room_with given before
    → AreToldOf order texts before after it
events_said {before = before} status fit due same is left =
    says.whole fit due (is ∙ ap (λ (es : List Event). answer_with status (length es)) same) (left ∙ ap (λ (es : List Event). room_with es before) same)
