-- What an export says of the texts that C passes is what the call of lathe_calls said of them.
-- For the proofs of the exports (src/exports.rt).
use Rattle.std.proofs.Common.{◌≡◌, ℕ, List, subst}
use Rattle.nc_verify.specs.Verdict.{Texts}
use Rattle.lathe_calls.specs.declared.event.Event.{Event}
use Rattle.lathe_calls.specs.declared.question.Question.{Question}
use Rattle.lathe_calls.specs.declared.said.Said.{Said}
use Rattle.lathe_calls.specs.Due.{IsAnswerTo}
use Rattle.lathe_calls.specs.Order.{AreToldOf}
use Rattle.tape_calls.specs.declared.question.TapeQuestion.{TapeQuestion}
use Rattle.tape_calls.specs.Due.{IsTapeAnswer}
use Rattle.tape_calls.specs.Texts.{TapeView}
use Rattle.zone_calls.specs.Due.{AreZonesSaid}

-- an answer to texts is one to the same texts as C passes them, with the length that went to the
-- caller
pub answered : (question : Question) {texts these : Texts} {before after : List ℕ} {it told : Said} → texts ≡ these → it ≡ told
    → IsAnswerTo question texts before after it → IsAnswerTo question these before after told
answered question {texts} {these} {before} {after} {it} {told} same is answer =
    subst (λ t. IsAnswerTo question t before after told) same (subst (λ i. IsAnswerTo question texts before after i) is answer)

-- events of texts are those of the same texts as C passes them, with the length that went to the
-- caller
pub events_told : (order : List ℕ) {texts these : Texts} {before after : List Event} {it told : Said} → texts ≡ these → it ≡ told
    → AreToldOf order texts before after it → AreToldOf order these before after told
events_told order {texts} {these} {before} {after} {it} {told} same is events =
    subst (λ t. AreToldOf order t before after told) same (subst (λ i. AreToldOf order texts before after i) is events)

-- an answer about a tape and its settings is one about the same texts as C passes them, with the
-- length that went to the caller
pub tape_answered : (question : TapeQuestion) {texts these : TapeView} {before after : List ℕ} {it told : Said} → texts ≡ these → it ≡ told
    → IsTapeAnswer question texts before after it → IsTapeAnswer question these before after told
tape_answered question {texts} {these} {before} {after} {it} {told} same is answer =
    subst (λ t. IsTapeAnswer question t before after told) same (subst (λ i. IsTapeAnswer question texts before after i) is answer)

-- zones of texts are those of the same texts as C passes them, with the length that went to the
-- caller
pub zones_told : (limit : ℕ) (zones : List ℕ) {texts these : Texts} {before after : List ℕ} {it told : Said} → texts ≡ these → it ≡ told
    → AreZonesSaid limit zones texts before after it → AreZonesSaid limit zones these before after told
zones_told limit zones {texts} {these} {before} {after} {it} {told} same is answer =
    subst (λ t. AreZonesSaid limit zones t before after told) same (subst (λ i. AreZonesSaid limit zones texts before after i) is answer)
