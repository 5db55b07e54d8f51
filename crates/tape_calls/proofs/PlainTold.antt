-- What is answered of a tape that is written out in the control's language, or refused.
-- For the proofs of `plain_tape` and `refuse_plain` (src/plaining.rt).
use Rattle.std.proofs.Common.{◌≡◌, ℕ, List, Option, Some, Ok, Err, IfSome, refl, sym, subst}
use Rattle.nc_number.specs.declared.cause.Cause.{Cause}
use Rattle.nc_number.specs.Causes.{cause_number}
use Rattle.nc_verify.proofs.Named.{cause_named}
use Rattle.tape_plain.specs.declared.fault.PlainTapeFault.{PlainTapeFault}
use Rattle.tape_plain.specs.Plain.{plain_text}
use Rattle.tape_plain.specs.Faults.{plain_number}
use Rattle.lathe_calls.specs.Answers.{Answer, tells}
use Rattle.tape_calls.specs.Texts.{TapeView}
use Rattle.tape_calls.specs.Plained.{IsPlained, not_plained, IsPlainRefusing, plain_refusal_text}
use Rattle.lathe_calls.specs.Statuses as exit

-- A tape that is refused is answered by its refusal.
pub plain_refused : (texts : TapeView) (fault : PlainTapeFault) → plain_text texts.settings texts.tape ≡ Err fault → (answer : Answer)
    → IsPlainRefusing fault answer → IsPlained texts answer
plain_refused texts fault is answer told = subst (IsPlained texts) (sym told.2) (not_plained is told.1)

-- The line of the refusal with the cause of its number is a refusal's answer.
pub plain_refusal_told : (fault : PlainTapeFault) (cause : Option Cause) → IfSome cause (λ one. cause_number one ≡ plain_number fault)
    → ((one : Cause) → cause_number one ≡ plain_number fault → cause ≡ Some one)
    → IsPlainRefusing fault (tells exit.refused (plain_refusal_text cause fault))
plain_refusal_told fault cause number found =
    (plain_refusal_text cause fault, (cause, cause_named (plain_number fault) cause number found, refl), refl)
