-- What is answered of a tape that is written out, or refused.
-- For the proofs of `expand_text` and `refuse_tape` (src/expanding.rt).
use Rattle.std.proofs.Common.{◌≡◌, ℕ, List, Option, Some, Ok, Err, IfSome, refl, sym, subst}
use Rattle.nc_number.specs.declared.cause.Cause.{Cause}
use Rattle.nc_number.specs.Causes.{cause_number}
use Rattle.nc_verify.proofs.Named.{cause_named}
use Rattle.tape_expand.specs.declared.fault.ExpandFault.{ExpandFault}
use Rattle.tape_expand.specs.Expansion.{expansion_of, parts_in, AreClearParts}
use Rattle.tape_expand.specs.Faults.{expand_number}
use Rattle.lathe_calls.specs.Answers.{Answer, tells}
use Rattle.tape_calls.specs.Expanded.{IsExpanded, expanded, refused, IsTapeRefusing, refusal_text}
use Rattle.lathe_calls.specs.Statuses as exit

-- A tape that is written out is answered by its bytes.
pub expansion_told : (text bytes : List ℕ) → expansion_of text ≡ Ok bytes → AreClearParts (parts_in text)
    → IsExpanded text (tells exit.done bytes)
expansion_told text bytes is clear = expanded is clear

-- A tape that is refused is answered by its refusal.
pub expansion_refused : (text : List ℕ) (fault : ExpandFault) → expansion_of text ≡ Err fault → (answer : Answer)
    → IsTapeRefusing fault answer → IsExpanded text answer
expansion_refused text fault is answer told = subst (IsExpanded text) (sym told.2) (refused is told.1)

-- The line of the refusal with the cause of its number is a refusal's answer.
pub refusal_told : (fault : ExpandFault) (cause : Option Cause) → IfSome cause (λ one. cause_number one ≡ expand_number fault)
    → ((one : Cause) → cause_number one ≡ expand_number fault → cause ≡ Some one)
    → IsTapeRefusing fault (tells exit.refused (refusal_text cause fault))
refusal_told fault cause number found = (refusal_text cause fault, (cause, cause_named (expand_number fault) cause number found, refl), refl)
