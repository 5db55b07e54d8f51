-- An answer about the waits of a pair is one that is due, from what was put.
-- For the proof of `judge_waits` (src/waiting.rt).
use Rattle.std.proofs.Common.{List, Option, sym, subst}
use Rattle.nc_number.specs.declared.fault.Failing.{Failing}
use Rattle.nc_number.specs.declared.fault.Failing.TheVariants.{Fault, NoMemory}
use Rattle.block_order.specs.Answers.{IfFault}
use Rattle.label_list.specs.declared.labelled.Labelled.{Labelled}
use Rattle.nc_verify.specs.declared.refusal.Refusal.{Refusal}
use Rattle.nc_verify.specs.Verdict.{Texts}
use Rattle.open_order.specs.declared.outside.Outside.{Outside}
use Rattle.wait_verify.specs.Printed.{waits_text}
use Rattle.open_order.specs.Trusted.{TrustView}
use Rattle.wait_verify.specs.Verdict.{Judged, IsTold, IsRefusalOf}
use Rattle.lathe_calls.specs.Answers.{Answer, tells, IsJust}
use Rattle.lathe_calls.specs.Judged.{IsRefusing}
use Rattle.lathe_calls.specs.Statuses as exit
use Rattle.lathe_calls.specs.Waited.{AreWaits, asked_of, told, refused, unjudged}

-- the text of a pair that is accepted for its waits is due
pub waits_told : (outside : Option Outside) {texts : Texts} {judged : Judged} {left right : List Labelled} {trust : TrustView}
    → IsTold (asked_of outside texts) judged left right trust → (answer : Answer)
    → IsJust (tells exit.done (waits_text left right trust)) answer → AreWaits outside texts answer
waits_told outside {texts} are answer is = subst (AreWaits outside texts) (sym is) (told are)

-- the line of a refusal, or nothing without memory, is due to texts with that refusal
pub waits_refused : (outside : Option Outside) {texts : Texts} (error : Failing Refusal)
    → IfFault error (IsRefusalOf (asked_of outside texts)) → (answer : Answer) → IsRefusing error answer
    → AreWaits outside texts answer
waits_refused outside {texts} (Fault refusal) of_texts answer is =
    subst (AreWaits outside texts) (sym is.2) (refused of_texts is.1)
waits_refused outside {texts} NoMemory of_texts answer is = subst (AreWaits outside texts) (sym is) unjudged
