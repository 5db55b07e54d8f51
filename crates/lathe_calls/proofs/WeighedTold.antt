-- The verdict as numbers, from what came of the verdict.
-- For the proof of `weigh` (src/weighing.rt).
use Rattle.std.proofs.Common.{◌≡◌, ℕ, true, false, List, sym, subst, ap, ◌∙◌}
use Rattle.cell_settings.specs.Cell.{Cell}
use Rattle.tape_flow.specs.Forms.{ProgramForm}
use Rattle.nc_number.specs.declared.fault.Failing.{Failing}
use Rattle.nc_number.specs.declared.fault.Failing.TheVariants.{Fault}
use Rattle.block_order.specs.Answers.{IfFault}
use Rattle.nc_verify.specs.declared.refusal.Refusal.{Refusal}
use Rattle.nc_verify.specs.Verdict.{Texts, AreAccepted, IsRefusalOf}
use Rattle.lathe_calls.specs.Texts.{are_fit}
use Rattle.lathe_calls.specs.Weighed.{IsWeighed, accepted, lacking, refused, refused_as, too_long, unrefused}
use Rattle.lathe_calls.specs.declared.weighing.RefusedAs.{RefusedAs}
use Rattle.lathe_calls.specs.declared.weighing.Weighed.{Weighed}

-- accepted texts have no refusal
pub weighed_accepted : {texts : Texts} {cell : Cell} {left right : List ProgramForm} {it : Weighed} → are_fit texts ≡ true
    → AreAccepted texts cell left right → it ≡ unrefused 0 → IsWeighed texts it
weighed_accepted {texts} fit are is = subst (IsWeighed texts) (sym is) (accepted fit are)

-- refused texts have theirs
pub weighed_refused : {texts : Texts} (error : Failing Refusal) (refusal : Refusal) {it : RefusedAs} → are_fit texts ≡ true
    → IfFault error (IsRefusalOf texts) → error ≡ Fault refusal → it ≡ refused_as refusal
    → IsWeighed texts (record { status = 1; refusal = it })
weighed_refused {texts} error refusal fit of_texts is same =
    subst (λ (r : RefusedAs). IsWeighed texts (record { status = 1; refusal = r })) (sym same)
    (refused fit (subst (λ (e : Failing Refusal). IfFault e (IsRefusalOf texts)) is of_texts))

-- no memory for a verdict
pub weighed_lacking : {texts : Texts} {it : Weighed} → are_fit texts ≡ true → it ≡ unrefused 12 → IsWeighed texts it
weighed_lacking {texts} fit is = subst (IsWeighed texts) (sym is) (lacking fit)

-- a text that is too long
pub weighed_too_long : {texts : Texts} {it : Weighed} → are_fit texts ≡ false → it ≡ unrefused 13 → IsWeighed texts it
weighed_too_long {texts} long is = subst (IsWeighed texts) (sym is) (too_long long)
