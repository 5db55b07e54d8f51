-- A move handed to the turret is one more that it took, or the first that it missed
-- (`Driven::hand`, src/driven.rt).
use Rattle.std.proofs.Common.{◌≡◌, ◌++◌, ◌∷◌, [], true, false, true≢false, List, refl, ap, sym, ◌∙◌, subst}
use Rattle.nc_outside.specs.declared.got.Got.{Got}
use Rattle.nc_outside.specs.declared.got.Got.TheVariants.{Moved}
use Rattle.nc_outside.specs.Received.{TurretState}
use Rattle.drive_line.specs.declared.phase.Phase.TheVariants.{Moving, Failed}
use Rattle.drive_line.specs.Driving.{DrivenState, has_failed, Serves}
use Rattle.drive_line.proofs.Serving.{serves_got, serves_failed, serves_missed}
use Rattle.drive_line.proofs.driven.Driven.hand.Goals as goal

pub returns-in-Ok-clause-serves : goal.returns-in-Ok-clause-serves
returns-in-Ok-clause-serves g c =
    let state = g.T.Turret.state in
    let inside = c.self.inside in
    let what : Got = Moved c.args.what.now in
    let d : DrivenState = record { state = state inside.turret; taken = inside.taken; missed = inside.missed; phase = inside.phase } in
    let now : DrivenState = record { state = state c.hand.new.self; taken = c.next_count-self-inside-in-Ok.result; missed = inside.missed; phase = Moving } in
    let calm : has_failed inside.phase ≡ false = ap (λ (v : DrivenState). has_failed v.phase) c.self.view_is ∙ sym c.has_failed.ensures ∙ c.if-has_failed.false in
    let P : DrivenState → Type 0 = λ v. (told : List Got) (start : TurretState) → Serves told start v → Serves (told ++ what ∷ []) start now in
    subst P c.self.view_is (λ told start s. serves_got told start d s what (state c.hand.new.self) c.next_count-self-inside-in-Ok.result Moving calm refl
    c.next_count-self-inside-in-Ok.ensures c.in-Ok.ensures.ok (c.in-Ok.ensures.fault.kept (λ p. true≢false (sym p))))

pub returns-in-Err-clause-serves : goal.returns-in-Err-clause-serves
returns-in-Err-clause-serves g c =
    let state = g.T.Turret.state in
    let inside = c.self.inside in
    let what : Got = Moved c.args.what.now in
    let d : DrivenState = record { state = state inside.turret; taken = inside.taken; missed = inside.missed; phase = inside.phase } in
    let now : DrivenState = record { state = state c.hand.new.self; taken = inside.taken; missed = c.next_count-self-inside-in-Err.result; phase = Failed } in
    let calm : has_failed inside.phase ≡ false = ap (λ (v : DrivenState). has_failed v.phase) c.self.view_is ∙ sym c.has_failed.ensures ∙ c.if-has_failed.false in
    let P : DrivenState → Type 0 = λ v. (told : List Got) (start : TurretState) → Serves told start v → Serves (told ++ what ∷ []) start now in
    let fault = c.in-Err.ensures.fault in
    subst P c.self.view_is (λ told start s. serves_failed told start d s what (state c.hand.new.self) c.next_count-self-inside-in-Err.result calm
    c.next_count-self-inside-in-Err.ensures c.in-Err.ensures.err fault.later (fault.rose refl))

pub returns-then-has_failed-clause-serves : goal.returns-then-has_failed-clause-serves
returns-then-has_failed-clause-serves g c =
    let inside = c.self.inside in
    let what : Got = Moved c.args.what.now in
    let d : DrivenState = record { state = g.T.Turret.state inside.turret; taken = inside.taken; missed = inside.missed; phase = inside.phase } in
    let now : DrivenState = record { state = d.state; taken = inside.taken; missed = c.next_count-self-inside.result; phase = inside.phase } in
    let failed : has_failed inside.phase ≡ true = ap (λ (v : DrivenState). has_failed v.phase) c.self.view_is ∙ sym c.has_failed.ensures ∙ c.if-has_failed.true in
    let P : DrivenState → Type 0 = λ v. (told : List Got) (start : TurretState) → Serves told start v → Serves (told ++ what ∷ []) start now in
    subst P c.self.view_is (λ told start s. serves_missed told start d s what c.next_count-self-inside.result failed c.next_count-self-inside.ensures)
