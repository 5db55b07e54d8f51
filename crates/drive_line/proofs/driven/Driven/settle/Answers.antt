-- A turret that has not failed is told where its path rests, and stands still then or failed; one
-- that had failed misses that (`Driven::settle`, src/driven.rt).
use Rattle.std.proofs.Common.{arith, ◌≡◌, ◌+◌, ◌++◌, ◌∷◌, [], ℕ, true, false, true≢false, List, refl, ap, sym, ◌∙◌, subst}
use Rattle.nc_outside.specs.declared.got.Got.{Got}
use Rattle.nc_outside.specs.declared.got.Got.TheVariants.{Rested}
use Rattle.nc_outside.specs.Received.{TurretState}
use Rattle.drive_line.specs.declared.phase.Phase.TheVariants.{Still, Failed}
use Rattle.drive_line.specs.Driving.{DrivenState, has_failed, Serves}
use Rattle.drive_line.proofs.Serving.{serves_got, serves_failed, serves_missed}
use Rattle.drive_line.proofs.driven.Driven.settle.Goals as goal

-- no move more
and_none : (n : ℕ) → n ≡ n + 0
and_none n = omega arith

pub returns-in-Ok-clause-serves : goal.returns-in-Ok-clause-serves
returns-in-Ok-clause-serves g c =
    let state = g.T.Turret.state in
    let inside = c.self.inside in
    let what : Got = Rested c.args.at in
    let d : DrivenState = record { state = state inside.turret; taken = inside.taken; missed = inside.missed; phase = inside.phase } in
    let now : DrivenState = record { state = state c.settle.new.self; taken = inside.taken; missed = inside.missed; phase = Still } in
    let calm : has_failed inside.phase ≡ false = ap (λ (v : DrivenState). has_failed v.phase) c.self.view_is ∙ sym c.has_failed.ensures ∙ c.if-has_failed.false in
    let P : DrivenState → Type 0 = λ v. (told : List Got) (start : TurretState) → Serves told start v → Serves (told ++ what ∷ []) start now in
    subst P c.self.view_is (λ told start s. serves_got told start d s what (state c.settle.new.self) inside.taken Still calm refl
    (and_none inside.taken) c.in-Ok.ensures.ok (c.in-Ok.ensures.fault.kept (λ p. true≢false (sym p))))

pub returns-in-Err-clause-serves : goal.returns-in-Err-clause-serves
returns-in-Err-clause-serves g c =
    let state = g.T.Turret.state in
    let inside = c.self.inside in
    let what : Got = Rested c.args.at in
    let d : DrivenState = record { state = state inside.turret; taken = inside.taken; missed = inside.missed; phase = inside.phase } in
    let now : DrivenState = record { state = state c.settle.new.self; taken = inside.taken; missed = inside.missed; phase = Failed } in
    let calm : has_failed inside.phase ≡ false = ap (λ (v : DrivenState). has_failed v.phase) c.self.view_is ∙ sym c.has_failed.ensures ∙ c.if-has_failed.false in
    let P : DrivenState → Type 0 = λ v. (told : List Got) (start : TurretState) → Serves told start v → Serves (told ++ what ∷ []) start now in
    let fault = c.in-Err.ensures.fault in
    subst P c.self.view_is (λ told start s. serves_failed told start d s what (state c.settle.new.self) inside.missed calm
    (and_none inside.missed) c.in-Err.ensures.err fault.later (fault.rose refl))

pub returns-then-has_failed-clause-serves : goal.returns-then-has_failed-clause-serves
returns-then-has_failed-clause-serves g c = λ told start s.
    serves_missed told start c.args.self.now s (Rested c.args.at) c.args.self.now.missed (sym c.has_failed.ensures ∙ c.if-has_failed.true) (and_none c.args.self.now.missed)
