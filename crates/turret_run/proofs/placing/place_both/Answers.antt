-- For the proof of `place_both` (src/placing.rt), if it fails: one turret failed at its place, and
-- that of path 1 stood still at its place before that of path 2 was called.
use Rattle.std.proofs.Common.{refl, subst}
use Rattle.nc_number.specs.declared.point.Point.{Point}
use Rattle.turret_run.specs.Served.{IsPlaced, FailsPlace}
use Rattle.turret_run.proofs.placing.place_both.Goals as goal

pub returns-in-Err-clause-err : goal.returns-in-Err-clause-err
returns-in-Err-clause-err g c =
    let state = g.T.Turret.state in
    (subst (λ (at : Point). FailsPlace at (state c.args.turrets.now.one) (state c.take_place.new.turret)) c.position.ensures c.in-Err.ensures.err, refl)

pub returns-in-Err-take_place-clause-err : goal.returns-in-Err-take_place-clause-err
returns-in-Err-take_place-clause-err g c =
    let state = g.T.Turret.state in (
      subst (λ (at : Point). FailsPlace at (state c.args.turrets.now.two) (state c.take_place-2.new.turret)) c.position-2.ensures c.in-Err-take_place.ensures.err,
      subst (λ (at : Point). IsPlaced at (state c.args.turrets.now.one) (state c.take_place.new.turret)) c.position.ensures c.in_default.ensures.ok,
    )
