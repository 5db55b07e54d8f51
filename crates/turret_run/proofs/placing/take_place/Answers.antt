-- For the proof of `take_place` (src/placing.rt): the turret stands still at its place, or failed in
-- the call with it or in the settle behind it.
use Rattle.std.proofs.Common.{refl, sym, true≢false}
use Rattle.turret_run.proofs.PlacesTaken.{placed, unsettled, refused}
use Rattle.turret_run.proofs.placing.take_place.Goals as goal

pub returns-in-Err-clause-err : goal.returns-in-Err-clause-err
returns-in-Err-clause-err g c =
    let state = g.T.Turret.state in
    let fault = c.in-Err.ensures.fault in
    refused c.args.at (state c.args.turret.now) (state c.place.new.self) c.in-Err.ensures.err fault.later (fault.rose refl)

pub returns-in-Err-settle-clause-err : goal.returns-in-Err-settle-clause-err
returns-in-Err-settle-clause-err g c =
    let state = g.T.Turret.state in
    let first = c.in_default.ensures in
    let fault = c.in-Err-settle.ensures.fault in
    unsettled c.args.at (state c.args.turret.now) (state c.place.new.self) (state c.settle.new.self) first.ok c.in-Err-settle.ensures.err
    (first.fault.kept (λ p. true≢false (sym p))) fault.later (fault.rose refl)

pub returns-clause-ok : goal.returns-clause-ok
returns-clause-ok g c =
    let state = g.T.Turret.state in
    let first = c.in_default.ensures in
    let rests = c.in_default-settle.ensures in
    placed c.args.at (state c.args.turret.now) (state c.place.new.self) (state c.settle.new.self) first.ok rests.ok
    (first.fault.kept (λ p. true≢false (sym p))) (rests.fault.kept (λ p. true≢false (sym p)))
