-- The drive took what the worker sent, so the turret served the moves that the steps answered
-- (`run_lane`, src/lane.rt).
use Rattle.std.proofs.Common.{◌≡◌, List, ◌++◌, ◌∙◌, ap, sym, subst, IsTrue, length, refl, flat_map}
use Rattle.nc_outside.specs.declared.got.Got.{Got}
use Rattle.nc_outside.specs.Calls.{IsCalled, told_by}
use Rattle.drive_line.specs.Driving.{Serves}
use Rattle.drive_line.specs.Line.{moves_among, told_among}
use Rattle.path_worker.specs.Work.{items_at, calls_made, told_at_end}
use Rattle.path_worker.proofs.Working.{sent_is_answered}
use Rattle.path_worker.proofs.lane.run_lane.Goals as goal

pub returns-clause-told : goal.returns-clause-told
returns-clause-told g c =
    let worked = c.join-worked.ensures.first.1.0 in
    let drove = c.join-worked.ensures.second in
    let answers = worked.0 in
    let path = c.args.path in
    let calls = g.S.Stepper.calls in
    let end = c.join-worked.result.1 in
    let why = c.join-worked.result.0.why in
    let none = c.requires.line.1 in
    let ended = subst IsTrue (sym (c.close_line.ensures.ended ∙ drove.0.1)) refl in
    let all : told_among end.line.items ≡ told_by (calls_made path 0 answers) ++ told_at_end why =
    ap told_among (c.close_line.ensures.whole ended ∙ worked.1.items ∙ ap (λ l. l ++ flat_map items_at answers) none) ∙ sent_is_answered path 0 answers why worked.2 in (
      answers,
      subst (λ k. IsCalled (calls c.args.lane.stepper) (calls c.join-worked.result.0.stepper) (calls_made path k answers)) (ap (λ l. length (moves_among l)) none) worked.1.calls,
      worked.2,
      subst (λ (l : List Got). Serves l c.args.lane.driven.state end.driven) all drove.1.0,
    )
