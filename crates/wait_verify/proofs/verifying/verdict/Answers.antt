-- `verdict`: a pair is refused at the first position at which it is, or told with its labels at all
-- (src/verifying.rt).
use Rattle.cell_settings.specs.View.{view}
use Rattle.open_order.specs.Basis.{trust_view}
use Rattle.std.proofs.Common.{refl}
use Rattle.wait_verify.specs.Asked.{Asked, question_of}
use Rattle.wait_verify.proofs.Whole.{first_refused, other_refused, told_whole}
use Rattle.wait_verify.proofs.verifying.verdict.Goals as goal

pub returns-in-Err-judge_at-clause-refused : goal.returns-in-Err-judge_at-clause-refused
returns-in-Err-judge_at-clause-refused c =
    first_refused (question_of c.args.left.now c.args.right.now c.args.settings.now c.args.outside) c.in-Err-judge_at.error
    (c.in-Err-judge_at.ensures.refused c.args.settings.now c.in-Ok.ensures.settings)

pub returns-in-Err-stand_at_others-clause-refused : goal.returns-in-Err-stand_at_others-clause-refused
returns-in-Err-stand_at_others-clause-refused c =
    let all : Asked = question_of c.args.left.now c.args.right.now c.args.settings.now c.args.outside in
    let told = c.in-Ok-judge_at.ensures.told c.args.settings.now c.in-Ok.ensures.settings in
    other_refused all (view c.in-Ok.cell) told.0 c.free_switches-free.result c.in-Err-stand_at_others.error c.in-Ok.ensures.settings
    told.1.accepted (c.free_switches-free.ensures all refl refl)
    (c.in-Err-stand_at_others.ensures.refused c.args.settings.now c.in-Ok.ensures.settings)

pub returns-in-Ok-told-clause-told : goal.returns-in-Ok-told-clause-told
returns-in-Ok-told-clause-told c =
    let all : Asked = question_of c.args.left.now c.args.right.now c.args.settings.now c.args.outside in
    let told = c.in-Ok-judge_at.ensures.told c.args.settings.now c.in-Ok.ensures.settings in
    let has = c.in-Ok-stand_at_others.ensures.told c.args.settings.now c.in-Ok.ensures.settings in (
      told.0,
      told_whole all (view c.in-Ok.cell) told.0 c.free_switches-free.result c.of-first.result c.in-Ok-stand_at_others.standings.items
          c.in-Ok-judge_at.pair.labels.one c.in-Ok-judge_at.pair.labels.two c.in-Ok-told.pair.labels.one c.in-Ok-told.pair.labels.two
          (trust_view c.in-Ok-judge_at.pair.trust) (trust_view c.in-Ok-told.pair.trust) c.in-Ok.ensures.settings
          (c.free_switches-free.ensures all refl refl) told.1 c.of-first.ensures has
          (c.in-Ok-told.ensures.one c.of-first.result has.0 has.1) (c.in-Ok-told.ensures.two c.of-first.result has.0 has.1)
          c.in-Ok-told.ensures.trust,
    )
