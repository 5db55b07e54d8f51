-- With one answer more, the calls and the items sent are those of all answers; the last one is why
-- the worker ended (`run_path`, src/worker.rt).
use Rattle.std.proofs.Common.{[], ◌∷◌, ◌++◌, ◌∙◌, refl}
use Rattle.std.proofs.lemmas.List.Elements.{All-push}
use Rattle.path_worker.specs.Work.{GoesOn}
use Rattle.path_worker.proofs.Working.{works_more}
use Rattle.path_worker.proofs.worker.run_path.Goals as goal

pub returns-in-Some-work_once-clause-work : goal.returns-in-Some-work_once-clause-work
returns-in-Some-work_once-clause-work g c =
    let calls = g.S.Stepper.calls in
    let i = c.loop.invariant.5 in
    let e = c.in-Some-work_once.ensures.work in (
      i.0 ++ e.0 ∷ [],
      works_more c.args.path (calls c.args.stepper.now) (calls c.loop.stepper) (calls c.work_once.new.stepper) c.args.line.now.items c.loop.line.items c.work_once.new.line.items
          i.0 (e.0 ∷ []) i.1 e.1,
      (i.0, e.0, refl, i.2, e.2),
    )

pub loop-preserved : goal.loop-preserved
loop-preserved g c =
    let calls = g.S.Stepper.calls in
    let i = c.loop.invariant.5 in
    let e = c.in_default.ensures.work in (
      tt,
      tt,
      c.in_default.ensures.line ∙ c.loop.invariant.2,
      c.in_default.ensures.open,
      c.in_default.ensures.origin ∙ c.loop.invariant.4,
      (
        i.0 ++ e.0 ∷ [],
        works_more c.args.path (calls c.args.stepper.now) (calls c.loop.stepper) (calls c.work_once.new.stepper) c.args.line.now.items c.loop.line.items c.work_once.new.line.items
            i.0 (e.0 ∷ []) i.1 e.1,
        All-push GoesOn i.0 e.0 i.2 e.2,
      ),
    )
