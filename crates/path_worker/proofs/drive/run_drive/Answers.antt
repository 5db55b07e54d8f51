-- One item more is served, and at the end the turret got all that it was told, or a prefix of it
-- before its fault, which has halted the run (`run_drive`, src/drive.rt).
use Rattle.std.proofs.Common.{◌≡◌, false, ◌++◌, ◌∷◌, [], refl, ap, sym, ◌∙◌, subst}
use Rattle.nc_outside.specs.Calls.{IsCalled}
use Rattle.drive_line.specs.declared.item.Item.{Item}
use Rattle.drive_line.specs.declared.item.Item.TheVariants.{Move, Mark, Finish, End}
use Rattle.drive_line.specs.Driving.{DrivenState, has_failed, Serves}
use Rattle.drive_line.specs.Line.{moves_among, told_among, has_end, is_mark}
use Rattle.drive_line.proofs.Items.{end_of_both}
use Rattle.drive_line.proofs.Serving.{serves_none}
use Rattle.path_worker.specs.Drive.{halts_at, once_halted, StandsAt}
use Rattle.path_worker.proofs.Driving.{called_none, taken_open, halted_once, at_rest, halts_on, rests}
use Rattle.path_worker.proofs.drive.run_drive.Goals as goal

pub loop-init : goal.loop-init
loop-init g c =
    let none = c.requires.line.0 in
    let new = c.requires.driven in
    let start = c.args.driven.now.state in (
      tt,
      tt,
      refl,
      ap has_end none,
      c.requires.line.1,
      subst (λ l. Serves (told_among l) start c.args.driven.now) (sym none) (subst (λ (d : DrivenState). Serves [] start d) (sym new) (serves_none start)),
      ap (λ (d : DrivenState). once_halted d.phase) new ∙ ap (λ (d : DrivenState). d.phase) (sym new),
      subst (λ (d : DrivenState). IsCalled (g.H.Stepper.calls c.args.halter.now) (g.H.Stepper.calls c.args.halter.now) (halts_at c.args.path (has_failed d.phase)))
          (sym new) (called_none (g.H.Stepper.calls c.args.halter.now)),
      refl,
    )

pub loop-preserved-in-Move : goal.loop-preserved-in-Move
loop-preserved-in-Move g c =
    let i = c.loop.invariant in
    let calls = g.H.Stepper.calls in
    let start = c.args.driven.now.state in
    let first = c.loop.driven.phase in
    let then = c.serve.new.driven.phase in
    let last = c.halt_at_fault.new.driven.phase in
    let item = c.take-item.result in
    let e = taken_open c.loop.line.items c.take-item.new.self.items item i.3 c.take-item.ensures.taken in
    let moved = ap (λ (x : Item). c.loop.line.items ++ x ∷ []) c.in-Move.is in (
      tt,
      tt,
      c.take-item.ensures.line ∙ i.2,
      ap has_end (e ∙ moved) ∙ end_of_both c.loop.line.items (Move c.in-Move.field-0 ∷ []) i.3,
      c.take-item.ensures.asked ∙ ap is_mark c.in-Move.is,
      c.halt_at_fault.ensures.serves _ start (subst (λ l. Serves (told_among l) start c.serve.new.driven) (sym e) (c.serve.ensures.serves c.loop.line.items start i.5)),
      halted_once then last c.halt_at_fault.ensures.phase,
      halts_on c.args.path item (calls c.args.halter.now) (calls c.loop.halter) (calls c.halt_at_fault.new.halter) first then last i.6 c.halt_at_fault.ensures.phase c.serve.ensures.failed
          c.serve.ensures.stands i.7 c.halt_at_fault.ensures.halted,
      c.halt_at_fault.ensures.origin ∙ i.8,
    )

pub loop-preserved : goal.loop-preserved
loop-preserved g c =
    let i = c.loop.invariant in
    let calls = g.H.Stepper.calls in
    let start = c.args.driven.now.state in
    let first = c.loop.driven.phase in
    let then = c.serve.new.driven.phase in
    let last = c.halt_at_fault.new.driven.phase in
    let item = c.take-item.result in
    let e = taken_open c.loop.line.items c.take-item.new.self.items item i.3 c.take-item.ensures.taken in
    let moved = ap (λ (x : Item). c.loop.line.items ++ x ∷ []) c.in-Finish.is in (
      tt,
      tt,
      c.take-item.ensures.line ∙ i.2,
      ap has_end (e ∙ moved) ∙ end_of_both c.loop.line.items (Finish ∷ []) i.3,
      c.take-item.ensures.asked ∙ ap is_mark c.in-Finish.is,
      c.halt_at_fault.ensures.serves _ start (subst (λ l. Serves (told_among l) start c.serve.new.driven) (sym e) (c.serve.ensures.serves c.loop.line.items start i.5)),
      halted_once then last c.halt_at_fault.ensures.phase,
      halts_on c.args.path item (calls c.args.halter.now) (calls c.loop.halter) (calls c.halt_at_fault.new.halter) first then last i.6 c.halt_at_fault.ensures.phase c.serve.ensures.failed
          c.serve.ensures.stands i.7 c.halt_at_fault.ensures.halted,
      c.halt_at_fault.ensures.origin ∙ i.8,
    )

pub answer-requires-clause-rest : goal.answer-requires-clause-rest
answer-requires-clause-rest g c =
    let i = c.loop.invariant in
    let start = c.args.driven.now.state in
    let first = c.loop.driven.phase in
    let then = c.serve.new.driven.phase in
    let last = c.halt_at_fault.new.driven.phase in
    let e = taken_open c.loop.line.items c.take-item.new.self.items c.take-item.result i.3 c.take-item.ensures.taken in
    let stands = subst (λ (x : Item). has_failed first ≡ false → StandsAt x then) c.in-Mark.is c.serve.ensures.stands in
    rests c.take-item.new.self.items start c.halt_at_fault.new.driven
    (c.halt_at_fault.ensures.serves _ start (subst (λ l. Serves (told_among l) start c.serve.new.driven) (sym e) (c.serve.ensures.serves c.loop.line.items start i.5)))
    (at_rest first then last i.6 c.halt_at_fault.ensures.phase c.serve.ensures.failed stands)

pub loop-preserved-in-Mark : goal.loop-preserved-in-Mark
loop-preserved-in-Mark g c =
    let i = c.loop.invariant in
    let calls = g.H.Stepper.calls in
    let start = c.args.driven.now.state in
    let first = c.loop.driven.phase in
    let then = c.serve.new.driven.phase in
    let last = c.halt_at_fault.new.driven.phase in
    let item = c.take-item.result in
    let e = taken_open c.loop.line.items c.take-item.new.self.items item i.3 c.take-item.ensures.taken in
    let marked = ap (λ (x : Item). c.loop.line.items ++ x ∷ []) c.in-Mark.is in
    let same = c.answer.ensures.items in (
      tt,
      tt,
      c.answer.ensures.line ∙ c.take-item.ensures.line ∙ i.2,
      ap has_end (same ∙ e ∙ marked) ∙ end_of_both c.loop.line.items (Mark c.in-Mark.field-0 ∷ []) i.3,
      c.answer.ensures.answered,
      subst (λ l. Serves (told_among l) start c.halt_at_fault.new.driven) (sym same)
          (c.halt_at_fault.ensures.serves _ start (subst (λ l. Serves (told_among l) start c.serve.new.driven) (sym e) (c.serve.ensures.serves c.loop.line.items start i.5))),
      halted_once then last c.halt_at_fault.ensures.phase,
      halts_on c.args.path item (calls c.args.halter.now) (calls c.loop.halter) (calls c.halt_at_fault.new.halter) first then last i.6 c.halt_at_fault.ensures.phase c.serve.ensures.failed
          c.serve.ensures.stands i.7 c.halt_at_fault.ensures.halted,
      c.halt_at_fault.ensures.origin ∙ i.8,
    )

pub returns-in-End-clause-line : goal.returns-in-End-clause-line
returns-in-End-clause-line g c =
    let i = c.loop.invariant in
    let e = taken_open c.loop.line.items c.take-item.new.self.items c.take-item.result i.3 c.take-item.ensures.taken in
    let ended = ap (λ (x : Item). c.loop.line.items ++ x ∷ []) c.in-End.is in
    (c.take-item.ensures.line ∙ i.2, ap has_end (e ∙ ended) ∙ end_of_both c.loop.line.items (End ∷ []) i.3)

pub returns-in-End-clause-serves : goal.returns-in-End-clause-serves
returns-in-End-clause-serves g c =
    let i = c.loop.invariant in
    let start = c.args.driven.now.state in
    let e = taken_open c.loop.line.items c.take-item.new.self.items c.take-item.result i.3 c.take-item.ensures.taken in
    c.halt_at_fault.ensures.serves _ start (subst (λ l. Serves (told_among l) start c.serve.new.driven) (sym e) (c.serve.ensures.serves c.loop.line.items start i.5))

pub returns-in-End-clause-halted : goal.returns-in-End-clause-halted
returns-in-End-clause-halted g c =
    let i = c.loop.invariant in
    let calls = g.H.Stepper.calls in
    halts_on c.args.path c.take-item.result (calls c.args.halter.now) (calls c.loop.halter) (calls c.halt_at_fault.new.halter) c.loop.driven.phase c.serve.new.driven.phase
    c.halt_at_fault.new.driven.phase i.6 c.halt_at_fault.ensures.phase c.serve.ensures.failed c.serve.ensures.stands i.7 c.halt_at_fault.ensures.halted
