-- For the proof of `turn_step` of a held table (src/held.rt): one step, its answer for the worker
-- of the path, and that it tells whether the path waits and whether it is to be drained.
use Rattle.std.proofs.Common.{◌≡◌, ◌≢◌, refl, sym, ◌∙◌, subst, true, false, Option, Some}
use Rattle.std.specs.Prelude.{MatchOption}
use Rattle.nc_number.specs.declared.path.Path.{Path}
use Rattle.nc_outside.specs.declared.halt.Halt.{Halt}
use Rattle.nc_outside.specs.declared.halt.Next.{Next}
use Rattle.nc_outside.specs.declared.halt.Next.TheVariants.{Halted}
use Rattle.seat_table.specs.Turning.{Answers, AsksDrain}
use Rattle.run_table.specs.Apart.{step_with}
use Rattle.run_table.specs.Holding.{HeldView, held_of, waits_at, drains_at, told_since, HasStepped}
use Rattle.run_table.proofs.HeldKept.{lost_by, held_on, held_answers, held_others, held_halted}
use Rattle.run_table.proofs.WaitsTold.{waits_told}
use Rattle.run_table.proofs.DrainsTold.{drains_told}
use Rattle.run_table.proofs.held.HeldTurns.turn_step.Goals as goal

pub invariant_of-self : goal.invariant_of-self
invariant_of-self g c =
    let i = c.self.inside in
    held_on g.D.Disk.state g.O.Opening.opened c.args.path i.table c.step_into-step.new.self (step_with c.step_into-step.result c.step_into-step.new.moves) i.shown c.is_still_shown-shown.result
    c.count-before.ensures.table c.count-before.ensures.within c.self.invariant c.step_into-step.ensures.step c.step_into-step.ensures.since c.step_into-step.ensures.resting c.step_into-step.ensures.rests
    (c.is_still_shown-shown.ensures c.step_into-step.new.moves ∙ lost_by i.shown (step_with c.step_into-step.result c.step_into-step.new.moves) (c.count-before.ensures.count) (c.count-after.ensures.count))

pub returns-clause-step : goal.returns-clause-step
returns-clause-step g c =
    let d = g.D.Disk.state in
    let i = c.self.inside in
    subst (λ (h : HeldView g.row.D.Denot). HasStepped d c.args.path h (held_of c.step_into-step.new.self c.is_still_shown-shown.result) c.next_of.result) c.self.view_is
    (record {
      before = i.table;
      after = c.step_into-step.new.self;
      step = step_with c.step_into-step.result c.step_into-step.new.moves;
      old_is = refl;
      new_is = refl;
      is = c.step_into-step.ensures.step;
      next = c.next_of.ensures;
    })

pub returns-clause-answer : goal.returns-clause-answer
returns-clause-answer g c =
    let i = c.self.inside in
    let o = g.O.Opening.opened in
    let path = c.args.path in
    let new = held_of c.step_into-step.new.self c.is_still_shown-shown.result in
    subst (λ (h : HeldView g.row.D.Denot). MatchOption c.next_of.result (new ≡ h) (λ next. Answers (told_since o h path) next (told_since o new path))) c.self.view_is
    (subst (λ (n : Option Next). MatchOption n (new ≡ held_of i.table i.shown) (λ next. Answers (told_since o (held_of i.table i.shown) path) next (told_since o new path))) (sym c.next_of.ensures)
    (held_answers g.D.Disk.state o path i.table c.step_into-step.new.self (step_with c.step_into-step.result c.step_into-step.new.moves) i.shown c.is_still_shown-shown.result
    c.count-before.ensures.table c.count-before.ensures.within c.self.invariant c.step_into-step.ensures.step c.step_into-step.ensures.since c.step_into-step.ensures.resting c.step_into-step.ensures.rests
    (c.is_still_shown-shown.ensures c.step_into-step.new.moves ∙ lost_by i.shown (step_with c.step_into-step.result c.step_into-step.new.moves) (c.count-before.ensures.count) (c.count-after.ensures.count))))

pub returns-clause-others : goal.returns-clause-others
returns-clause-others g c =
    let i = c.self.inside in
    let o = g.O.Opening.opened in
    let new = held_of c.step_into-step.new.self c.is_still_shown-shown.result in
    subst (λ (h : HeldView g.row.D.Denot). (p : Path) → p ≢ c.args.path → told_since o new p ≡ told_since o h p) c.self.view_is
    (held_others g.D.Disk.state o c.args.path i.table c.step_into-step.new.self (step_with c.step_into-step.result c.step_into-step.new.moves) i.shown c.is_still_shown-shown.result
    c.count-before.ensures.table c.count-before.ensures.within c.self.invariant c.step_into-step.ensures.step c.step_into-step.ensures.since c.step_into-step.ensures.resting c.step_into-step.ensures.rests
    (c.is_still_shown-shown.ensures c.step_into-step.new.moves ∙ lost_by i.shown (step_with c.step_into-step.result c.step_into-step.new.moves) (c.count-before.ensures.count) (c.count-after.ensures.count)))

pub returns-clause-waits : goal.returns-clause-waits
returns-clause-waits g c =
    let i = c.self.inside in
    let path = c.args.path in
    subst (λ (h : HeldView g.row.D.Denot). MatchOption c.next_of.result (waits_at h path ≡ true) (λ _. waits_at h path ≡ false)) c.self.view_is
    (subst (λ (n : Option Next). MatchOption n (waits_at (held_of i.table i.shown) path ≡ true) (λ _. waits_at (held_of i.table i.shown) path ≡ false)) (sym c.next_of.ensures)
    (waits_told g.D.Disk.state path i.table c.step_into-step.new.self (step_with c.step_into-step.result c.step_into-step.new.moves) i.shown c.count-before.ensures.table c.step_into-step.ensures.step))

pub returns-clause-drains : goal.returns-clause-drains
returns-clause-drains g c =
    let i = c.self.inside in
    let path = c.args.path in
    let new = held_of c.step_into-step.new.self c.is_still_shown-shown.result in
    subst (λ (h : HeldView g.row.D.Denot). AsksDrain (drains_at h path) c.next_of.result (drains_at new path)) c.self.view_is
    (subst (λ (n : Option Next). AsksDrain (drains_at (held_of i.table i.shown) path) n (drains_at new path)) (sym c.next_of.ensures)
    (drains_told g.D.Disk.state path i.table c.step_into-step.new.self (step_with c.step_into-step.result c.step_into-step.new.moves) i.shown c.is_still_shown-shown.result c.step_into-step.ensures.step c.step_into-step.ensures.resting))

pub returns-clause-halted : goal.returns-clause-halted
returns-clause-halted g c =
    let i = c.self.inside in
    let o = g.O.Opening.opened in
    let new = held_of c.step_into-step.new.self c.is_still_shown-shown.result in
    subst (λ (h : HeldView g.row.D.Denot). (why : Halt) → h.halt ≡ Some why → (c.next_of.result ≡ Some (Halted why)) × (new.halt ≡ Some why)
    × ((p : Path) → told_since o new p ≡ told_since o h p)) c.self.view_is
    (subst (λ (n : Option Next). (why : Halt) → i.table.halt ≡ Some why → (n ≡ Some (Halted why)) × (new.halt ≡ Some why)
    × ((p : Path) → told_since o new p ≡ told_since o (held_of i.table i.shown) p)) (sym c.next_of.ensures)
    (held_halted g.D.Disk.state o c.args.path i.table c.step_into-step.new.self (step_with c.step_into-step.result c.step_into-step.new.moves) i.shown c.is_still_shown-shown.result
    c.count-before.ensures.table c.count-before.ensures.within c.self.invariant c.step_into-step.ensures.step c.step_into-step.ensures.since c.step_into-step.ensures.resting c.step_into-step.ensures.rests
    (c.is_still_shown-shown.ensures c.step_into-step.new.moves ∙ lost_by i.shown (step_with c.step_into-step.result c.step_into-step.new.moves) (c.count-before.ensures.count) (c.count-after.ensures.count))))
