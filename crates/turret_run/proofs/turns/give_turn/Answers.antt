-- For the proof of `give_turn` (src/turns.rt): the turret serves what the turn answers for it, whatever
-- that is, and a path that is to be drained is asked for that and drained.
use Rattle.std.proofs.Common.{◌≡◌, ◌++◌, ◌∙◌, ℕ, List, ap, sym, subst, Some}
use Rattle.nc_outside.specs.declared.got.Got.{Got}
use Rattle.nc_outside.specs.declared.halt.Next.TheVariants.{Drain}
use Rattle.nc_outside.specs.Calls.{told_at}
use Rattle.drive_line.specs.Driving.{Serves}
use Rattle.seat_table.specs.Turning.{Draining, AsksDrain}
use Rattle.turret_run.specs.Draining.{IsDrained}
use Rattle.turret_run.proofs.ServedOn.{nothing_more}
use Rattle.turret_run.proofs.turns.give_turn.Goals as goal

pub returns-in-Some-Moves-clause-serves : goal.returns-in-Some-Moves-clause-serves
returns-in-Some-Moves-clause-serves g c = λ start s.
    let arm = c.in-Some-Moves in
    let told = g.C.Turns.told c.args.table.now c.args.path in
    subst (λ (l : List Got). Serves l start c.hand_all.new.driven) (sym (arm.ensures.answer ∙ ap (λ n. told ++ told_at n) arm.field-0-is)) (c.hand_all.ensures told start s)

pub returns-in-Some-Drain-clause-serves : goal.returns-in-Some-Drain-clause-serves
returns-in-Some-Drain-clause-serves g c = λ start s.
    let arm = c.in-Some-Drain in
    let told = g.C.Turns.told c.args.table.now c.args.path in
    subst (λ (l : List Got). Serves l start c.drain.new.driven) (sym (c.drain.ensures.told c.args.path ∙ arm.ensures.answer ∙ ap (λ n. told ++ told_at n) arm.field-0-is))
    (c.drain.ensures.serves told start s)

pub returns-in-Some-Drain-clause-drained : goal.returns-in-Some-Drain-clause-drained
returns-in-Some-Drain-clause-drained g c = λ code due.
    let arm = c.in-Some-Drain in
    let asks = subst (λ (d : Draining). AsksDrain d (Some arm.field-0) (g.C.Turns.drains c.turn_step.new.self c.args.path)) due arm.ensures.drains in
    let both : Some (Drain arm.code) ≡ Some (Drain code) = ap Some (sym arm.field-0-is) ∙ asks.0 in
    let same : arm.code ≡ code = cc in
    subst (λ (k : ℕ). IsDrained k c.drain.new.driven.phase (g.C.Turns.drains c.drain.new.table c.args.path)) same
    (c.drain.ensures.drained (asks.1 ∙ ap (λ (k : ℕ). Draining.asked k) (sym same)))

pub returns-in-Some-Silent-clause-serves : goal.returns-in-Some-Silent-clause-serves
returns-in-Some-Silent-clause-serves g c =
    let arm = c.in-Some-Silent in
    let told = g.C.Turns.told c.args.table.now c.args.path in
    nothing_more told (g.C.Turns.told c.turn_step.new.self c.args.path) c.args.driven.now (arm.ensures.answer ∙ ap (λ n. told ++ told_at n) arm.field-0-is)

pub returns-in-Some-Finished-clause-serves : goal.returns-in-Some-Finished-clause-serves
returns-in-Some-Finished-clause-serves g c =
    let arm = c.in-Some-Finished in
    let told = g.C.Turns.told c.args.table.now c.args.path in
    nothing_more told (g.C.Turns.told c.turn_step.new.self c.args.path) c.args.driven.now (arm.ensures.answer ∙ ap (λ n. told ++ told_at n) arm.field-0-is)

pub returns-in-Some-Halted-clause-serves : goal.returns-in-Some-Halted-clause-serves
returns-in-Some-Halted-clause-serves g c =
    let arm = c.in-Some-Halted in
    let told = g.C.Turns.told c.args.table.now c.args.path in
    nothing_more told (g.C.Turns.told c.turn_step.new.self c.args.path) c.args.driven.now (arm.ensures.answer ∙ ap (λ n. told ++ told_at n) arm.field-0-is)
