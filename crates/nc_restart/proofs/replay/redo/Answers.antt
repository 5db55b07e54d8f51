-- A record that the machine refuses, or one past as many as the settings allow, is out of place;
-- any other is done, and the machine stands behind it (`redo`, src/replay.rt).
use Rattle.std.proofs.Common.{◌≡◌, ◌≤◌, ◌<◌, ap, subst, arith}
use Rattle.std.proofs.lemmas.Bool.Decides.{nat_tests}
use Rattle.nc_number.specs.declared.path.Path.TheVariants.{One, Two}
use Rattle.cell_settings.specs.declared.settings.Settings.{Settings}
use Rattle.tape_flow.specs.declared.flow.Flow.{Flow}
use Rattle.path_state.specs.Opening.{opening_path}
use Rattle.two_path.specs.Turns.{Tapes, tapes_of}
use Rattle.two_path.specs.Joined.{AreAtTheirWaits}
use Rattle.two_path.specs.Again.{IsDoneAgain, IsRefused}
use Rattle.two_path.specs.Made.{turn_with}
use Rattle.nc_restart.specs.Pair.{tapes_in}
use Rattle.nc_restart.proofs.Replays.{next_illegal, next_beyond, next_done}
use Rattle.nc_restart.proofs.replay.redo.Goals as goal

pub returns-in-Err-clause-bad : goal.returns-in-Err-clause-bad
returns-in-Err-clause-bad c = λ before is.
    let m = c.args.machine.now.machine in
    let n = c.apply_into.new.self.machine in
    let tapes : tapes_of c.left.result.now c.right.result.now ≡ tapes_in c.args.pair.now =
    λ i. tapes_of (c.left.ensures.same i) (c.right.ensures.same i) in
    next_illegal c.args.pair.now before c.args.entry.now m n is
    (subst (λ (t : Tapes). IsRefused t c.args.entry.now m n) tapes c.in-Err.ensures.refused)

pub returns-then-full-clause-bad : goal.returns-then-full-clause-bad
returns-then-full-clause-bad c = λ before is.
    let m = c.args.machine.now.machine in
    let n = c.apply_into.new.self.machine in
    let tapes : tapes_of c.left.result.now c.right.result.now ≡ tapes_in c.args.pair.now =
    λ i. tapes_of (c.left.ensures.same i) (c.right.ensures.same i) in
    let limit : c.settings.result.now.records ≡ c.args.pair.now.settings.records = ap (λ (s : Settings). s.records) c.settings.ensures in
    let test : c.settings.result.now.records ≤ c.count.result = grind (arith, nat_tests, c.if-full.true) in
    next_beyond c.args.pair.now before c.args.entry.now m n is (turn_with c.in-Ok._answer c.apply_into.new.moves)
    (subst (λ (t : Tapes). IsDoneAgain t c.args.entry.now m n (turn_with c.in-Ok._answer c.apply_into.new.moves)) tapes c.in-Ok.ensures.done) (omega (arith, test, limit, c.count.ensures))

pub returns-else-full-clause-done : goal.returns-else-full-clause-done
returns-else-full-clause-done c = λ before is.
    let pair = c.args.pair.now in
    let m = c.args.machine.now.machine in
    let n = c.apply_into.new.self.machine in
    let tapes : tapes_of c.left.result.now c.right.result.now ≡ tapes_in c.args.pair.now =
    λ i. tapes_of (c.left.ensures.same i) (c.right.ensures.same i) in
    let limit : c.settings.result.now.records ≡ c.args.pair.now.settings.records = ap (λ (s : Settings). s.records) c.settings.ensures in
    let test : c.count.result < c.settings.result.now.records = grind (arith, nat_tests, c.if-full.false) in
    let runs = c.histories_are_runs.ensures (tapes_in pair) (opening_path pair.left pair.settings One) (opening_path pair.right pair.settings Two) in
    next_done pair before c.args.entry.now m n is (turn_with c.in-Ok._answer c.apply_into.new.moves) runs.counts
    (subst (λ (t : Tapes). IsDoneAgain t c.args.entry.now m n (turn_with c.in-Ok._answer c.apply_into.new.moves)) tapes c.in-Ok.ensures.done) (omega (arith, test, limit, c.count.ensures))
    (subst (λ (f : Flow). AreAtTheirWaits f.order pair.right.order n) c.left.ensures.same
    (subst (λ (f : Flow). AreAtTheirWaits c.left.result.now.order f.order n) c.right.ensures.same c.in-Ok.ensures.waits))
