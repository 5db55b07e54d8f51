-- `came_to_wait`: the machine behind a turn at a wait if the other path does not wait, so that this
-- one waits, and if it waits at another code, so that both stop (src/turning.rt).
use Rattle.std.proofs.Common.{rules, ◌≡◌, ◌==◌, false, Some, None, sym, ap, ◌∙◌}
use Rattle.nc_moves.specs.declared.alarm.Alarm.{Alarm}
use Rattle.two_path.specs.Machine.{MachineView}
use Rattle.two_path.specs.Joined.{machine_of}
use Rattle.two_path.specs.Turns.{crossed_waits, with_alarm, result_at_wait}
use Rattle.two_path.proofs.Stays.{crossed}
use Rattle.two_path.proofs.turning.came_to_wait.Goals as goal

pub returns-in-None-clause-machine : goal.returns-in-None-clause-machine
returns-in-None-clause-machine c =
    let e : None ≡ c.args.other.now.waiting = sym (c.in-None.is) ∙ c.waiting.ensures in
    c.arrived.ensures.machine c.args.other.now
    ∙ ap (λ o. (result_at_wait c.args.path c.args.line (machine_of c.args.me.now c.args.other.now c.args.joint.now) c.args.code o).machine) e

pub returns-else-code-there-clause-machine : goal.returns-else-code-there-clause-machine
returns-else-code-there-clause-machine c =
    let m : MachineView = machine_of c.args.me.now c.args.other.now c.args.joint.now in
    let waits : c.args.other.now.waiting ≡ Some c.in-Some.there = sym (c.waiting.ensures) ∙ c.in-Some.is in
    let differs : (c.args.code == c.in-Some.there) ≡ false = search rules in
    let alarm : Alarm = record { path = c.args.path; line = c.args.line; cause = c.number.result; value = c.zero.result } in
    let same : alarm ≡ crossed_waits c.args.path c.args.line = search rules in
    c.alarmed.ensures.machine c.args.other.now
    ∙ ap (λ (a : Alarm). with_alarm a m) same
    ∙ sym (crossed c.args.path c.args.line m c.args.code c.in-Some.there c.args.other.now.waiting waits differs)
