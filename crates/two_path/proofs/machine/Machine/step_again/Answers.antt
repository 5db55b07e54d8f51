-- A step of either path is done again, or refused with nothing changed (src/machine.rt).
use Rattle.std.proofs.Common.{IfOk, OnErr, sym, ap, subst, ◌∙◌}
use Rattle.nc_number.specs.declared.path.Path.TheVariants.{One, Two}
use Rattle.run_records.specs.Entries.{Entry}
use Rattle.two_path.specs.Machine.{MachineView}
use Rattle.two_path.specs.Joined.{RoomyMachine, machine_of}
use Rattle.two_path.specs.Turns.{Tapes, tapes_of}
use Rattle.two_path.specs.Made.{turn_with}
use Rattle.two_path.specs.Again.{IsDoneAgain, IsRefused}
use Rattle.two_path.proofs.Ready.{done_in, refused_in}
use Rattle.two_path.proofs.machine.Machine.step_again.Goals as goal

pub returns-in-One-clause-done : goal.returns-in-One-clause-done
returns-in-One-clause-done c =
    let tapes : Tapes = tapes_of c.args.left.now c.args.right.now in
    let before : MachineView = machine_of c.self.inside.paths.one c.self.inside.paths.two c.self.inside.joint in
    let after : MachineView = machine_of c.do_again.new.me c.do_again.new.other c.do_again.new.joint in
    subst (λ (x : RoomyMachine). IfOk c.do_again.result (λ answer. IsDoneAgain tapes c.args.entry.now x.machine after (turn_with answer c.do_again.new.moves))) c.self.view_is
    (done_in c.do_again.result (λ answer. turn_with answer c.do_again.new.moves) tapes One c.args.entry.now before after (ap (λ (e : Entry). e.path) (sym c.entry.view_is) ∙ c.in-One.is) c.requires.step c.do_again.ensures.done)

pub returns-in-Two-clause-done : goal.returns-in-Two-clause-done
returns-in-Two-clause-done c =
    let tapes : Tapes = tapes_of c.args.left.now c.args.right.now in
    let before : MachineView = machine_of c.self.inside.paths.one c.self.inside.paths.two c.self.inside.joint in
    let after : MachineView = machine_of c.do_again-in-Two.new.other c.do_again-in-Two.new.me c.do_again-in-Two.new.joint in
    subst (λ (x : RoomyMachine). IfOk c.do_again-in-Two.result (λ answer. IsDoneAgain tapes c.args.entry.now x.machine after (turn_with answer c.do_again-in-Two.new.moves))) c.self.view_is
    (done_in c.do_again-in-Two.result (λ answer. turn_with answer c.do_again-in-Two.new.moves) tapes Two c.args.entry.now before after (ap (λ (e : Entry). e.path) (sym c.entry.view_is) ∙ c.in-Two.is) c.requires.step c.do_again-in-Two.ensures.done)

pub returns-in-One-clause-refused : goal.returns-in-One-clause-refused
returns-in-One-clause-refused c =
    let tapes : Tapes = tapes_of c.args.left.now c.args.right.now in
    let before : MachineView = machine_of c.self.inside.paths.one c.self.inside.paths.two c.self.inside.joint in
    let after : MachineView = machine_of c.do_again.new.me c.do_again.new.other c.do_again.new.joint in
    subst (λ (x : RoomyMachine). OnErr c.do_again.result (IsRefused tapes c.args.entry.now x.machine after)) c.self.view_is
    (refused_in c.do_again.result tapes One c.args.entry.now before after (ap (λ (e : Entry). e.path) (sym c.entry.view_is) ∙ c.in-One.is) c.requires.step c.do_again.ensures.refused)

pub returns-in-Two-clause-refused : goal.returns-in-Two-clause-refused
returns-in-Two-clause-refused c =
    let tapes : Tapes = tapes_of c.args.left.now c.args.right.now in
    let before : MachineView = machine_of c.self.inside.paths.one c.self.inside.paths.two c.self.inside.joint in
    let after : MachineView = machine_of c.do_again-in-Two.new.other c.do_again-in-Two.new.me c.do_again-in-Two.new.joint in
    subst (λ (x : RoomyMachine). OnErr c.do_again-in-Two.result (IsRefused tapes c.args.entry.now x.machine after)) c.self.view_is
    (refused_in c.do_again-in-Two.result tapes Two c.args.entry.now before after (ap (λ (e : Entry). e.path) (sym c.entry.view_is) ∙ c.in-Two.is) c.requires.step c.do_again-in-Two.ensures.refused)
