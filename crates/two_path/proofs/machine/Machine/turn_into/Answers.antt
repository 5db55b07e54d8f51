-- A turn of either path keeps what a machine keeps, and makes the record of that turn
-- (src/machine.rt).
use Rattle.std.proofs.Common.{ap, sym, subst, ◌∙◌}
use Rattle.nc_number.specs.declared.path.Path.{Path}
use Rattle.nc_number.specs.declared.path.Path.TheVariants.{One, Two}
use Rattle.two_path.specs.Machine.{MachineView, own_first}
use Rattle.two_path.specs.Joined.{RoomyMachine, machine_of, AreAtTheirWaits}
use Rattle.two_path.specs.Turns.{Tapes, blocks_of, tapes_of, entry_of}
use Rattle.two_path.proofs.Steady.{shared_behind, waits_behind, swapped}
use Rattle.two_path.proofs.machine.Machine.turn_into.Goals as goal

pub invariant_of-self : goal.invariant_of-self
invariant_of-self c =
    shared_behind (blocks_of c.args.left.now) (c.control_goes_as_the_flow_orders.ensures.fixed c.args.left.now) One
    c.self.inside.paths.one c.self.inside.paths.two c.take_turn.new.me c.take_turn.new.other c.self.inside.joint c.take_turn.new.joint
    c.take_turn.ensures.machine c.take_turn.ensures.lasting c.self.invariant.0 c.self.invariant.1

pub invariant_of-self-in-Two : goal.invariant_of-self-in-Two
invariant_of-self-in-Two c =
    let both = shared_behind (blocks_of c.args.right.now) (c.control_goes_as_the_flow_orders.ensures.fixed c.args.right.now) Two
    c.self.inside.paths.two c.self.inside.paths.one c.take_turn-in-Two.new.me c.take_turn-in-Two.new.other c.self.inside.joint c.take_turn-in-Two.new.joint
    c.take_turn-in-Two.ensures.machine c.take_turn-in-Two.ensures.lasting c.self.invariant.1 c.self.invariant.0 in
    (both.1, both.0)

pub returns-in-One-clause-waits : goal.returns-in-One-clause-waits
returns-in-One-clause-waits c =
    let m : MachineView = machine_of c.self.inside.paths.one c.self.inside.paths.two c.self.inside.joint in
    let waits : AreAtTheirWaits c.args.left.now.order c.args.right.now.order m =
    subst (λ (x : RoomyMachine). AreAtTheirWaits c.args.left.now.order c.args.right.now.order x.machine) (sym c.self.view_is) c.requires.waits in
    waits_behind c.args.left.now.order c.args.right.now.order (blocks_of c.args.left.now) (c.control_goes_as_the_flow_orders.ensures.control c.args.left.now) One
    m (machine_of c.take_turn.new.me c.take_turn.new.other c.take_turn.new.joint) c.take_turn.ensures.machine waits

pub returns-in-Two-clause-waits : goal.returns-in-Two-clause-waits
returns-in-Two-clause-waits c =
    let m : MachineView = machine_of c.self.inside.paths.one c.self.inside.paths.two c.self.inside.joint in
    let waits : AreAtTheirWaits c.args.left.now.order c.args.right.now.order m =
    subst (λ (x : RoomyMachine). AreAtTheirWaits c.args.left.now.order c.args.right.now.order x.machine) (sym c.self.view_is) c.requires.waits in
    swapped c.args.right.now.order c.args.left.now.order (machine_of c.take_turn-in-Two.new.me c.take_turn-in-Two.new.other c.take_turn-in-Two.new.joint)
    (waits_behind c.args.right.now.order c.args.left.now.order (blocks_of c.args.right.now) (c.control_goes_as_the_flow_orders.ensures.control c.args.right.now) Two
    (own_first Two m) (machine_of c.take_turn-in-Two.new.me c.take_turn-in-Two.new.other c.take_turn-in-Two.new.joint) c.take_turn-in-Two.ensures.machine
    (swapped c.args.left.now.order c.args.right.now.order m waits))

pub returns-in-One-clause-entry : goal.returns-in-One-clause-entry
returns-in-One-clause-entry c =
    let tapes : Tapes = tapes_of c.args.left.now c.args.right.now in
    c.take_turn.ensures.entry
    ∙ ap (λ (x : RoomyMachine). entry_of tapes One x.machine) c.self.view_is
    ∙ ap (λ (path : Path). entry_of tapes path c.args.self.now.machine) (sym c.in-One.is)

pub returns-in-Two-clause-entry : goal.returns-in-Two-clause-entry
returns-in-Two-clause-entry c =
    let tapes : Tapes = tapes_of c.args.left.now c.args.right.now in
    c.take_turn-in-Two.ensures.entry
    ∙ ap (λ (x : RoomyMachine). entry_of tapes Two x.machine) c.self.view_is
    ∙ ap (λ (path : Path). entry_of tapes path c.args.self.now.machine) (sym c.in-Two.is)
