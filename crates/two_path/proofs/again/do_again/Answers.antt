-- A record is done again: what its call of `settle` requires, its machine, its turn with the moves
-- apart, and what stays ready; or it is refused and nothing changes (src/again.rt).
use Rattle.std.proofs.Common.{◌≡◌, Some, sym, ap, ◌∙◌}
use Rattle.path_state.specs.Effect.{effect_of}
use Rattle.run_records.specs.Entries.{Entry}
use Rattle.tape_flow.specs.Places.{line_at}
use Rattle.two_path.specs.declared.turn.Turn.{Turn}
use Rattle.two_path.specs.Machine.{MachineView, Part, part_without_reads}
use Rattle.two_path.specs.Turns.{blocks_of, block_turn}
use Rattle.two_path.specs.Made.{answer_of, moves_of_turn}
use Rattle.two_path.specs.Joined.{machine_of}
use Rattle.two_path.proofs.Apart.{by_effect, is_joined, still_apart}
use Rattle.two_path.proofs.Redone.{done, fit, fit_shared, ready_behind, refused, still_ready, unfit_kind}
use Rattle.two_path.proofs.again.do_again.Goals as goal

pub settle-requires-clause-taken : goal.settle-requires-clause-taken
settle-requires-clause-taken c =
    let blocks = blocks_of c.args.flow.now in
    let it = c.in-Ok-take_due.ensures.taken in
    let fitted = fit blocks c.args.entry.now c.args.me.now c.read_due.new.me c.args.other.now c.args.joint.now c.in-Ok.ensures.awake c.in-Ok.ensures.read
    (it.due ∙ ap (λ (e : Entry). Some e.kind) c.entry.view_is) in (
      c.read_due.new.me,
      (
        c.take_due.new.moves,
        (
          fit_shared blocks c.args.entry.now c.args.me.now c.read_due.new.me c.args.other.now c.args.joint.now fitted c.requires.ready.my_shared,
          it.taken,
        ),
      ),
    )

pub returns-in-Ok-take_due-clause-done : goal.returns-in-Ok-take_due-clause-done
returns-in-Ok-take_due-clause-done c =
    let blocks = blocks_of c.args.flow.now in
    let read : Part = c.read_due.new.me in
    let m : MachineView = machine_of read c.args.other.now c.args.joint.now in
    let turn : Turn = (block_turn blocks c.args.entry.now.path m).turn in
    let it = c.in-Ok-take_due.ensures.taken in
    let is : c.settle.result.answer ≡ answer_of turn =
    c.settle.ensures.answer read c.take_due.new.moves (sym c.line-line.ensures) it.taken
    ∙ ap (λ (e : Entry). answer_of (block_turn blocks e.path m).turn) c.entry.view_is in
    let are : c.take_due.new.moves ≡ moves_of_turn turn =
    it.are.are ∙ by_effect c.args.entry.now.path (line_at c.args.flow.now.order read.path.place) m (effect_of c.args.flow.now read.path read.values) in
    done blocks c.args.entry.now c.args.me.now read c.args.other.now c.args.joint.now
    (machine_of c.settle.new.me c.settle.new.other c.settle.new.joint) _
    (fit blocks c.args.entry.now c.args.me.now read c.args.other.now c.args.joint.now c.in-Ok.ensures.awake c.in-Ok.ensures.read
    (it.due ∙ ap (λ (e : Entry). Some e.kind) c.entry.view_is))
    c.requires.ready.other_reads
    (c.settle.ensures.machine read c.take_due.new.moves (sym c.line-line.ensures) it.taken
    ∙ ap (λ (e : Entry). (block_turn blocks e.path m).machine) c.entry.view_is)
    (is_joined turn c.settle.result.answer c.take_due.new.moves is are)

pub returns-in-Ok-take_due-clause-apart : goal.returns-in-Ok-take_due-clause-apart
returns-in-Ok-take_due-clause-apart c =
    let blocks = blocks_of c.args.flow.now in
    let read : Part = c.read_due.new.me in
    let m : MachineView = machine_of read c.args.other.now c.args.joint.now in
    let turn : Turn = (block_turn blocks c.args.entry.now.path m).turn in
    let it = c.in-Ok-take_due.ensures.taken in
    let is : c.settle.result.answer ≡ answer_of turn =
    c.settle.ensures.answer read c.take_due.new.moves (sym c.line-line.ensures) it.taken
    ∙ ap (λ (e : Entry). answer_of (block_turn blocks e.path m).turn) c.entry.view_is in
    let are : c.take_due.new.moves ≡ moves_of_turn turn =
    it.are.are ∙ by_effect c.args.entry.now.path (line_at c.args.flow.now.order read.path.place) m (effect_of c.args.flow.now read.path read.values) in
    still_apart turn c.settle.result.answer c.take_due.new.moves is are

pub returns-in-Ok-take_due-clause-ready : goal.returns-in-Ok-take_due-clause-ready
returns-in-Ok-take_due-clause-ready c =
    ready_behind c.args.flow.now.order c.args.other_flow.now.order (blocks_of c.args.flow.now)
    (c.control_goes_as_the_flow_orders.ensures.control c.args.flow.now) (c.control_goes_as_the_flow_orders.ensures.fixed c.args.flow.now)
    c.args.entry.now.path c.args.entry.now.kind c.args.entry.now.stamps c.args.me.now c.args.other.now c.settle.new.me c.settle.new.other
    c.args.joint.now c.settle.new.joint _
    (returns-in-Ok-take_due-clause-done c) c.settle.ensures.lasting c.requires.ready

pub returns-in-Err-take_due-clause-refused : goal.returns-in-Err-take_due-clause-refused
returns-in-Err-take_due-clause-refused c =
    let blocks = blocks_of c.args.flow.now in
    let it = c.in-Err-take_due.ensures.refused in
    refused blocks c.args.entry.now c.args.me.now c.read_due.new.me c.refuse.new.me c.args.other.now c.args.joint.now
    (unfit_kind blocks c.args.entry.now c.args.me.now c.read_due.new.me c.args.other.now c.args.joint.now c.in-Ok.ensures.awake
    c.requires.ready.my_reads c.in-Ok.ensures.read (λ is. it.differs (is ∙ ap (λ (e : Entry). Some e.kind) (sym c.entry.view_is))))
    (c.refuse.ensures.part ∙ ap part_without_reads it.stays)

pub returns-in-Err-clause-refused : goal.returns-in-Err-clause-refused
returns-in-Err-clause-refused c =
    refused (blocks_of c.args.flow.now) c.args.entry.now c.args.me.now c.read_due.new.me c.refuse-in-Err.new.me c.args.other.now c.args.joint.now
    (c.in-Err.ensures.refused c.args.other.now) c.refuse-in-Err.ensures.part

pub returns-in-Err-clause-ready : goal.returns-in-Err-clause-ready
returns-in-Err-clause-ready c =
    still_ready c.args.flow.now.order c.args.other_flow.now.order c.args.me.now c.read_due.new.me c.refuse-in-Err.new.me c.args.other.now c.args.joint.now
    (blocks_of c.args.flow.now) c.args.entry.now c.requires.ready (c.in-Err.ensures.refused c.args.other.now) c.refuse-in-Err.ensures.part
