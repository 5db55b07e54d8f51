-- For the proof of `give_turns` (src/ordering.rt): the events of the turns that are given are
-- listed, and no turn is given once there are as many records as there may be.
use Rattle.std.proofs.Common.{◌+◌, ◌<◌, ◌++◌, drop, get_or, map, refl, ◌∙◌, ap, arith}
use Rattle.std.proofs.lemmas.List.{at_drop_all, drop_more}
use Rattle.nc_number.specs.declared.path.Path.{Path}
use Rattle.two_path.specs.Turns.{tapes_of, turn_of}
use Rattle.lathe_calls.specs.Events.{events_of_turn}
use Rattle.lathe_calls.specs.Order.{turns_given, path_at}
use Rattle.lathe_calls.proofs.TurnByTurn.{events_at_end, events_go_on, given_full, run_at_end, run_goes_on}
use Rattle.lathe_calls.proofs.ordering.give_turns.Goals as goal

pub loop-byte-init : goal.loop-byte-init
loop-byte-init c = record { list = refl; machine = refl; waits = c.requires.waits }

pub give_turn-requires-clause-few : goal.give_turn-requires-clause-few
give_turn-requires-clause-few c = omega (arith, c.count.ensures, c.requires.few)

pub loop-byte-preserved : goal.loop-byte-preserved
loop-byte-preserved c =
    let tapes = tapes_of c.args.left.now c.args.right.now in
    let i = c.loop-byte.byte-index in
    let m = c.loop-byte.machine.machine in
    let order = c.args.order.now in
    let path = path_at (get_or order i 0) in
    let from = ap (map path_at) (drop_more order i 0 c.loop-byte-test.true) in
    let few : m.count < c.args.most = omega (arith, c.count.ensures) in
    let turned = c.in_ok-give_turn.ensures.machine ∙ ap (λ (p : Path). (turn_of tapes p m).machine) c.path_at.ensures in
    let told = c.in_ok-give_turn.ensures.list
    ∙ ap (λ (p : Path). c.loop-byte.list.items ++ events_of_turn tapes p m) c.path_at.ensures in
    record {
      list = events_go_on tapes c.args.most m c.give_turn.new.machine.machine path (map path_at (drop i order)) (map path_at (drop (i + 1) order))
          c.loop-byte.list.items c.give_turn.new.list.items _ from few turned told c.loop-byte.invariant.list;
      machine = run_goes_on tapes c.args.most m c.give_turn.new.machine.machine _ path (map path_at (drop i order)) (map path_at (drop (i + 1) order))
          from few turned c.loop-byte.invariant.machine;
      waits = c.in_ok-give_turn.ensures.waits;
    }

pub returns-then-count-most-clause-list : goal.returns-then-count-most-clause-list
returns-then-count-most-clause-list c =
    let tapes = tapes_of c.args.left.now c.args.right.now in
    let m = c.loop-byte.machine.machine in
    events_at_end tapes c.args.most m _ _ _ (given_full tapes c.args.most m _ (omega (arith, c.count.ensures, c.if-count-most.true)))
    c.loop-byte.invariant.list

pub returns-then-count-most-clause-machine : goal.returns-then-count-most-clause-machine
returns-then-count-most-clause-machine c =
    let tapes = tapes_of c.args.left.now c.args.right.now in
    let m = c.loop-byte.machine.machine in
    run_at_end tapes c.args.most m _ _ (given_full tapes c.args.most m _ (omega (arith, c.count.ensures, c.if-count-most.true)))
    c.loop-byte.invariant.machine

pub returns-clause-list : goal.returns-clause-list
returns-clause-list c =
    let tapes = tapes_of c.args.left.now c.args.right.now in
    events_at_end tapes c.args.most c.loop-byte.machine.machine _ _ _
    (at_drop_all (λ order. turns_given tapes c.args.most c.loop-byte.machine.machine (map path_at order)) c.args.order.now c.loop-byte.byte-index
    (omega (arith, c.loop-byte-test.false)))
    c.loop-byte.invariant.list

pub returns-clause-machine : goal.returns-clause-machine
returns-clause-machine c =
    let tapes = tapes_of c.args.left.now c.args.right.now in
    run_at_end tapes c.args.most c.loop-byte.machine.machine _ _
    (at_drop_all (λ order. turns_given tapes c.args.most c.loop-byte.machine.machine (map path_at order)) c.args.order.now c.loop-byte.byte-index
    (omega (arith, c.loop-byte-test.false)))
    c.loop-byte.invariant.machine
