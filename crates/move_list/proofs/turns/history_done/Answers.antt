-- For the proof of `history_done` (src/turns.rt): each record is done again as a turn, in order;
-- the moves and the machine after them are those of the history.
use Rattle.std.proofs.Common.{◌≡◌, ◌+◌, ◌≤◌, ◌<◌, ◌++◌, length, take, drop, refl, sym, subst, ◌∙◌, ap, arith}
use Rattle.std.proofs.lemmas.List.{take_all}
use Rattle.nc_number.specs.declared.path.Path.TheVariants.{One, Two}
use Rattle.path_state.specs.Opening.{opening_path}
use Rattle.two_path.specs.Machine.{MachineView, without_reads}
use Rattle.two_path.specs.Turns.{tapes_of}
use Rattle.two_path.specs.Histories.{IsLegal, fold}
use Rattle.two_path.specs.Joined.{AreAtTheirWaits}
use Rattle.two_path.specs.Made.{moves_made_by}
use Rattle.run_records.specs.Entries.{Entry}
use Rattle.two_path.specs.Start.{machine_at_start}
use Rattle.two_path.proofs.Replays.{records_from, records_to, moves_on, moves_at_end, next_is_legal, fold_more, counted, none_waits}
use Rattle.move_list.proofs.turns.history_done.Goals as goal

pub loop-index-init : goal.loop-index-init
loop-index-init c =
    let left = c.args.left.now in
    let right = c.args.right.now in
    let at = c.reserve.ensures.machine ∙ c.in_ok-machine.ensures in
    record {
      folds = at;
      legal = subst (λ (x : MachineView). IsLegal (tapes_of left right) x c.args.entries.now.items) (sym at) c.requires.legal;
      no_reads = subst (λ (x : MachineView). without_reads x ≡ x) (sym at) refl;
      waits = subst (λ (x : MachineView). AreAtTheirWaits left.order right.order x) (sym at) (none_waits _ _ _ _);
      room = omega (arith, c.in_ok-reserve.ensures.room);
      one = rw (c.no_moves-made.ensures.one, at) refl;
      two = rw (c.no_moves-made.ensures.two, at) refl;
    }

pub loop-index-preserved : goal.loop-index-preserved
loop-index-preserved c =
    let tapes = tapes_of c.args.left.now c.args.right.now in
    let start = machine_at_start c.args.left.now c.args.right.now c.args.settings.now in
    let entries = c.args.entries.now.items in
    let i = c.loop-index.index in
    let m = c.loop-index.machine.machine in
    let e = c.get-entry.result in
    let within : i < length entries = omega (arith, c.loop-index-test.true, c.len-index-end.ensures) in
    let from = records_from entries i e within c.get-entry.ensures in
    let to = records_to entries i e within c.get-entry.ensures in
    let done = c.done_again-turn.ensures.done in
    let next = next_is_legal tapes m (drop i entries) (drop (i + 1) entries) e from c.loop-index.invariant.legal in
    record {
      folds = done.machine ∙ fold_more tapes start m (take i entries) (take (i + 1) entries) e to c.loop-index.invariant.folds;
      legal = subst (λ (x : MachineView). IsLegal tapes x (drop (i + 1) entries)) (sym done.machine) next.1;
      no_reads = c.done_again-turn.ensures.no_reads;
      waits = c.done_again-turn.ensures.waits;
      room = omega (arith, c.done_again-turn.ensures.room, c.loop-index.invariant.room);
      one = moves_on tapes One m _ c.loop-index.made.one.items _ _ (drop i entries) (drop (i + 1) entries) e c.done_again-turn.result from done.machine done.answer (c.in_ok-add_turn_of.ensures.one ∙ ap (λ (x : Entry). c.loop-index.made.one.items ++ moves_made_by One (record { path = x.path; turn = c.done_again-turn.result })) c.entry.view_is) c.loop-index.invariant.one;
      two = moves_on tapes Two m _ c.loop-index.made.two.items _ _ (drop i entries) (drop (i + 1) entries) e c.done_again-turn.result from done.machine done.answer (c.in_ok-add_turn_of.ensures.two ∙ ap (λ (x : Entry). c.loop-index.made.two.items ++ moves_made_by Two (record { path = x.path; turn = c.done_again-turn.result })) c.entry.view_is) c.loop-index.invariant.two;
    }

pub done_again-turn-requires-clause-legal : goal.done_again-turn-requires-clause-legal
done_again-turn-requires-clause-legal c =
    let tapes = tapes_of c.args.left.now c.args.right.now in
    let entries = c.args.entries.now.items in
    let i = c.loop-index.index in
    let e = c.get-entry.result in
    let within : i < length entries = omega (arith, c.loop-index-test.true, c.len-index-end.ensures) in
    (next_is_legal tapes c.loop-index.machine.machine (drop i entries) (drop (i + 1) entries) e
    (records_from entries i e within c.get-entry.ensures) c.loop-index.invariant.legal).0

pub done_again-turn-requires-clause-room : goal.done_again-turn-requires-clause-room
done_again-turn-requires-clause-room c =
    let left = c.args.left.now in
    let right = c.args.right.now in
    let settings = c.args.settings.now in
    let law = c.histories_are_runs.ensures (tapes_of left right) (opening_path left settings One) (opening_path right settings Two) in
    let within : c.loop-index.index ≤ length c.args.entries.now.items = omega (arith, c.loop-index-test.true) in
    let count = counted (tapes_of left right) (machine_at_start left right settings) c.loop-index.machine.machine c.args.entries.now.items c.loop-index.index law c.requires.legal within c.loop-index.invariant.folds in
    omega (arith, count, c.loop-index-test.true, c.loop-index.invariant.room)

pub done_again-turn-requires-clause-few : goal.done_again-turn-requires-clause-few
done_again-turn-requires-clause-few c =
    let left = c.args.left.now in
    let right = c.args.right.now in
    let settings = c.args.settings.now in
    let law = c.histories_are_runs.ensures (tapes_of left right) (opening_path left settings One) (opening_path right settings Two) in
    let within : c.loop-index.index ≤ length c.args.entries.now.items = omega (arith, c.loop-index-test.true) in
    let count = counted (tapes_of left right) (machine_at_start left right settings) c.loop-index.machine.machine c.args.entries.now.items c.loop-index.index law c.requires.legal within c.loop-index.invariant.folds in
    omega (arith, count, c.loop-index-test.true, c.requires.few)

pub returns-clause-one : goal.returns-clause-one
returns-clause-one c =
    moves_at_end (tapes_of c.args.left.now c.args.right.now) One c.loop-index.machine.machine _ _ c.args.entries.now.items c.loop-index.index
    (omega (arith, c.loop-index-test.false, c.len-index-end.ensures)) c.loop-index.invariant.one

pub returns-clause-two : goal.returns-clause-two
returns-clause-two c =
    moves_at_end (tapes_of c.args.left.now c.args.right.now) Two c.loop-index.machine.machine _ _ c.args.entries.now.items c.loop-index.index
    (omega (arith, c.loop-index-test.false, c.len-index-end.ensures)) c.loop-index.invariant.two

pub returns-clause-machine : goal.returns-clause-machine
returns-clause-machine c =
    c.loop-index.invariant.folds
    ∙ ap (fold (tapes_of c.args.left.now c.args.right.now) (machine_at_start c.args.left.now c.args.right.now c.args.settings.now))
    (take_all c.loop-index.index c.args.entries.now.items (omega (arith, c.loop-index-test.false, c.len-index-end.ensures)))
