-- Each record of the history may be done again, and what is kept goes on to be all findings
-- (`kept_findings`, src/judging.rt).
use Rattle.std.proofs.Common.{◌≡◌, ◌+◌, ◌≤◌, ◌<◌, length, take, drop, refl, sym, subst, ◌∙◌, arith}
use Rattle.nc_number.specs.declared.path.Path.TheVariants.{One, Two}
use Rattle.path_state.specs.Opening.{opening_path}
use Rattle.two_path.specs.Machine.{MachineView, without_reads}
use Rattle.two_path.specs.Turns.{tapes_of}
use Rattle.two_path.specs.Histories.{IsLegal}
use Rattle.two_path.specs.Joined.{AreAtTheirWaits}
use Rattle.two_path.proofs.Replays.{records_from, records_to, next_is_legal, fold_more, counted, none_waits}
use Rattle.two_path.specs.Start.{machine_at_start}
use Rattle.zone_check.proofs.Lapped.{findings_on, findings_at_end, same_findings}
use Rattle.zone_check.proofs.judging.kept_findings.Goals as goal

pub loop-index-init : goal.loop-index-init
loop-index-init c =
    let left = c.args.left.now in
    let right = c.args.right.now in
    let at = c.reserve.ensures.machine ∙ c.in_ok-machine.ensures in
    record {
      folds = at;
      legal = subst (λ (x : MachineView). IsLegal (tapes_of left right) x c.args.entries.now.items) (sym at) c.requires.legal;
      no_reads = subst (λ (x : MachineView). without_reads x ≡ x) (sym at) refl;
      waits = subst (λ (x : MachineView). AreAtTheirWaits left.order right.order x) (sym at) (none_waits _ _ _ _);
      room = omega (arith, c.in_ok-reserve.ensures.room);
      all = rw (c.in_ok-kept.ensures, at) refl;
    }

pub loop-index-preserved : goal.loop-index-preserved
loop-index-preserved c =
    let tapes = tapes_of c.args.left.now c.args.right.now in
    let start = machine_at_start c.args.left.now c.args.right.now c.args.settings.now in
    let entries = c.args.entries.now.items in
    let i = c.loop-index.index in
    let m = c.loop-index.machine.machine in
    let e = c.get-entry.result in
    let within : i < length entries = omega (arith, c.loop-index-test.true, c.len-index-end.ensures) in
    let from = records_from entries i e within c.get-entry.ensures in
    let to = records_to entries i e within c.get-entry.ensures in
    let done = c.done_again-turn.ensures.done in
    let next = next_is_legal tapes m (drop i entries) (drop (i + 1) entries) e from c.loop-index.invariant.legal in
    record {
      folds = done.machine ∙ fold_more tapes start m (take i entries) (take (i + 1) entries) e to c.loop-index.invariant.folds;
      legal = subst (λ (x : MachineView). IsLegal tapes x (drop (i + 1) entries)) (sym done.machine) next.1;
      no_reads = c.done_again-turn.ensures.no_reads;
      waits = c.done_again-turn.ensures.waits;
      room = omega (arith, c.done_again-turn.ensures.room, c.loop-index.invariant.room);
      all = findings_on tapes c.args.cell.now m _ c.loop-index.kept _ _ (drop i entries) (drop (i + 1) entries) e c.done_again-turn.result from done.machine done.answer c.in_ok-take.ensures c.loop-index.invariant.all;
    }

pub done_again-turn-requires-clause-legal : goal.done_again-turn-requires-clause-legal
done_again-turn-requires-clause-legal c =
    let tapes = tapes_of c.args.left.now c.args.right.now in
    let entries = c.args.entries.now.items in
    let i = c.loop-index.index in
    let e = c.get-entry.result in
    let within : i < length entries = omega (arith, c.loop-index-test.true, c.len-index-end.ensures) in
    (next_is_legal tapes c.loop-index.machine.machine (drop i entries) (drop (i + 1) entries) e
    (records_from entries i e within c.get-entry.ensures) c.loop-index.invariant.legal).0

pub done_again-turn-requires-clause-room : goal.done_again-turn-requires-clause-room
done_again-turn-requires-clause-room c =
    let left = c.args.left.now in
    let right = c.args.right.now in
    let settings = c.args.settings.now in
    let law = c.histories_are_runs.ensures (tapes_of left right) (opening_path left settings One) (opening_path right settings Two) in
    let within : c.loop-index.index ≤ length c.args.entries.now.items = omega (arith, c.loop-index-test.true) in
    let count = counted (tapes_of left right) (machine_at_start left right settings) c.loop-index.machine.machine c.args.entries.now.items c.loop-index.index law c.requires.legal within c.loop-index.invariant.folds in
    omega (arith, count, c.loop-index-test.true, c.loop-index.invariant.room)

pub done_again-turn-requires-clause-few : goal.done_again-turn-requires-clause-few
done_again-turn-requires-clause-few c =
    let left = c.args.left.now in
    let right = c.args.right.now in
    let settings = c.args.settings.now in
    let law = c.histories_are_runs.ensures (tapes_of left right) (opening_path left settings One) (opening_path right settings Two) in
    let within : c.loop-index.index ≤ length c.args.entries.now.items = omega (arith, c.loop-index-test.true) in
    let count = counted (tapes_of left right) (machine_at_start left right settings) c.loop-index.machine.machine c.args.entries.now.items c.loop-index.index law c.requires.legal within c.loop-index.invariant.folds in
    omega (arith, count, c.loop-index-test.true, c.requires.few)

pub returns : goal.returns
returns c =
    same_findings _ _ _ _
    (findings_at_end (tapes_of c.args.left.now c.args.right.now) c.args.cell.now c.loop-index.machine.machine c.loop-index.kept _ c.args.entries.now.items c.loop-index.index
    (omega (arith, c.loop-index-test.false, c.len-index-end.ensures)) c.loop-index.invariant.all)
    c.into_list.ensures
