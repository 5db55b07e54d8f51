-- For the proof of `machine_done` (src/machine.rt): each record is legal where it is done again,
-- and after the last one the machine is that after the history.
use Rattle.std.proofs.Common.{◌≡◌, ◌+◌, ◌≤◌, ◌<◌, drop, length, take, refl, sym, subst, ◌∙◌, ap, arith}
use Rattle.std.proofs.lemmas.List.{take_all}
use Rattle.nc_number.specs.declared.path.Path.TheVariants.{One, Two}
use Rattle.path_state.specs.Opening.{opening_path}
use Rattle.two_path.specs.Machine.{MachineView, without_reads}
use Rattle.two_path.specs.Turns.{tapes_of}
use Rattle.two_path.specs.Histories.{IsLegal, fold}
use Rattle.two_path.specs.Joined.{AreAtTheirWaits}
use Rattle.two_path.specs.Start.{machine_at_start}
use Rattle.two_path.proofs.Replays.{counted, fold_more, next_is_legal, none_waits, records_from, records_to}
use Rattle.lathe_calls.proofs.machine.machine_done.Goals as goal

pub loop-index-init : goal.loop-index-init
loop-index-init c =
    let left = c.args.left.now in
    let right = c.args.right.now in
    let at = c.in_ok-machine.ensures in
    record {
      folds = at;
      legal = subst (λ (x : MachineView). IsLegal (tapes_of left right) x c.args.entries.now.items) (sym at) c.requires.legal;
      no_reads = subst (λ (x : MachineView). without_reads x ≡ x) (sym at) refl;
      waits = subst (λ (x : MachineView). AreAtTheirWaits left.order right.order x) (sym at) (none_waits _ _ _ _);
    }

pub loop-index-preserved : goal.loop-index-preserved
loop-index-preserved c =
    let tapes = tapes_of c.args.left.now c.args.right.now in
    let start = machine_at_start c.args.left.now c.args.right.now c.args.settings.now in
    let entries = c.args.entries.now.items in
    let i = c.loop-index.index in
    let m = c.loop-index.machine.machine in
    let e = c.get-entry.result in
    let within : i < length entries = omega (arith, c.loop-index-test.true, c.len-index-end.ensures) in
    let from = records_from entries i e within c.get-entry.ensures in
    let to = records_to entries i e within c.get-entry.ensures in
    let done = c.in_ok-do_again.ensures in
    let next = next_is_legal tapes m (drop i entries) (drop (i + 1) entries) e from c.loop-index.invariant.legal in
    record {
      folds = done.machine ∙ fold_more tapes start m (take i entries) (take (i + 1) entries) e to c.loop-index.invariant.folds;
      legal = subst (λ (x : MachineView). IsLegal tapes x (drop (i + 1) entries)) (sym done.machine) next.1;
      no_reads = done.no_reads;
      waits = done.waits;
    }

pub do_again-requires-clause-legal : goal.do_again-requires-clause-legal
do_again-requires-clause-legal c =
    let entries = c.args.entries.now.items in
    let i = c.loop-index.index in
    let e = c.get-entry.result in
    let within : i < length entries = omega (arith, c.loop-index-test.true, c.len-index-end.ensures) in
    (next_is_legal (tapes_of c.args.left.now c.args.right.now) c.loop-index.machine.machine (drop i entries) (drop (i + 1) entries) e
    (records_from entries i e within c.get-entry.ensures) c.loop-index.invariant.legal).0

pub do_again-requires-clause-few : goal.do_again-requires-clause-few
do_again-requires-clause-few c =
    let left = c.args.left.now in
    let right = c.args.right.now in
    let settings = c.args.settings.now in
    let law = c.histories_are_runs.ensures (tapes_of left right) (opening_path left settings One) (opening_path right settings Two) in
    let within : c.loop-index.index ≤ length c.args.entries.now.items = omega (arith, c.loop-index-test.true, c.len-index-end.ensures) in
    let count = counted (tapes_of left right) (machine_at_start left right settings) c.loop-index.machine.machine c.args.entries.now.items
    c.loop-index.index law c.requires.legal within c.loop-index.invariant.folds in
    omega (arith, count, c.loop-index-test.true, c.len-index-end.ensures, c.requires.few)

pub returns-clause-machine : goal.returns-clause-machine
returns-clause-machine c =
    c.loop-index.invariant.folds
    ∙ ap (fold (tapes_of c.args.left.now c.args.right.now) (machine_at_start c.args.left.now c.args.right.now c.args.settings.now))
    (take_all c.loop-index.index c.args.entries.now.items (omega (arith, c.loop-index-test.false, c.len-index-end.ensures)))
