-- For the proof of `put_from`: it puts the trace of a history, from its machine before the first
-- record on; if the sink fails or memory runs out, a prefix of that (src/tracing.rt).
use Rattle.std.proofs.Common.{◌≡◌, ◌+◌, ◌≤◌, ◌<◌, length, take, drop, refl, sym, subst, ◌∙◌, arith}
use Rattle.std.proofs.lemmas.Result.{err_from_is_err_and}
use Rattle.nc_number.specs.declared.path.Path.TheVariants.{One, Two}
use Rattle.path_state.specs.Opening.{opening_path}
use Rattle.two_path.specs.Machine.{MachineView, without_reads}
use Rattle.two_path.specs.Turns.{tapes_of}
use Rattle.two_path.specs.Histories.{IsLegal}
use Rattle.two_path.specs.Joined.{AreAtTheirWaits}
use Rattle.two_path.specs.Again.{turn_of_entry}
use Rattle.move_list.specs.EndText.{end_text}
use Rattle.two_path.specs.Start.{machine_at_start}
use Rattle.two_path.proofs.Replays.{records_from, records_to, next_is_legal, fold_more, counted, none_waits}
use Rattle.trace_list.proofs.InParts.{has_begun, has_more, has_broken, has_ended}
use Rattle.trace_list.proofs.Traced.{met_few, none_left, record_parts, start_parts}
use Rattle.trace_list.proofs.tracing.put_from.Goals as goal

pub returns-in_err-put_start : goal.returns-in_err-put_start
returns-in_err-put_start g c =
    let p = err_from_is_err_and c.from_residual.result c.from_residual.ensures.1 in
    rw (p.1, p.2)
    (has_broken _ _ _ _ _ _ _ _
    (start_parts c.args.left.now c.args.right.now c.args.settings.now c.args.machine.machine c.homes_of-homes.result.one c.homes_of-homes.result.two
    c.args.entries.now.items c.args.reason.now c.requires.begins c.homes_of-homes.ensures.one c.homes_of-homes.ensures.two)
    (has_begun _ _ _ refl) c.in_err-put_start.ensures)

pub loop-index-init : goal.loop-index-init
loop-index-init g c =
    let left = c.args.left.now in
    let right = c.args.right.now in
    let at = c.requires.begins in
    record {
      folds = at;
      legal = subst (λ (x : MachineView). IsLegal (tapes_of left right) x c.args.entries.now.items) (sym at) c.requires.legal;
      no_reads = subst (λ (x : MachineView). without_reads x ≡ x) (sym at) refl;
      waits = subst (λ (x : MachineView). AreAtTheirWaits left.order right.order x) (sym at) (none_waits _ _ _ _);
      met = omega arith;
      put = has_more _ _ _ _ _ _ _
          (start_parts left right c.args.settings.now c.args.machine.machine c.homes_of-homes.result.one c.homes_of-homes.result.two
          c.args.entries.now.items c.args.reason.now at c.homes_of-homes.ensures.one c.homes_of-homes.ensures.two)
          (has_begun _ _ _ refl) c.in_ok-put_start.ensures;
    }

pub loop-index-preserved : goal.loop-index-preserved
loop-index-preserved g c =
    let tapes = tapes_of c.args.left.now c.args.right.now in
    let start = machine_at_start c.args.left.now c.args.right.now c.args.settings.now in
    let entries = c.args.entries.now.items in
    let i = c.loop-index.index in
    let m = c.loop-index.machine.machine in
    let e = c.get-entry.result in
    let within : i < length entries = omega (arith, c.loop-index-test.true, c.len-index-end.ensures) in
    let from = records_from entries i e within c.get-entry.ensures in
    let to = records_to entries i e within c.get-entry.ensures in
    let done = c.in_ok-put_again.ensures in
    let next = next_is_legal tapes m (drop i entries) (drop (i + 1) entries) e from c.loop-index.invariant.legal in
    let few = met_few c.loop-index.met i (turn_of_entry tapes e m) c.loop-index.invariant.met in
    record {
      folds = done.machine ∙ fold_more tapes start m (take i entries) (take (i + 1) entries) e to c.loop-index.invariant.folds;
      legal = subst (λ (x : MachineView). IsLegal tapes x (drop (i + 1) entries)) (sym done.machine) next.1;
      no_reads = done.no_reads;
      waits = done.waits;
      met = omega (arith, done.met, few);
      put = has_more _ _ _ _ _ _ _
          (record_parts tapes c.loop-index.met _ m _ (drop i entries) (drop (i + 1) entries) e (end_text (length entries) c.args.reason.now) from done.met done.machine)
          c.loop-index.invariant.put done.put;
    }

pub put_again-requires-clause-legal : goal.put_again-requires-clause-legal
put_again-requires-clause-legal g c =
    let tapes = tapes_of c.args.left.now c.args.right.now in
    let entries = c.args.entries.now.items in
    let i = c.loop-index.index in
    let e = c.get-entry.result in
    let within : i < length entries = omega (arith, c.loop-index-test.true, c.len-index-end.ensures) in
    (next_is_legal tapes c.loop-index.machine.machine (drop i entries) (drop (i + 1) entries) e
    (records_from entries i e within c.get-entry.ensures) c.loop-index.invariant.legal).0

pub put_again-requires-clause-few : goal.put_again-requires-clause-few
put_again-requires-clause-few g c =
    let left = c.args.left.now in
    let right = c.args.right.now in
    let settings = c.args.settings.now in
    let law = c.histories_are_runs.ensures (tapes_of left right) (opening_path left settings One) (opening_path right settings Two) in
    let within : c.loop-index.index ≤ length c.args.entries.now.items = omega (arith, c.loop-index-test.true, c.len-index-end.ensures) in
    let count = counted (tapes_of left right) (machine_at_start left right settings) c.loop-index.machine.machine c.args.entries.now.items c.loop-index.index law c.requires.legal within c.loop-index.invariant.folds in
    omega (arith, count, c.loop-index-test.true, c.len-index-end.ensures, c.requires.few)

pub put_again-requires-clause-few_met : goal.put_again-requires-clause-few_met
put_again-requires-clause-few_met g c =
    omega (arith, c.loop-index.invariant.met, c.loop-index-test.true, c.len-index-end.ensures, c.requires.few)

pub returns-in_err-put_again : goal.returns-in_err-put_again
returns-in_err-put_again g c =
    let tapes = tapes_of c.args.left.now c.args.right.now in
    let entries = c.args.entries.now.items in
    let i = c.loop-index.index in
    let m = c.loop-index.machine.machine in
    let e = c.get-entry.result in
    let within : i < length entries = omega (arith, c.loop-index-test.true, c.len-index-end.ensures) in
    let p = err_from_is_err_and c.from_residual-in_err-put_again.result c.from_residual-in_err-put_again.ensures.1 in
    rw (p.1, p.2)
    (has_broken _ _ _ _ _ _ _ _
    (record_parts tapes c.loop-index.met _ m _ (drop i entries) (drop (i + 1) entries) e (end_text (length entries) c.args.reason.now)
    (records_from entries i e within c.get-entry.ensures) refl refl)
    c.loop-index.invariant.put c.in_err-put_again.ensures.put)

pub returns : goal.returns
returns g c =
    has_ended _ _ _ _ _ _ _
    (none_left (tapes_of c.args.left.now c.args.right.now) c.loop-index.met c.loop-index.machine.machine c.args.entries.now.items c.loop-index.index
    (end_text (length c.args.entries.now.items) c.args.reason.now) (omega (arith, c.loop-index-test.false, c.len-index-end.ensures)))
    c.loop-index.invariant.put (rw (c.len.ensures) at c.put_last.ensures)
