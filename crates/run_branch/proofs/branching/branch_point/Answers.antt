-- With one record more looked at, the search of the others finds what the search of all finds (loop
-- of `branch_point`, src/branching.rt).
use Rattle.std.proofs.Common.{ℕ, ◌+◌, ◌-◌, ◌<◌, ap, sym, ◌∙◌, arith, drop, length, if◌then◌else◌}
use Rattle.std.specs.Option.{option_map}
use Rattle.run_records.specs.declared.entry.EntryKind.{EntryKind}
use Rattle.run_records.specs.Entries.{Entry, is_meeting}
use Rattle.run_branch.specs.Meetings.{branch_point}
use Rattle.run_branch.proofs.Points.{looked_on}
use Rattle.run_branch.proofs.branching.branch_point.Goals as goal

pub loop-left-preserved : goal.loop-left-preserved
loop-left-preserved c =
    let items = c.args.entries.now.items in
    let index = c.loop-left.index in
    let left = c.loop-left.left in
    let within : index < length items = omega (arith, c.loop-left.invariant.within, c.if-index-len.false, c.len.ensures) in
    let kind = ap (λ (e : Entry). e.kind) c.get-in-loop-left.view_is in
    let fewer = c.left_behind-left.ensures ∙ ap (λ (k : EntryKind). if is_meeting k then left - 1 else left) kind in
    record {
      looked = c.loop-left.invariant.looked ∙ looked_on items left index c.get.result c.loop-left-test.true within c.get.ensures
          ∙ ap (λ (m : ℕ). option_map (λ (k : ℕ). index + 1 + k) (branch_point m (drop (index + 1) items))) (sym fewer);
      within = omega (arith, within);
    }
