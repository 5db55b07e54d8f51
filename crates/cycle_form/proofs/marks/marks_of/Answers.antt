-- A line feed ends a line, another byte may mark it, and the end of the text ends the last one
-- (`marks_of`, src/marks.rt).
use Rattle.std.proofs.Common.{◌≡◌, ◌==◌, true, false, get_or, arith}
use Rattle.std.proofs.lemmas.Bool.Decides.{nat_tests}
use Rattle.std.proofs.lemmas.List.{drop_all}
use Rattle.cycle_form.proofs.Marking.{ended, went_on, at_end}
use Rattle.cycle_form.proofs.marks.marks_of.Goals as goal

pub loop-b-preserved-then-b-eq10 : goal.loop-b-preserved-then-b-eq10
loop-b-preserved-then-b-eq10 c =
    let end : (get_or c.args.text.now c.loop-b.b-index 0 == 10) ≡ true = grind (arith, nat_tests) in
    ended c.loop-b.marks.items _ _ c.loop-b.marked c.args.text.now c.loop-b.b-index c.loop-b-test.true c.loop-b.invariant end c.in_ok-push.ensures.items

pub loop-b-preserved : goal.loop-b-preserved
loop-b-preserved c =
    let other : (get_or c.args.text.now c.loop-b.b-index 0 == 10) ≡ false = grind (arith, nat_tests) in
    went_on c.loop-b.marks.items _ c.loop-b.marked _ c.args.text.now c.loop-b.b-index c.loop-b-test.true c.loop-b.invariant other c.is_marked-marked.ensures

pub returns : goal.returns
returns c = at_end c.loop-b.marks.items _ _ c.loop-b.marked _ (drop_all c.loop-b.b-index c.args.text.now c.loop-b-test.false) c.loop-b.invariant c.in_ok-push-2.ensures.items
