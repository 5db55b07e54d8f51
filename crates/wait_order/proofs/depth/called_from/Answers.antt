-- Of a list without flags, those are set that one call more reaches. For the contract of
-- `called_from` (src/depth.rt).
use Rattle.std.proofs.Common.{◌≡◌, false, length, replicate, ap, ◌∙◌, rules, arith}
use Rattle.wait_order.proofs.Called.{called_new, lent_whole}
use Rattle.wait_order.proofs.depth.called_from.Goals as goal

pub returns : goal.returns
returns c =
    let tape = c.args.programs.now in
    let items = c.in_ok-next.next.items in
    let none : items ≡ replicate (length tape) false = search rules in
    let len : c.in_ok-next.next.len ≡ length items = search rules in
    let all : length items ≡ length tape = search rules in
    let kept : length c.flag_all.new.next ≡ length items = omega arith in
    let whole = lent_whole items c.flag_all.new.next c.in_ok-next.next.len len kept in
    called_new tape c.args.reached.now c.deref_mut.result.now c.flag_all.new.next _ c.requires.own
    (c.deref_mut.ensures.value ∙ none) (ap length whole ∙ (kept ∙ all)) whole c.flag_all.ensures
