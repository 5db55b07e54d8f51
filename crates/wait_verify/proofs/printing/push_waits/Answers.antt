-- `push_waits`: head, meetings, switches and trust, added one after another, are the text of the pair
-- (src/printing.rt).
use Rattle.std.proofs.Common.{rules, ◌≡◌}
use Rattle.open_order.specs.Basis.{trust_view}
use Rattle.wait_verify.specs.Printed.{waits_text, head_text, meetings_text, hangings_text, trust_text}
use Rattle.wait_verify.proofs.Pieces.{four}
use Rattle.wait_verify.proofs.printing.push_waits.Goals as goal

pub returns : goal.returns
unfolding waits_text
returns c =
    let left = c.as_slice-left.ensures.same in
    let right = c.as_slice.ensures.same in
    let switches : c.as_slice-2.result.now ≡ c.args.pair.now.trust.switches.items = search rules in
    four c.push_trust.result c.args.text.now.items (head_text c.args.pair.now.labels.one)
    (meetings_text c.args.pair.now.labels.one c.args.pair.now.labels.two) (hangings_text c.args.pair.now.trust.switches.items)
    (trust_text (trust_view c.args.pair.now.trust)) c.push_head.new.text.items c.push_meetings.new.text.items
    c.push_hangings.new.text.items c.push_trust.new.text.items
    (rw left at c.in_ok-push_head.ensures) (rw (left, right) at c.in_ok-push_meetings.ensures) (rw switches at c.in_ok-push_hangings.ensures)
    c.push_trust.ensures
