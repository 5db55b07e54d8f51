-- If no block before the end has or calls a lesser line, the program is closed. For the contract of
-- `is_closed_at` (src/quiet.rt).
use Rattle.std.proofs.Common.{◌≡◌, ◌<◌, ◌≤◌, length, get_or, IsTrue, subst, sym, ap, ◌∙◌, rules}
use Rattle.block_order.specs.Loud.{loud}
use Rattle.part_lines.specs.Lines.{seen_line}
use Rattle.part_lines.specs.Pieces.{quiet_known, IsBelow}
use Rattle.part_lines.proofs.Opened.{below_more, all_below}
use Rattle.part_lines.proofs.Ready.{no_block}
use Rattle.part_lines.proofs.quiet.is_closed_at.Goals as goal

pub loop-place-preserved : goal.loop-place-preserved
loop-place-preserved g c =
    let order = c.args.order.now in
    let quiet = quiet_known c.args.found.now in
    let items = c.blocks-blocks.result.now in
    let i = c.loop-place.place in
    let line = g.L.BlockLines.line c.args.lines.now c.args.program in
    let within : i < length items = search rules in
    let below : IsTrue c.is_below.result = search rules in
    let seen : c.seen-seen.result ≡ seen_line (loud order) quiet (line i) (get_or items i no_block).control =
    c.seen-seen.ensures ∙ ap (λ o. seen_line (loud order) quiet o (get_or items i no_block).control) c.line.ensures in
    below_more c.get-least.result (λ b k. seen_line (loud order) quiet (line b) k) items i no_block within c.loop-place.invariant
    (subst (IsBelow c.get-least.result) seen (c.is_below.ensures.0 below))

pub returns : goal.returns
returns g c is_true =
    let order = c.args.order.now in
    let quiet = quiet_known c.args.found.now in
    let items = c.blocks-blocks.result.now in
    let i = c.loop-place.place in
    let line = g.L.BlockLines.line c.args.lines.now c.args.program in
    let past : length items ≤ i = search rules in
    rw (sym c.get-least.ensures, sym c.blocks-blocks.ensures)
    (all_below c.get-least.result (λ b k. seen_line (loud order) quiet (line b) k) items i past c.loop-place.invariant)
