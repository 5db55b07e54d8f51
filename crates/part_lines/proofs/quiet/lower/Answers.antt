-- The least line so far, of the program or of the quiet programs that are called from there, is
-- what is kept of it. For the contract of `lower` (src/quiet.rt).
use Rattle.std.proofs.Common.{◌≡◌, ◌<◌, ◌⊎◌, inl, inr, length, get_or, Some, subst, sym, ap, ◌∙◌, rules}
use Rattle.nc_number.proofs.Counts.{lesser_is}
use Rattle.block_order.specs.Loud.{loud}
use Rattle.block_order.specs.Order.{blocks, control_at}
use Rattle.block_order.proofs.NotedEnds.{control-get}
use Rattle.part_lines.specs.Lines.{seen_line, LineFrom}
use Rattle.part_lines.specs.Pieces.{quiet_known}
use Rattle.part_lines.proofs.Opened.{seen_from}
use Rattle.part_lines.proofs.Ready.{no_block}
use Rattle.part_lines.proofs.quiet.lower.Goals as goal

pub loop-place-preserved : goal.loop-place-preserved
loop-place-preserved g c k is =
    let order = c.args.order.now in
    let found = quiet_known c.args.found.now in
    let items = c.blocks-blocks.result.now in
    let i = c.loop-place.place in
    let program = c.args.program in
    let line = g.L.BlockLines.line c.args.lines.now in
    let within : i < length items = search rules in
    let here : control_at (blocks order program) i ≡ Some (get_or items i no_block).control =
    subst (λ bs. control_at bs i ≡ Some (get_or items i no_block).control) c.blocks-blocks.ensures (control-get items i no_block within) in
    let seen : c.seen.result ≡ seen_line (loud order) found (line program i) (get_or items i no_block).control =
    c.seen.ensures ∙ ap (λ o. seen_line (loud order) found o (get_or items i no_block).control) c.line.ensures in
    go (lesser_is c.loop-place.least c.seen.result k (sym c.lesser-least.ensures ∙ is))
    (λ e. seen_from order line found c.requires program i (get_or items i no_block).control here k (sym seen ∙ e))
  where
    go : (c.loop-place.least ≡ Some k) ⊎ (c.seen.result ≡ Some k)
        → (c.seen.result ≡ Some k → LineFrom c.args.order.now (g.L.BlockLines.line c.args.lines.now) c.args.program k)
        → LineFrom c.args.order.now (g.L.BlockLines.line c.args.lines.now) c.args.program k
    go (inl e) other = c.loop-place.invariant k e
    go (inr e) other = other e
