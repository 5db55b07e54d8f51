-- Each program's lines are made after those of the programs that it calls, and one block after
-- another. For the contracts of `learn_call` and `piece_of`, which call each other
-- (src/listing.rt).
use Rattle.std.proofs.Common.{◌≡◌, ◌+◌, ◌≤◌, ◌<◌, suc, length, get_or, drop, ap, subst, ◌∙◌, arith, rules}
use Rattle.block_order.specs.Loud.{loud}
use Rattle.loud_calls.specs.Known.{piece_known}
use Rattle.loud_calls.proofs.Calls.{ready_by, short_some}
use Rattle.part_lines.specs.Lines.{seen_line}
use Rattle.part_lines.specs.Pieces.{quiet_known, IsSeen, IsSoFar}
use Rattle.part_lines.proofs.Ready.{no_block, on_ok, so_far_at, so_far_past}
use Rattle.part_lines.proofs.Shown.{so_far_start, so_far_next, short_left, piece_at, piece_off}
use Rattle.part_lines.proofs.listing.+calls.Goals as goal

pub learn_call-returns-clause-ready : goal.learn_call-returns-clause-ready
learn_call-returns-clause-ready g t c =
    on_ok _ _ c.keep.result
    (λ kept. ready_by c.args.order.now (piece_known c.keep.new.self) c.args.control.now c.in-Some.program c.in_ok-piece.piece c.in-Some.ensures.some kept)
    c.keep.ensures.kept

pub piece_of-loop-place-init : goal.piece_of-loop-place-init
piece_of-loop-place-init g t c = record {
  known = c.requires.known;
  so_far = rw (c.blocks-blocks.ensures)
      (so_far_start c.args.order.now (g.L.BlockLines.line c.args.lines.now) (quiet_known c.args.quiet.now) c.args.number
      c.new-own.result c.new-own.ensures);
}

pub piece_of-learn_call-requires : goal.piece_of-learn_call-requires
piece_of-learn_call-requires g t c κs lives =
    let order = c.args.order.now in
    let line = g.L.BlockLines.line c.args.lines.now in
    let quiet = quiet_known c.args.quiet.now in
    let items = c.blocks-blocks.result.now in
    let i = c.loop-place.place in
    let own = c.loop-place.own in
    let pos : 0 < c.args.left = short_some order c.args.left c.args.number c.requires.short in
    let within : i < length items = search rules in (
      omega arith,
      (
        lives,
        (
          c.loop-place.invariant.known,
          short_left order line quiet c.args.left c.args.number own i (get_or items i no_block) (drop (i + 1) items)
              (so_far_at order line quiet c.args.number own items i within c.loop-place.invariant.so_far) c.requires.short,
        ),
      ),
    )

pub piece_of-returns-in-Some-clause-piece : goal.piece_of-returns-in-Some-clause-piece
piece_of-returns-in-Some-clause-piece g t c =
    let order = c.args.order.now in
    let line = g.L.BlockLines.line c.args.lines.now in
    let quiet = quiet_known c.args.quiet.now in
    let items = c.blocks-blocks.result.now in
    let i = c.loop-place.place in
    let own = c.loop-place.own in
    let b = get_or items i no_block in
    let within : i < length items = search rules in
    let seen : c.seen.result ≡ seen_line (loud order) quiet (line c.args.number i) b.control =
    c.seen.ensures ∙ ap (λ o. seen_line (loud order) quiet o b.control) c.line.ensures in
    piece_at order line quiet c.args.number own c.see.new.self c.take_block.new.own i b (drop (i + 1) items) c.in-Some.ending
    (so_far_at order line quiet c.args.number own items i within c.loop-place.invariant.so_far)
    (subst (λ o. IsSeen own c.see.new.self o) seen c.see.ensures) (rw c.in-Some.is at c.in_ok-ending.ensures)

pub piece_of-loop-place-preserved : goal.piece_of-loop-place-preserved
piece_of-loop-place-preserved g t c =
    let order = c.args.order.now in
    let line = g.L.BlockLines.line c.args.lines.now in
    let quiet = quiet_known c.args.quiet.now in
    let items = c.blocks-blocks.result.now in
    let i = c.loop-place.place in
    let own = c.loop-place.own in
    let b = get_or items i no_block in
    let within : i < length items = search rules in
    let seen : c.seen.result ≡ seen_line (loud order) quiet (line c.args.number i) b.control =
    c.seen.ensures ∙ ap (λ o. seen_line (loud order) quiet o b.control) c.line.ensures in
    let next : suc i ≡ i + 1 = omega arith in
    record {
      known = c.in_ok-learn_call.ensures.known;
      so_far = subst (λ k. IsSoFar order line quiet c.args.number c.take_block.new.own k (drop (i + 1) items)) next
          (so_far_next order line quiet c.args.number own c.see.new.self c.take_block.new.own i b (drop (i + 1) items)
          (so_far_at order line quiet c.args.number own items i within c.loop-place.invariant.so_far)
          (subst (λ o. IsSeen own c.see.new.self o) seen c.see.ensures) (rw c.in-None.is at c.in_ok-ending.ensures));
    }

pub piece_of-returns-clause-piece : goal.piece_of-returns-clause-piece
piece_of-returns-clause-piece g t c =
    let order = c.args.order.now in
    let line = g.L.BlockLines.line c.args.lines.now in
    let quiet = quiet_known c.args.quiet.now in
    let items = c.blocks-blocks.result.now in
    let i = c.loop-place.place in
    let past : length items ≤ i = search rules in
    piece_off order line quiet c.args.number i c.loop-place.own
    (so_far_past order line quiet c.args.number c.loop-place.own items i past c.loop-place.invariant.so_far)
