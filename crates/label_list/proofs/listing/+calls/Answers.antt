-- Each program's labels are made after those of the programs that it calls, and too many in one of
-- these are too many in all. For the contracts of `learn_call` and `piece_of`, which call each
-- other (src/listing.rt).
use Rattle.std.proofs.Common.{◌+◌, ◌<◌, [], ◌∷◌, get_or, drop, arith}
use Rattle.block_order.specs.declared.label.Label.TheVariants.{Off}
use Rattle.label_list.specs.Lists.{label_with_line}
use Rattle.loud_calls.specs.Known.{piece_known}
use Rattle.loud_calls.proofs.Calls.{ready_by, short_some}
use Rattle.label_list.specs.Pieces.{IsTooLong, FailsAt, FailsInCall, FailsLong}
use Rattle.label_list.proofs.Pieces.{no_block, short_left, so_far_start, so_far_at, so_far_past, so_far_next, piece_at, piece_off, fails_off, fails_at, fails_in_call, by_fault}
use Rattle.label_list.proofs.listing.+calls.Goals as goal

pub learn_call-returns-in_ok-keep-in-Ok-clause-ready : goal.learn_call-returns-in_ok-keep-in-Ok-clause-ready
learn_call-returns-in_ok-keep-in-Ok-clause-ready t c =
    ready_by c.args.order.now (piece_known c.keep.new.self) c.args.control.now c.in-Some.program c.in-Ok.piece
    c.in-Some.ensures.some c.in_ok-keep-in-Ok.ensures.kept

pub piece_of-loop-block-init : goal.piece_of-loop-block-init
piece_of-loop-block-init t c = record {
  known = c.requires.known;
  so_far = rw (c.new-labels.ensures.items, c.blocks-block-items.ensures) (so_far_start c.args.order.now c.args.number);
}

pub piece_of-learn_call-requires : goal.piece_of-learn_call-requires
piece_of-learn_call-requires t c =
    let pos : 0 < c.args.left = short_some c.args.order.now c.args.left c.args.number c.requires.short in
    let items = c.blocks-block-items.result.now in
    let i = c.loop-block.block-index in (
      omega arith,
      (
        c.loop-block.invariant.known,
        short_left c.args.order.now c.args.left c.args.number c.loop-block.labels.items (get_or items i no_block) (drop (i + 1) items)
            (so_far_at c.args.order.now c.args.number c.loop-block.labels.items items i c.loop-block-test.true c.loop-block.invariant.so_far)
            c.requires.short,
      ),
    )

pub piece_of-returns-in-Err-clause-many : goal.piece_of-returns-in-Err-clause-many
piece_of-returns-in-Err-clause-many t c =
    let order = c.args.order.now in
    let number = c.args.number in
    let items = c.blocks-block-items.result.now in
    let i = c.loop-block.block-index in
    let so = so_far_at order number c.loop-block.labels.items items i c.loop-block-test.true c.loop-block.invariant.so_far in
    by_fault (FailsInCall order (get_or items i no_block).control) (FailsLong order number) c.in-Err.error
    (λ fault fails. fails_in_call order number c.loop-block.labels.items (get_or items i no_block) (drop (i + 1) items) fault so fails)
    c.in-Err.ensures.many

pub piece_of-returns-in-Ok-Some-clause-piece : goal.piece_of-returns-in-Ok-Some-clause-piece
piece_of-returns-in-Ok-Some-clause-piece t c =
    let order = c.args.order.now in
    let number = c.args.number in
    let items = c.blocks-block-items.result.now in
    let i = c.loop-block.block-index in
    let so = so_far_at order number c.loop-block.labels.items items i c.loop-block-test.true c.loop-block.invariant.so_far in
    piece_at order number c.loop-block.labels.items c.take_block.new.labels.items (get_or items i no_block) (drop (i + 1) items)
    c.in-Ok-Some.ending so (rw c.in-Ok-Some.field-0-is at c.in-Ok-Some.ensures.taken)

pub piece_of-returns-in-Err-take_block-clause-many : goal.piece_of-returns-in-Err-take_block-clause-many
piece_of-returns-in-Err-take_block-clause-many t c =
    let order = c.args.order.now in
    let number = c.args.number in
    let items = c.blocks-block-items.result.now in
    let i = c.loop-block.block-index in
    let so = so_far_at order number c.loop-block.labels.items items i c.loop-block-test.true c.loop-block.invariant.so_far in
    by_fault (FailsAt order (get_or items i no_block).line (get_or items i no_block).control c.loop-block.labels.items)
    (FailsLong order number) c.in-Err-take_block.error
    (λ fault fails. fails_at order number c.loop-block.labels.items (get_or items i no_block) (drop (i + 1) items) fault so fails)
    c.in-Err-take_block.ensures.many

pub piece_of-loop-block-preserved : goal.piece_of-loop-block-preserved
piece_of-loop-block-preserved t c =
    let order = c.args.order.now in
    let number = c.args.number in
    let items = c.blocks-block-items.result.now in
    let i = c.loop-block.block-index in
    let so = so_far_at order number c.loop-block.labels.items items i c.loop-block-test.true c.loop-block.invariant.so_far in
    record {
      known = c.in-Ok.ensures.known;
      so_far = so_far_next order number c.loop-block.labels.items c.take_block.new.labels.items (get_or items i no_block)
          (drop (i + 1) items) so (rw c.in-Ok-None.field-0-is at c.in-Ok-None.ensures.taken);
    }

pub piece_of-returns-in-Ok-push_at-clause-piece : goal.piece_of-returns-in-Ok-push_at-clause-piece
piece_of-returns-in-Ok-push_at-clause-piece t c =
    let order = c.args.order.now in
    let number = c.args.number in
    let so = so_far_past order number c.loop-block.labels.items c.blocks-block-items.result.now c.loop-block.block-index
    c.loop-block-test.false c.loop-block.invariant.so_far in
    piece_off order number c.off_line.result c.loop-block.labels.items c.push_at.new.labels.items so c.off_line.ensures
    c.in-Ok-push_at.ensures.added

pub piece_of-returns-in-Err-push_at-clause-many : goal.piece_of-returns-in-Err-push_at-clause-many
piece_of-returns-in-Err-push_at-clause-many t c =
    let order = c.args.order.now in
    let number = c.args.number in
    let so = so_far_past order number c.loop-block.labels.items c.blocks-block-items.result.now c.loop-block.block-index
    c.loop-block-test.false c.loop-block.invariant.so_far in
    by_fault (IsTooLong c.loop-block.labels.items (label_with_line Off c.off_line.result ∷ [])) (FailsLong order number) c.in-Err-push_at.error
    (λ fault long. fails_off order number c.off_line.result c.loop-block.labels.items fault so long)
    c.in-Err-push_at.ensures.many
