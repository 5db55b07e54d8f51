-- Each label is added behind those before, until all are or there are too many. For the contract of
-- `append` (src/piece.rt).
use Rattle.std.proofs.Common.{[], ◌∷◌, get_or}
use Rattle.block_order.specs.declared.label.Label.TheVariants.{Wait}
use Rattle.label_list.specs.Lists.{label_with_line}
use Rattle.label_list.specs.Pieces.{IsTooLong}
use Rattle.label_list.proofs.Joined.{appended_one}
use Rattle.label_list.proofs.Pieces.{by_fault}
use Rattle.label_list.proofs.piece.append.Goals as goal

pub returns-in-Err-clause-many : goal.returns-in-Err-clause-many
returns-in-Err-clause-many c =
    let old = c.args.labels.now.items in
    let now = c.loop-label.labels.items in
    let more = c.args.more.now in
    let i = c.loop-label.label-index in
    let one = get_or more i (label_with_line (Wait 0) 0) in
    by_fault (IsTooLong now (one ∷ [])) (IsTooLong old more) c.in-Err.error
    (λ fault long. appended_one old now more i one fault c.loop-label-test.true c.loop-label.invariant.are long) c.in-Err.ensures.many
