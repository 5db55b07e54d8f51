-- `modal_after` hands F, S and T and the rows of the block's codes to `modal_of_rows`, and what that
-- answers is the modal state behind all words of the block (src/modal.rt).
use Rattle.std.proofs.Common.{ap, sym, ◌∙◌}
use Rattle.block_values.specs.InForce.{modal_of_rows, settings_said}
use Rattle.block_values.specs.Seen.{values_seen}
use Rattle.block_values.proofs.Hanging.{modal_hangs}
use Rattle.block_values.proofs.modal.modal_after.Goals as goal

pub returns : goal.returns
returns c =
    let words = c.args.words.now in
    let values = c.args.values.now in
    let modal = c.args.modal.now in
    let settings = settings_said values.feed values.speed values.tool in
    c.modal_of_rows.ensures
    ∙ ap (λ rows. modal_of_rows modal rows settings) (c.as_slice.ensures ∙ words.rows_are)
    ∙ sym (modal_hangs modal words.dialect.system words.words (values_seen values))
