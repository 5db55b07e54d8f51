-- `add_left` adds, of all ended images, those that a crash since then may have left: one more is
-- looked at in each turn (src/ended.rt).
use Rattle.std.proofs.Common.{◌≡◌, ◌++◌, ◌∷◌, [], take, get_or, sym, ◌∙◌, ap, append_assoc}
use Rattle.std.proofs.lemmas.List.{take_more}
use Rattle.disk_images.specs.Among.{Ended, left_since}
use Rattle.disk_images.proofs.Parts.{left_push}
use Rattle.disk_images.proofs.ended.add_left.Goals as goal

pub loop-ended-preserved : goal.loop-ended-preserved
loop-ended-preserved c =
    let item : Ended = c.ended-item.result in
    let since = c.args.since in
    let before = take c.loop-ended.ended-index c.args.past.now in
    let next = get_or c.args.past.now c.loop-ended.ended-index item in
    let more = take_more c.args.past.now c.loop-ended.ended-index item c.loop-ended-test.true in
    let same : item ≡ next = c.ended-item.is in
    c.in_ok-add_if_left.ensures ∙ ap (λ e. c.loop-ended.into.items ++ left_since since (e ∷ [])) same
    ∙ ap (λ l. l ++ left_since since (next ∷ [])) c.loop-ended.invariant
    ∙ append_assoc c.args.into.now.items (left_since since before) (left_since since (next ∷ []))
    ∙ ap (λ l. c.args.into.now.items ++ l) (sym (left_push since before next))
    ∙ ap (λ l. c.args.into.now.items ++ left_since since l) (sym more)
