-- With one batch more, of 64 records or of all that are left, the bodies are those of the records
-- up to its end (loop of `journal_bodies`, src/filling.rt).
use Rattle.std.proofs.Common.{◌∙◌, ◌+◌, ◌++◌, [], ◌∷◌, List, ℕ, ap, arith}
use Rattle.run_journal.proofs.Fillings.{none_filled, batch_filled}
use Rattle.run_journal.proofs.filling.journal_bodies.Goals as goal

pub loop-at-init : goal.loop-at-init
loop-at-init c =
    let header = c.args.header.now in
    let body = c.deref.ensures.value ∙ c.in_ok-newest_header.ensures in
    let first = c.in_ok-push.ensures.ok ∙ ap (λ (l : List (List ℕ)). l ++ c.deref.result.now ∷ []) c.empty-bodies.ensures in
    none_filled header c.args.upto c.args.entries.now.items c.push.new.self c.requires.short
    (first ∙ ap (λ (b : List ℕ). b ∷ []) body)

pub loop-at-preserved : goal.loop-at-preserved
loop-at-preserved c =
    let pushed = c.in_ok-push-2.ensures.ok ∙ ap (λ (b : List ℕ). c.loop-at.bodies ++ b ∷ []) c.as_slice.ensures.bytes in
    let end = c.min.ensures in
    let more = c.loop-at-test.true in
    batch_filled c.args.header.now c.args.upto c.args.entries.now.items c.loop-at.at (c.loop-at.at + c.min.result) c.loop-at.bodies
    c.push-in-loop-at.new.self c.gather.new.batch c.loop-at.invariant (omega (arith, end, more)) (omega (arith, end, more)) (omega (arith, end))
    (λ less. omega (arith, end, more, less)) c.requires.within c.gather.ensures pushed
