-- One block more adds its place to its number, and the whole index is that of the program. For the
-- contract of `of` (src/sequence.rt).
use Rattle.std.proofs.Common.{◌≡◌, ◌≢◌, sym, ap, ◌∙◌, arith}
use Rattle.std.proofs.lemmas.Grind.{common_steps}
use Rattle.std.proofs.lemmas.Bool.{cases_eq}
use Rattle.std.proofs.Common.{⊎_elim}
use Rattle.std.proofs.lemmas.List.{take_all}
use Rattle.block_order.specs.Places.{IsIndexOf, places_of, places_from}
use Rattle.block_order.proofs.Sought.{places_same, places_other, places_none}
use Rattle.block_order.proofs.sequence.SequenceIndex.of.Goals as goal
use Rattle.block_order.proofs.sequence.SequenceIndex.of.Goals.{in-Some+in_ok-places+in_ok-push, in_default}

pub loop-block-preserved : goal.loop-block-preserved
loop-block-preserved c =
    elim c.match-block.branch [
      | in-Some+in_ok-places+in_ok-push w ↦ record {
        counted = omega arith;
        listed = λ q.
            ⊎_elim
            (λ (e : q ≡ w.in-Some.number).
            let step = places_same c.args.blocks.now c.loop-block.block-index q w.in-Some.number _ c.loop-block-test.true w.in-Some.is e in
            grind (arith, common_steps, c.loop-block.invariant.listed q, step))
            (λ (ne : q ≢ w.in-Some.number).
            let step = places_other c.args.blocks.now c.loop-block.block-index q w.in-Some.number _ c.loop-block-test.true w.in-Some.is ne in
            grind (arith, common_steps, c.loop-block.invariant.listed q, step))
            (cases_eq q w.in-Some.number);
      }
      | in_default w ↦ record {
        counted = omega arith;
        listed = λ q.
            let step = places_none c.args.blocks.now c.loop-block.block-index q _ c.loop-block-test.true w.in_default.is in
            rw w.places-is (c.loop-block.invariant.listed q ∙ sym step);
      }
    ]

pub returns : goal.returns
unfolding IsIndexOf places_of
returns c = λ q.
    c.loop-block.invariant.listed q
    ∙ ap (λ r. places_from r 0 q) (take_all c.loop-block.block-index c.args.blocks.now (omega arith))
