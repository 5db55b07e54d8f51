-- The codes of the words so far, and those that the rest adds, are the codes of the block (loop of
-- src/trusting.rt).
use Rattle.std.proofs.Common.{◌≡◌, drop}
use Rattle.open_order.specs.Basis.{trust_view}
use Rattle.open_order.specs.Trusted.{with_words}
use Rattle.open_order.proofs.trusting.add_words.Given as goal

abbrev pub invariant-loop-word : goal.invariant-loop-word
invariant-loop-word l =
    with_words l.dialect (trust_view l.fn.trust) l.words ≡ with_words l.dialect (trust_view l.trust) (drop l.word-index l.words)
