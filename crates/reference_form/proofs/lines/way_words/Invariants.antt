-- The words so far are those of the words so far (loop of `way_words`, src/lines.rt).
use Rattle.std.proofs.Common.{◌≡◌, ◌∷◌, take, codes}
use Rattle.std.specs.List.{flat_map}
use Rattle.plain_form.specs.Made.{made_word}
use Rattle.reference_form.specs.Lines.{way_word}
use Rattle.reference_form.proofs.lines.way_words.Given as goal

abbrev pub invariant-loop-word : goal.invariant-loop-word
invariant-loop-word l = l.way.items ≡ made_word 71 (codes "00") ∷ flat_map way_word (take l.word-index l.words)
