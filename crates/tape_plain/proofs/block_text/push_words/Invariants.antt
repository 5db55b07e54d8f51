-- The text so far is that of the words so far (loop of `push_words`, src/block_text.rt).
use Rattle.std.proofs.Common.{◌≡◌, ◌++◌, take, drop}
use Rattle.std.specs.List.{flat_map}
use Rattle.tape_plain.specs.BlockText.{word_text}
use Rattle.tape_plain.proofs.block_text.push_words.Given as goal

abbrev pub invariant-loop-word : goal.invariant-loop-word
invariant-loop-word l = l.out.items ≡ l.fn.out.items ++ flat_map word_text (take l.word-index l.words)
