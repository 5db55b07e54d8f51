-- What was heard so far and what the words ahead say is what all words say (loop of `heard_words`,
-- src/heard.rt).
use Rattle.std.proofs.Common.{◌≡◌, drop}
use Rattle.known_blocks.specs.Heard.{silence, heard_words}
use Rattle.known_blocks.proofs.heard.heard_words.Given as goal

abbrev pub invariant-loop-word : goal.invariant-loop-word
invariant-loop-word l = heard_words l.dwell (drop l.word-index l.words) l.heard ≡ heard_words l.dwell l.words silence
