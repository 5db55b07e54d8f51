-- The first M code of the words ahead is that of the block. What the loop of `first_code` keeps
-- (src/codes.rt).
use Rattle.std.proofs.Common.{◌≡◌, drop}
use Rattle.block_words.specs.Codes.{m_code}
use Rattle.block_words.proofs.codes.first_code.Given as goal

abbrev pub invariant-loop-word : goal.invariant-loop-word
invariant-loop-word l = m_code (drop l.word-index l.words) ≡ m_code l.words
