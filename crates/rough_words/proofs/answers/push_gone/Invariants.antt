-- So many lines that go were put so far (loop of `push_gone`, src/answers.rt).
use Rattle.std.proofs.Common.{◌≡◌, ◌++◌}
use Rattle.std.specs.Prelude.{replicate}
use Rattle.rough_words.specs.Answers.{gone}
use Rattle.rough_words.proofs.answers.push_gone.Given as goal

abbrev pub invariant-loop-line : goal.invariant-loop-line
invariant-loop-line l = l.list.items ≡ l.fn.list.items ++ replicate l._line gone
