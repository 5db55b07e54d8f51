-- For `arguments_taken`, which evaluates the arguments of a macro call one by one (loop of
-- src/arguments.rt).
use Rattle.std.proofs.Common.{◌≡◌, drop}
use Rattle.block_values.specs.Arguments.{arguments_with}
use Rattle.block_values.proofs.arguments.arguments_taken.Given as goal

-- the local variables so far, with the words that are left, come to what all words come to
abbrev pub invariant-loop-word : goal.invariant-loop-word
invariant-loop-word g l =
    arguments_with (g.S.Scope.table l.scope) (drop l.word-index l.words) l.arguments l.left ≡ arguments_with (g.S.Scope.table l.scope) l.words l.fn.arguments l.fn.reads
