-- The instructions that are left find their operands on the stack, and their answer is that of the
-- whole code (loop of `run`, src/running.rt).
use Rattle.std.proofs.Common.{◌≡◌, [], drop, length, true}
use Rattle.macro_eval.specs.Postfix.{fits, run}
use Rattle.macro_eval.proofs.running.run.Given as goal

abbrev pub invariant-loop-instr : goal.invariant-loop-instr
invariant-loop-instr g l =
    (fits 16 (drop l.instr-index l.instrs) (length l.stack) ≡ true)
    × (run (g.S.Scope.table l.scope) (drop l.instr-index l.instrs) l.stack l.left
    ≡ run (g.S.Scope.table l.scope) l.instrs [] l.fn.reads)
