-- Outside the stretches that are left to copy, the content is as in `from`, and room stays (loop of
-- `copy_written`, src/memory.rt).
use Rattle.std.proofs.Common.{◌≤◌, drop, vec_capacity}
use Rattle.disk_model.proofs.Copies.{IsCopied}
use Rattle.disk_model.proofs.memory.copy_written.Given as goal

abbrev pub invariant-loop-stretch : goal.invariant-loop-stretch
invariant-loop-stretch l = record { copied : IsCopied l.from (drop l.stretch-index l.written) l.content.items; room : vec_capacity l.fn.content ≤ vec_capacity l.content }
