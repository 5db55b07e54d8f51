-- The stretches so far are filled, and room stays (loop of `fill_stretches`, src/memory.rt).
use Rattle.std.proofs.Common.{◌≤◌, take, vec_capacity}
use Rattle.disk_model.specs.Memory.{IsFilled}
use Rattle.disk_model.proofs.memory.fill_stretches.Given as goal

abbrev pub invariant-loop-stretch : goal.invariant-loop-stretch
invariant-loop-stretch l = record { filled : IsFilled l.with l.fn.content.items (take l.stretch-index l.written) l.content.items; room : vec_capacity l.fn.content ≤ vec_capacity l.content }
