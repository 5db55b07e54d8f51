-- At a read a disk in memory counts the call and writes nothing, also if it fails (src/memory.rt).
use Rattle.std.proofs.Common.{rules, sym, subst}
use Rattle.disk_model.specs.Device.{Looks}
use Rattle.disk_model.specs.Memory.{Memory, memory_state}
use Rattle.disk_model.proofs.Kept.{looks_counted}
use Rattle.disk_model.proofs.memory.MemoryDiskDisk.read_at.Goals as goal

pub returns-in_err-look-clause-does : goal.returns-in_err-look-clause-does
returns-in_err-look-clause-does c = record {
  within = search rules;
  count = search rules;
  got = search rules;
  looks = subst (λ (n : Memory). Looks (memory_state c.args.self.now) (memory_state n)) (sym c.look.ensures.model) (looks_counted c.args.self.now c.look.ensures.kept);
  cause = search rules;
}
