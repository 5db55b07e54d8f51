-- After a sync of a disk in memory that succeeds, a crash leaves what a read gives; one that fails
-- puts nothing on the disk (src/memory.rt).
use Rattle.std.proofs.Common.{rules, ◌≡◌, false, ap, ◌∙◌, sym, subst}
use Rattle.disk_model.specs.Device.{Looks}
use Rattle.disk_model.specs.Memory.{Memory, memory_state, next_fails, after_look, after_settling}
use Rattle.disk_model.proofs.Kept.{looks_counted, only_read, settled_looks}
use Rattle.disk_model.proofs.memory.MemoryDiskDisk.sync.Goals as goal

pub returns-in_err-look-clause-does : goal.returns-in_err-look-clause-does
returns-in_err-look-clause-does c = record {
  settled = search rules;
  looks = subst (λ (n : Memory). Looks (memory_state c.args.self.now) (memory_state n)) (sym c.look.ensures.model) (looks_counted c.args.self.now c.look.ensures.kept);
  cause = search rules;
}

pub returns-clause-does : goal.returns-clause-does
returns-clause-does c =
    let m = c.args.self.now in
    let whole : c.settle.new.self ≡ after_settling (after_look m) = c.settle.ensures ∙ ap after_settling c.look.ensures.model in
    let passes : next_fails m ≡ false = sym c.in_ok-look.ensures.fails in
    let same = ap (λ (k : Memory). k.synced) whole ∙ sym (ap (λ (k : Memory). k.bytes) whole) in
    record {
      settled = only_read c.settle.new.self (ap (λ (k : Memory). k.written) whole) same;
      looks = subst (λ (n : Memory). Looks (memory_state m) (memory_state n)) (sym whole) (settled_looks m c.look.ensures.kept passes);
      cause = search rules;
    }
