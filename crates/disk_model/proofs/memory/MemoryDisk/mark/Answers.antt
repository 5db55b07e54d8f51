-- A disk in memory that notes a stretch keeps its facts, and its record has room (src/memory.rt).
use Rattle.std.proofs.Common.{◌+◌, ◌≤◌, ◌<◌, length, ap, arith}
use Rattle.disk_model.specs.Inside.{memory_of}
use Rattle.disk_model.proofs.Kept.{kept_marked}
use Rattle.disk_model.proofs.memory.MemoryDisk.mark.Goals as goal

pub invariant_of-self : goal.invariant_of-self
invariant_of-self c =
    let within : c.args.at + c.args.len ≤ c.self.inside.room = omega (arith, c.requires.within, ap (λ m. m.room) c.self.view_is) in
    let counted : length c.self.inside.present.written.items < c.self.inside.calls = omega (arith, c.requires.counted, ap (λ m. length m.written) c.self.view_is, ap (λ m. m.calls) c.self.view_is) in
    record {
      kept = kept_marked (memory_of c.self.inside) (record { at = c.args.at; len = c.args.len }) c.push_reserved.new.self.items c.self.invariant.kept within counted c.push_reserved.ensures.items;
      bytes = c.self.invariant.bytes;
      synced = c.self.invariant.synced;
      earlier_synced = c.self.invariant.earlier_synced;
      written = omega (arith, c.self.invariant.written, c.push_reserved.ensures.capacity);
      earlier_written = c.self.invariant.earlier_written;
    }
