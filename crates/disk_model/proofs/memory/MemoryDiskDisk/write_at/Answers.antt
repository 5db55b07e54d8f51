-- A write to a disk in memory is refused, fails by its number, or is made: it tears its range only,
-- and after an Ok a read gives its bytes (src/memory.rt).
use Rattle.std.proofs.Common.{rules, ◌≡◌, ◌+◌, ◌^◌, ◌<◌, length, true, ap, sym, subst, ◌∙◌, arith}
use Rattle.std.proofs.lemmas.Bool.Decides.{nat_tests}
use Rattle.disk_model.specs.declared.stretch.Stretch.{Stretch}
use Rattle.disk_model.specs.Device.{written_over, Tears}
use Rattle.nc_number.specs.Faults.{next}
use Rattle.disk_model.specs.Memory.{Memory, memory_state, next_fails, with_fault, with_mark}
use Rattle.disk_model.proofs.Written.{torn_not, torn_by_write}
use Rattle.disk_model.proofs.Plans.{sound_done, sound_failed}
use Rattle.disk_model.proofs.Kept.{image_put, tears_marked}
use Rattle.disk_model.proofs.memory.MemoryDiskDisk.write_at.Goals as goal

pub mark-requires-clause-counted : goal.mark-requires-clause-counted
mark-requires-clause-counted c =
    let m = c.args.self.now in
    let refused = sym c.count_write-refused.ensures.refused ∙ c.if-refused.false in
    let fits = c.count_write-refused.ensures.kept.record_fits in
    let recorded = c.count_write-refused.ensures.kept.recorded in
    let short : m.calls + 1 < 2 ^ 64 = grind (arith, nat_tests) in
    rw c.count_write-refused.ensures.model (omega (arith, short, recorded))

pub returns-then-fails-clause-does : goal.returns-then-fails-clause-does
returns-then-fails-clause-does c =
    let m = c.args.self.now in
    let n = length c.args.bytes.now in
    let s : Stretch = record { at = c.args.at; len = n } in
    let noted = c.mark.ensures ∙ ap (λ (k : Memory). with_mark k s.at n) c.count_write-refused.ensures.model in
    let ended = c.count_fault-then-fails.ensures ∙ ap with_fault noted in
    let fails : next_fails m ≡ true = sym c.count_write-refused.ensures.fails ∙ c.if-fails.true in
    let e = c.count_write-refused.ensures in
    record {
      written = search rules;
      small = search rules;
      tears = subst (λ (k : Memory). Tears s.at n (memory_state m) (memory_state k)) (sym ended)
          (tears_marked m s m.bytes (next m.faults) e.kept (torn_not s.at n m.bytes) (sound_failed m (s.at + n) fails));
      cause = search rules;
    }

pub put-requires-clause-image : goal.put-requires-clause-image
put-requires-clause-image c =
    let m = c.args.self.now in
    let noted = c.mark.ensures ∙ ap (λ (k : Memory). with_mark k c.args.at (length c.args.bytes.now)) c.count_write-refused.ensures.model in
    image_put m c.mark.new.self c.args.at c.args.bytes.now c.count_write-refused.ensures.kept (ap (λ (k : Memory). k.synced) noted) (ap (λ (k : Memory). k.bytes) noted) (ap (λ (k : Memory). k.written) noted)

pub returns-clause-does : goal.returns-clause-does
returns-clause-does c =
    let m = c.args.self.now in
    let bytes = c.args.bytes.now in
    let s : Stretch = record { at = c.args.at; len = length bytes } in
    let noted = c.mark.ensures ∙ ap (λ (k : Memory). with_mark k s.at s.len) c.count_write-refused.ensures.model in
    let ended = c.put.ensures ∙ ap (λ (k : Memory). record k { bytes = written_over k.bytes s.at bytes }) noted in
    let e = c.count_write-refused.ensures in
    record {
      written = search rules;
      small = search rules;
      tears = subst (λ (k : Memory). Tears s.at s.len (memory_state m) (memory_state k)) (sym ended)
          (tears_marked m s (written_over m.bytes s.at bytes) m.faults e.kept (torn_by_write m.bytes s.at bytes) (sound_done m (s.at + s.len)));
      cause = search rules;
    }
