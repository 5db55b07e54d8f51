-- With one record more read, the records and their offsets are put after the others (loop of
-- `read_records`, src/reading.rt).
use Rattle.std.proofs.Common.{◌≡◌, ◌+◌, ◌-◌, ◌∷◌, [], ◌++◌, List, ℕ, length, sym, ◌∙◌, ap, refl, arith, length-append}
use Rattle.run_records.specs.Spelling.{entry_bytes}
use Rattle.run_journal.proofs.Records.{read_more}
use Rattle.run_journal.proofs.reading.read_records.Goals as goal

pub loop-round-preserved : goal.loop-round-preserved
loop-round-preserved c =
    let i = c.loop-round.invariant in
    let e = c.in-Ok.found.0 in
    let rest = c.loop-round.rest.now in
    let split : rest ≡ entry_bytes e ++ c.split_at.result.1.now = c.in-Ok.ensures.bytes ∙ ap (λ (l : List ℕ). entry_bytes e ++ l) (sym c.split_at.ensures.back) in
    let longer : length c.push.new.self.items ≡ length c.loop-round.entries.items + 1 = ap length c.push.ensures.items ∙ length-append c.loop-round.entries.items (e ∷ []) in
    let place : ℕ = c.args.at + (length c.args.bytes.now - length rest) in
    record {
      read = read_more c.args.version c.args.at c.args.bytes.now c.args.entries.now.items c.args.offsets.now.items c.loop-round._round rest c.loop-round.entries.items c.loop-round.offsets.items i.read
          c.split_at.result.1.now e c.push.new.self.items place c.push_reserved.new.self.items c.in-Ok.ensures.entry c.in-Ok.ensures.stands split c.push.ensures.items refl c.push_reserved.ensures.items;
      room = omega (arith, longer, i.room, c.push.ensures.room, c.loop-round-test.true);
      places = omega (arith, ap length c.push_reserved.ensures.items, length-append c.loop-round.offsets.items (place ∷ []), c.push_reserved.ensures.capacity, i.places, c.loop-round-test.true);
      most = omega (arith, c.loop-round-test.true);
    }
