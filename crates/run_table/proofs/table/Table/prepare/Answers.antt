-- For the proof of `Table::prepare` (src/table.rt): a table with room for so many records is a
-- table, and it stays one if memory runs out.
use Rattle.std.proofs.Common.{inl, inr, refl, length, arith, ap}
use Rattle.run_table.proofs.TablesKept.{room_made}
use Rattle.run_table.proofs.table.Table.prepare.Goals as goal

pub invariant_of-self : goal.invariant_of-self
invariant_of-self g c =
    let i = c.self.inside in
    room_made g.D.Disk.state i.verified i.machine c.reserve.new.self i.recording i.recording i.halt i.budget i.budget i.resting i.resting c.self.invariant
    c.reserve.ensures.machine refl refl refl (omega (arith, c.self.invariant.turns, c.reserve.ensures.no_less)) c.self.invariant.room (inl refl)

pub invariant_of-self-in_err-reserve-2 : goal.invariant_of-self-in_err-reserve-2
invariant_of-self-in_err-reserve-2 g c =
    let i = c.self.inside in
    room_made g.D.Disk.state i.verified i.machine c.reserve.new.self i.recording c.reserve-2.new.self i.halt i.budget i.budget i.resting i.resting c.self.invariant
    c.reserve.ensures.machine c.reserve-2.ensures.history c.reserve-2.ensures.flushed c.reserve-2.ensures.log
    (omega (arith, c.self.invariant.turns, c.reserve.ensures.no_less))
    (λ some. omega (arith, c.self.invariant.room some, ap length c.reserve-2.ensures.history, c.reserve-2.ensures.no_less)) (inl refl)

pub invariant_of-self-2 : goal.invariant_of-self-2
invariant_of-self-2 g c =
    let i = c.self.inside in
    room_made g.D.Disk.state i.verified i.machine c.reserve.new.self i.recording c.reserve-2.new.self i.halt i.budget c.args.n i.resting c.none_resting-self-inside.result c.self.invariant
    c.reserve.ensures.machine c.reserve-2.ensures.history c.reserve-2.ensures.flushed c.reserve-2.ensures.log
    c.in_ok-reserve.ensures.room (λ some. c.in_ok-reserve-2.ensures.room) (inr c.none_resting-self-inside.ensures)
