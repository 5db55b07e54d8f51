-- For the proof of `halt` of a held table (src/held.rt): a turret's fault as a reason to stop
-- leaves a held table with the same records.
use Rattle.std.proofs.Common.{sym, subst}
use Rattle.run_table.specs.Kept.{TableView}
use Rattle.seat_table.specs.Turning.{first_reason}
use Rattle.run_table.specs.Holding.{IsHeld}
use Rattle.run_table.proofs.HeldKept.{of_halt, first_disk, disk_first, shows_halt}
use Rattle.run_table.proofs.held.HeldTurns.halt.Goals as goal

pub invariant_of-self : goal.invariant_of-self
invariant_of-self g c =
    let i = c.self.inside in
    subst (λ (t : TableView g.row.D.Denot). IsHeld g.D.Disk.state g.O.Opening.opened t i.shown) (sym c.halt.ensures)
    (record {
      of = of_halt g.D.Disk.state g.O.Opening.opened i.table (first_reason i.table.halt c.args.why) (first_disk i.table.halt c.args.why c.requires) c.self.invariant.of;
      lost = λ is. disk_first i.table.halt c.args.why (c.self.invariant.lost is);
      shows = shows_halt g.O.Opening.opened i.table i.shown (first_reason i.table.halt c.args.why) c.self.invariant.shows;
    })
