-- For the proof of `Held::into_table` (src/held.rt): the table that is taken out is the held one
-- without a turret's fault, what it showed is on the disk, and it may be held again.
use Rattle.std.proofs.Common.{◌≢◌, sym, subst, Some}
use Rattle.nc_outside.specs.declared.halt.Halt.TheVariants as halt
use Rattle.run_table.specs.Kept.{TableView}
use Rattle.run_table.specs.Holding.{HeldView, IsOf, ShowsFlushed, MayHoldAgain, without_turret}
use Rattle.run_table.proofs.HeldKept.{of_halt, no_turret_disk, taken_shows, taken_again}
use Rattle.run_table.proofs.held.Held.into_table.Goals as goal

pub returns-clause-of : goal.returns-clause-of
returns-clause-of g c =
    let i = c.self.inside in
    subst (λ (t : TableView g.row.D.Denot). IsOf g.D.Disk.state g.O.Opening.opened t) (sym c.drop_turret.ensures.new)
    (of_halt g.D.Disk.state g.O.Opening.opened i.table (without_turret i.table.halt) (no_turret_disk i.table.halt) c.self.invariant.of)

pub returns-clause-shown : goal.returns-clause-shown
returns-clause-shown g c =
    let i = c.self.inside in
    let o = g.O.Opening.opened in
    subst (λ (t : TableView g.row.D.Denot). ShowsFlushed o c.args.self t) (sym c.drop_turret.ensures.new)
    (subst (λ (h : HeldView g.row.D.Denot). ShowsFlushed o h (record i.table { halt = without_turret i.table.halt })) c.self.view_is
    (taken_shows g.D.Disk.state o i.table i.shown c.self.invariant))

pub returns-clause-again : goal.returns-clause-again
returns-clause-again g c =
    let d = g.D.Disk.state in
    let i = c.self.inside in
    let o = g.O.Opening.opened in
    subst (λ (t : TableView g.row.D.Denot). t.halt ≢ Some halt.Disk → MayHoldAgain d o c.args.self t) (sym c.drop_turret.ensures.new)
    (subst (λ (h : HeldView g.row.D.Denot). without_turret i.table.halt ≢ Some halt.Disk → MayHoldAgain d o h (record i.table { halt = without_turret i.table.halt })) c.self.view_is
    (taken_again d o i.table i.shown c.self.invariant))

pub returns-clause-stands : goal.returns-clause-stands
returns-clause-stands g c = c.drop_turret.ensures.table.rests
