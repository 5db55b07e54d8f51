-- For the proof of `drained` of a held table (src/held.rt): the path is to be drained no more if it was
-- asked for, nothing more is told, and the table is still a held one.
use Rattle.std.proofs.Common.{◌≡◌, sym, ◌∙◌, ap, subst}
use Rattle.nc_number.specs.declared.path.Path.{Path}
use Rattle.seat_table.specs.Turning.{once_drained}
use Rattle.run_table.specs.Kept.{TableView}
use Rattle.run_table.specs.Draining.{with_drained}
use Rattle.run_table.specs.Holding.{HeldView, held_of, drains_at, told_since, IsHeld}
use Rattle.run_table.proofs.DrainsTold.{drained_once}
use Rattle.run_table.proofs.HeldKept.{of_resting, shows_resting, told_rests}
use Rattle.run_table.proofs.held.HeldTurns.drained.Goals as goal

pub invariant_of-self : goal.invariant_of-self
invariant_of-self g c =
    let i = c.self.inside in
    subst (λ (t : TableView g.row.D.Denot). IsHeld g.D.Disk.state g.O.Opening.opened t i.shown) (sym c.drained.ensures)
    (record {
      of = of_resting g.D.Disk.state g.O.Opening.opened i.table (with_drained c.args.path i.table.resting) c.self.invariant.of;
      lost = c.self.invariant.lost;
      shows = shows_resting g.O.Opening.opened i.table i.shown (with_drained c.args.path i.table.resting) c.self.invariant.shows;
    })

pub returns-clause-drained : goal.returns-clause-drained
returns-clause-drained g c =
    let i = c.self.inside in
    let path = c.args.path in
    subst (λ (t : TableView g.row.D.Denot). drains_at (held_of t i.shown) path ≡ once_drained (drains_at c.args.self.now path)) (sym c.drained.ensures)
    (drained_once i.table path i.shown ∙ ap (λ (h : HeldView g.row.D.Denot). once_drained (drains_at h path)) c.self.view_is)

pub returns-clause-told : goal.returns-clause-told
returns-clause-told g c =
    let i = c.self.inside in
    let o = g.O.Opening.opened in
    subst (λ (t : TableView g.row.D.Denot). (p : Path) → told_since o (held_of t i.shown) p ≡ told_since o c.args.self.now p) (sym c.drained.ensures)
    (subst (λ (h : HeldView g.row.D.Denot). (p : Path) → told_since o (held_of (record i.table { resting = with_drained c.args.path i.table.resting }) i.shown) p ≡ told_since o h p) c.self.view_is
    (λ p. told_rests o i.table i.shown c.args.path p))
