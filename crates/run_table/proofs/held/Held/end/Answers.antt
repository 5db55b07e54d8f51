-- For the proof of `Held::end` (src/held.rt): the end that is told is the first cause that holds,
-- or none holds; all else of the held table is as it was.
use Rattle.std.proofs.Common.{◌≡◌, subst}
use Rattle.nc_number.specs.declared.path.Path.{Path}
use Rattle.run_table.specs.Ending.{KeepsRest}
use Rattle.run_table.specs.Holding.{HeldView, held_of, told_since}
use Rattle.run_table.proofs.EndsTold.{ends, goes_on, rest_kept, told_kept, held_asked}
use Rattle.run_table.proofs.held.Held.end.Goals as goal

pub invariant_of-self : goal.invariant_of-self
invariant_of-self g c =
    let i = c.self.inside in
    held_asked g.D.Disk.state i.table c.ended.new.self c.ended.result c.ended.ensures.table c.ended.ensures.asks g.O.Opening.opened i.shown c.ended.ensures.since
    c.self.invariant

pub returns-clause-ends : goal.returns-clause-ends
returns-clause-ends g c =
    let i = c.self.inside in
    ends g.D.Disk.state i.table c.ended.new.self c.ended.result c.ended.ensures.table c.ended.ensures.asks i.shown

pub returns-clause-goes_on : goal.returns-clause-goes_on
returns-clause-goes_on g c =
    let i = c.self.inside in
    goes_on g.D.Disk.state i.table c.ended.new.self c.ended.result c.ended.ensures.table c.ended.ensures.asks i.shown

pub returns-clause-rest : goal.returns-clause-rest
returns-clause-rest g c =
    let i = c.self.inside in
    subst (λ (h : HeldView g.row.D.Denot). KeepsRest h (held_of c.ended.new.self i.shown) c.ended.result) c.self.view_is
    (rest_kept g.D.Disk.state i.table c.ended.new.self c.ended.result c.ended.ensures.table c.ended.ensures.asks i.shown)

pub returns-clause-same : goal.returns-clause-same
returns-clause-same g c =
    let i = c.self.inside in
    let o = g.O.Opening.opened in
    subst (λ (h : HeldView g.row.D.Denot). (p : Path) → told_since o (held_of c.ended.new.self i.shown) p ≡ told_since o h p) c.self.view_is
    (told_kept g.D.Disk.state i.table c.ended.new.self c.ended.result c.ended.ensures.table c.ended.ensures.asks o i.shown)
