-- For the loop of `give_rest` (src/rest.rt): a turret that had served what was told at the beginning
-- has served what was told by now.
use Rattle.nc_number.specs.declared.path.Path.TheVariants.{One, Two}
use Rattle.run_table.specs.Holding.{told_since}
use Rattle.turret_run.specs.Rests.{ServesBehind}
use Rattle.turret_run.proofs.rest.give_rest.Given as goal

abbrev pub invariant-loop : goal.invariant-loop
invariant-loop g l =
    (goal.iterator-loop g).can_next l.iterator' × (goal.iterator-loop g).is_finite l.iterator'
    × ServesBehind l.whys.one (told_since g.O.Opening.opened l.initial.table One) l.initial.turrets.one (told_since g.O.Opening.opened l.table One) l.turrets.one
    × ServesBehind l.whys.two (told_since g.O.Opening.opened l.initial.table Two) l.initial.turrets.two (told_since g.O.Opening.opened l.table Two) l.turrets.two
