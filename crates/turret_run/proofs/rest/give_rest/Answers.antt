-- For the proof of `give_rest` (src/rest.rt): when the last turns are given, each turret has served
-- what was told.
use Rattle.std.proofs.Common.{◌≡◌, ◌++◌, sym, subst}
use Rattle.nc_number.specs.declared.path.Path.TheVariants.{One, Two}
use Rattle.drive_line.specs.Driving.{DrivenState, Serves}
use Rattle.path_worker.specs.declared.worker.Why.{Why}
use Rattle.path_worker.specs.Work.{told_at_end}
use Rattle.seat_table.specs.Turning.{Tellings}
use Rattle.run_table.specs.Holding.{told_since}
use Rattle.turret_run.specs.Rests.{ServesBehind}
use Rattle.turret_run.proofs.rest.give_rest.Goals as goal

-- A turret that has served what was told so far still has after the question for the end, which makes
-- no record.
still : (why : Why) (old new now : Tellings) (was is : DrivenState) → now ≡ new → ServesBehind why old was new is → ServesBehind why old was now is
still why old new now was is same s = λ start before. subst (λ r. Serves (r ++ told_at_end why) start is) (sym same) (s start before)

pub returns-in-Some-end_of_run-clause-one : goal.returns-in-Some-end_of_run-clause-one
returns-in-Some-end_of_run-clause-one g c =
    still c.args.whys.now.one (told_since g.O.Opening.opened c.args.table.now One) _ _ _ _ (c.end_of_run.ensures.same One) c.loop.invariant.2

pub returns-in-Some-end_of_run-clause-two : goal.returns-in-Some-end_of_run-clause-two
returns-in-Some-end_of_run-clause-two g c =
    still c.args.whys.now.two (told_since g.O.Opening.opened c.args.table.now Two) _ _ _ _ (c.end_of_run.ensures.same Two) c.loop.invariant.3

pub loop-preserved : goal.loop-preserved
loop-preserved g c = (
  tt,
  tt,
  λ start before. c.give_turn_of.ensures.one start
      (still c.args.whys.now.one (told_since g.O.Opening.opened c.args.table.now One) _ _ _ _ (c.end_of_run.ensures.same One) c.loop.invariant.2 start before),
  λ start before. c.give_turn_of.ensures.two start
      (still c.args.whys.now.two (told_since g.O.Opening.opened c.args.table.now Two) _ _ _ _ (c.end_of_run.ensures.same Two) c.loop.invariant.3 start before),
)
