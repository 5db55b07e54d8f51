-- `put_races` puts a line for each race; after a fault of the sink, a prefix of them
-- (src/writing.rt).
use Rattle.race_report.proofs.Puts.{puts_on, puts_break, puts_end}
use Rattle.race_report.proofs.writing.put_races.Goals as goal

pub loop-race-init : goal.loop-race-init
loop-race-init g c = λ new result rest. rest

pub loop-race-preserved : goal.loop-race-preserved
loop-race-preserved g c =
    puts_on _ _ _ c.args.races.now c.loop-race.race-index _ c.loop-race-test.true c.in-Ok.ensures c.loop-race.invariant

pub returns-in-Err : goal.returns-in-Err
returns-in-Err g c =
    puts_break _ _ _ c.args.races.now c.loop-race.race-index _ c.in-Err.fault c.loop-race-test.true c.in-Err.ensures c.loop-race.invariant

pub returns : goal.returns
returns g c = puts_end _ _ c.args.races.now c.loop-race.race-index c.loop-race-test.false c.loop-race.invariant
