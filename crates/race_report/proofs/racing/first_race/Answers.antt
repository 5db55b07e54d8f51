-- `first_race` answers the first race among the least lines, part by part, or none if no part has
-- one (src/racing.rt).
use Rattle.std.proofs.Common.{◌≡◌, ◌<◌, false, is_some, length, rules}
use Rattle.race_report.specs.Found.{race_at}
use Rattle.race_report.proofs.FirstRaces.{left_next}
use Rattle.race_report.proofs.racing.first_race.Goals as goal

pub loop-after-preserved : goal.loop-after-preserved
loop-after-preserved c =
    let lines = c.args.lines.now in
    let after = c.loop-after.after in
    let total = length lines.one.writes.items in
    let less : after < total = search rules in
    let none : is_some (race_at lines c.args.variable after) ≡ false = search rules in
    left_next lines c.args.variable after total c.loop-after.invariant less none
