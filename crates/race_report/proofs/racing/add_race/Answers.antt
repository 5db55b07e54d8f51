-- `add_race`: with the first race of the variable added, or none if it has none, the list is that
-- of the variables up to this one (src/racing.rt).
use Rattle.std.proofs.Common.{◌+◌, List, subst, sym}
use Rattle.race_report.specs.declared.race.Race.{Race}
use Rattle.race_report.specs.RaceLists.{shared_by}
use Rattle.race_report.specs.Found.{IsAnswer, IsListedBelow}
use Rattle.race_report.proofs.Listed.{above_zero, listed_none, listed_one}
use Rattle.race_report.proofs.racing.add_race.Goals as goal

pub returns-in_ok-push-in-Some : goal.returns-in_ok-push-in-Some
returns-in_ok-push-in-Some c =
    let settings = c.args.verified.now.settings in
    let left = c.args.verified.now.left in
    let right = c.args.verified.now.right in
    let v = c.args.variable in
    subst (λ (xs : List Race). IsListedBelow (shared_by settings) left right (v + 1) xs) (sym c.in_ok-push-in-Some.ensures.items)
    (listed_one (shared_by settings) left right v c.args.races.now.items c.in-Some.race (above_zero settings v c.requires.shared) c.requires.listed
    (subst (λ o. IsAnswer (shared_by settings) left right v o) c.in-Some.is c.in_ok-race.ensures))

pub returns-in-None : goal.returns-in-None
returns-in-None c =
    let settings = c.args.verified.now.settings in
    let left = c.args.verified.now.left in
    let right = c.args.verified.now.right in
    let v = c.args.variable in
    listed_none (shared_by settings) left right v c.args.races.now.items c.requires.listed
    (subst (λ o. IsAnswer (shared_by settings) left right v o) c.in-None.is c.in_ok-race.ensures)
