-- `races` takes the variables from #100 and then those from #500; no other is shared, so its list
-- is the list of the pair (src/racing.rt).
use Rattle.std.proofs.Common.{◌≤◌, ◌+◌, List, sym, subst, arith}
use Rattle.cell_settings.specs.declared.settings.Settings.{Settings}
use Rattle.race_report.specs.declared.race.Race.{Race}
use Rattle.race_report.specs.RaceLists.{shared_by, IsRaceList}
use Rattle.race_report.proofs.Listed.{behind_the_last, between_both, listed_all, listed_on}
use Rattle.race_report.proofs.racing.races.Goals as goal

pub loop-variable-2-init : goal.loop-variable-2-init
loop-variable-2-init c =
    let settings = c.args.verified.now.settings in
    let v = c.loop-variable.variable in
    let upto : v ≤ 100 + settings.shared100 = c.loop-variable.invariant.upto in
    let past : 100 + settings.shared100 ≤ v =
    subst (λ (s : Settings). 100 + s.shared100 ≤ v) c.settings-settings.ensures c.loop-variable-test.false in
    let few : settings.shared100 ≤ 100 = settings.shared100_range in
    record {
      from = omega arith;
      upto = omega arith;
      listed = listed_on (shared_by settings) c.args.verified.now.left c.args.verified.now.right v 500 c.loop-variable.races.items (omega arith)
          (λ u more less. between_both settings u (omega arith) less) c.loop-variable.invariant.listed;
    }

pub returns : goal.returns
returns c =
    let settings = c.args.verified.now.settings in
    let left = c.args.verified.now.left in
    let right = c.args.verified.now.right in
    let v = c.loop-variable-2.variable in
    let past : 500 + settings.shared500 ≤ v =
    subst (λ (s : Settings). 500 + s.shared500 ≤ v) c.settings-settings.ensures c.loop-variable-2-test.false in
    let few : settings.shared100 ≤ 100 = settings.shared100_range in
    subst (λ (xs : List Race). IsRaceList (shared_by settings) left right xs) (sym c.of.ensures)
    (listed_all (shared_by settings) left right v c.loop-variable-2.races.items (λ u more. behind_the_last settings u (omega arith) few)
    c.loop-variable-2.invariant.listed)
