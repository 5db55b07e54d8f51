-- One list of races is due to a pair.
-- DueOnce uses it.
use Rattle.std.proofs.Common.{◌≡◌, ◌+◌, ◌&&◌, ◌||◌, nat_le, nat_lt, List, refl, ap}
use Rattle.nc_restart.specs.Pair.{IsSamePair}
use Rattle.nc_verify.specs.declared.verified.Verified.{Verified}
use Rattle.race_report.specs.declared.race.Race.{Race}
use Rattle.race_report.specs.RaceLists.{shared_by}
use Rattle.race_report.specs.Texts.{list_text}
use Rattle.race_report.proofs.SameForms.{same_list}
use Rattle.lathe_calls.specs.Answers.{Answer}
use Rattle.lathe_calls.specs.Races.{AreRaces, IsRaceAnswer, listed, unlisted}
use Rattle.lathe_top.proofs.Agreed.{Agree}

-- pairs that are the same (`IsSamePair`) share the same variables
shares_same : (pair other : Verified) → IsSamePair pair other → shared_by pair.settings ≡ shared_by other.settings
shares_same pair other same =
    let first : pair.settings.shared100 ≡ other.settings.shared100 = ap (λ m. m.paths.one.path.fixed.shared100) same.opening in
    let second : pair.settings.shared500 ≡ other.settings.shared500 = ap (λ m. m.paths.one.path.fixed.shared500) same.opening in
    λ i v. (nat_le 100 v && nat_lt v (100 + first i)) || (nat_le 500 v && nat_lt v (500 + second i))

-- pairs that are the same (`IsSamePair`) have the same races
pub same_races : (pair other : Verified) → IsSamePair pair other → (races others : List Race) → AreRaces pair races → AreRaces other others
    → races ≡ others
same_races pair other same races others are also =
    same_list (shared_by pair.settings) (shared_by other.settings) pair.left other.left pair.right other.right
    (shares_same pair other same) same.left same.right races others are also

-- two answers of `races` to pairs that are the same agree
pub races_of_once : (pair other : Verified) (a b : Answer) → IsSamePair pair other → IsRaceAnswer pair a → IsRaceAnswer other b → Agree a b
races_of_once pair other a b same (listed races are) (listed others also) =
    (refl, ap list_text (same_races pair other same races others are also))
races_of_once pair other a b same (listed races are) unlisted = tt
races_of_once pair other a b same unlisted is = tt
