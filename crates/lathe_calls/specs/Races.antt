-- The races that are due to the pair of three texts: src/racing.rt answers `IsRaceAnswer`, and
-- src/running.rt takes `AreRaces`. Due and Traced cite it.
use Rattle.std.specs.Prelude.{List}
use Rattle.nc_verify.specs.declared.verified.Verified.{Verified}
use Rattle.race_report.specs.declared.race.Race.{Race}
use Rattle.race_report.specs.RaceLists.{shared_by, IsRaceList}
use Rattle.race_report.specs.Texts.{list_text}
use Rattle.lathe_calls.specs.Answers.{Answer, tells, nothing}
use Rattle.lathe_calls.specs.Statuses as exit

-- the races of a pair for the variables that its settings share
abbrev pub AreRaces : Verified → List Race → Type 0
AreRaces pair races = IsRaceList (shared_by pair.settings) pair.left pair.right races

-- status 0 and the list of the races of a pair; nothing if memory runs out
pub data IsRaceAnswer (pair : Verified) : Answer → Type 0 where
  -- the list of all races
  listed : (races : List Race) → AreRaces pair races → IsRaceAnswer pair (tells exit.done (list_text races))
  -- memory ran out
  unlisted : IsRaceAnswer pair nothing
