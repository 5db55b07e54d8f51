-- How the races of a pair are found: the first race of a variable among the least lines of the
-- parts (a part are the blocks that a path may run behind so many waits), and the list as it grows
-- by one variable after another.
-- For the contracts of src/racing.rt alone.
use Rattle.std.specs.Prelude.{◌≡◌, ℕ, zero, suc, ◌<◌, Bool, List, [], ◌∷◌, Option, Some, None}
use Rattle.nc_number.specs.declared.both.Both.{Both}
use Rattle.nc_number.specs.declared.path.Path.{Path}
use Rattle.nc_number.specs.declared.path.Path.TheVariants.{One, Two}
use Rattle.tape_flow.specs.declared.flow.Flow.{Flow}
use Rattle.race_order.specs.Races.{IsRace}
use Rattle.race_report.specs.declared.race.Race.{Race}
use Rattle.race_report.specs.declared.racing.PathLines.{PathLines}
use Rattle.race_report.specs.RaceLists.{IsFirstRace, AreFirst, AreRising, HasVariable}
use Rattle.race_report.specs.Tables.{line_at}

-- a race of the variable v behind so many waits, of these lines, if both are there
abbrev pub race_between : ℕ → ℕ → Path → Option ℕ → Option ℕ → Option Race
race_between v after writer (Some write) (Some name) =
    Some (record { variable = v; after = after; writer = writer; write_line = write; other_line = name })
race_between v after writer (Some write) None = None
race_between v after writer None name = None

-- the first of two races, if it is there; else the second
abbrev pub or_race : Option Race → Option Race → Option Race
or_race (Some race) other = Some race
or_race None other = other

-- the first race of the variable v behind so many waits, path 1 as the writer before path 2
abbrev pub race_at : Both PathLines → ℕ → ℕ → Option Race
race_at lines v after =
    or_race (race_between v after One (line_at lines.one.writes.items after) (line_at lines.two.names.items after))
    (race_between v after Two (line_at lines.two.writes.items after) (line_at lines.one.names.items after))

-- the first race of the variable v in `count` parts from the part `after` on
abbrev pub first_from : Both PathLines → ℕ → ℕ → ℕ → Option Race
first_from lines v zero after = None
first_from lines v (suc count) after = or_race (race_at lines v after) (first_from lines v count (suc after))

-- all of the races are of variables below this one
abbrev pub AreBelow : ℕ → List Race → Type 0
AreBelow high [] = Unit {0}
AreBelow high (race ∷ races) = (race.variable < high) × AreBelow high races

-- the list of the races of a pair, as far as the variables below this one go
pub record IsListedBelow (shared : ℕ → Bool) (left right : Flow) (high : ℕ) (races : List Race) : Type 0 where
  -- its variables rise
  pub rising : AreRising 0 races
  -- all are below `high`
  pub below : AreBelow high races
  -- each race is the first of its variable
  pub firsts : AreFirst shared left right races
  -- no variable below `high` with a race is left out, whichever path writes
  pub one : (n v : ℕ) → v < high → IsRace shared left right n v → HasVariable v races
  pub two : (n v : ℕ) → v < high → IsRace shared right left n v → HasVariable v races

-- the answer on one variable: its first race, or none if it has none
abbrev pub IsAnswer : (ℕ → Bool) → Flow → Flow → ℕ → Option Race → Type 0
IsAnswer shared left right v None =
    ((n : ℕ) → IsRace shared left right n v → ⊥) × ((n : ℕ) → IsRace shared right left n v → ⊥)
IsAnswer shared left right v (Some race) = (race.variable ≡ v) × IsFirstRace shared left right race
