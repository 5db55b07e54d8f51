-- The list of the races of a pair: for each shared variable that has a race, the earliest one. What
-- a race is, race_order defines; here are its lines and which race comes first. Part n of a path
-- are the blocks that it may run behind n waits; `place` is the number of a block in its program,
-- from 0.
use Rattle.std.specs.Prelude.{◌≡◌, ℕ, ◌<◌, ◌≤◌, ◌⊎◌, Bool, true, List, [], ◌∷◌, ◌||◌, ◌&&◌, ◌+◌, nat_le, nat_lt, Some}
use Rattle.nc_number.specs.declared.path.Path.{Path}
use Rattle.nc_number.specs.declared.path.Path.TheVariants.{One, Two}
use Rattle.block_forms.specs.declared.block.FlowBlock.{FlowBlock}
use Rattle.cell_settings.specs.declared.settings.Settings.{Settings}
use Rattle.part_order.specs.Parts.{IsInPart}
use Rattle.tape_flow.specs.declared.flow.Flow.{Flow}
use Rattle.tape_flow.specs.Places.{flow_block}
use Rattle.named_vars.specs.Names.{block_names, block_may_write}
use Rattle.race_order.specs.Races.{IsRace}
use Rattle.race_report.specs.declared.race.Race.{Race}

-- both paths share the variable, by the settings of the cell; `is_shared` of path_state says the
-- same by what is fixed for a path
abbrev pub shared_by : Settings → ℕ → Bool
shared_by settings v =
    (nat_le 100 v && nat_lt v (100 + settings.shared100)) || (nat_le 500 v && nat_lt v (500 + settings.shared500))

-- part n of the path has a block of this line that may write the variable
abbrev pub MayWriteAt : Flow → ℕ → ℕ → ℕ → Type 0
MayWriteAt flow n v line =
    (program place : ℕ) × (block : FlowBlock) × IsInPart flow.order n program place
    × (flow_block flow.programs program place ≡ Some block) × (block_may_write flow program place v ≡ true) × (block.line ≡ line)

-- part n of the path has a block of this line that names the variable
abbrev pub NamesAt : Flow → ℕ → ℕ → ℕ → Type 0
NamesAt flow n v line =
    (program place : ℕ) × (block : FlowBlock) × IsInPart flow.order n program place
    × (flow_block flow.programs program place ≡ Some block) × (block_names flow program place v ≡ true) × (block.line ≡ line)

-- of two flows that of the path that writes
abbrev pub writer_of : Path → Flow → Flow → Flow
writer_of One left right = left
writer_of Two left right = right

-- of two flows that of the path that does not write
abbrev pub other_of : Path → Flow → Flow → Flow
other_of One left right = right
other_of Two left right = left

-- the race is one of the pair: both paths share its variable, and behind its waits the writer has a
-- block of its line that may write it, and the other path a block of its line that names it
pub record IsRaceAt (shared : ℕ → Bool) (left right : Flow) (race : Race) : Type 0 where
  pub is_shared : shared race.variable ≡ true
  pub writes : MayWriteAt (writer_of race.writer left right) race.after race.variable race.write_line
  pub names : NamesAt (other_of race.writer left right) race.after race.variable race.other_line

-- race a has the lesser line of the writer, or the same and no greater line of the other path
abbrev pub HasLessLines : Race → Race → Type 0
HasLessLines a b = (a.write_line < b.write_line) ⊎ ((a.write_line ≡ b.write_line) × (a.other_line ≤ b.other_line))

-- in race a path 1 writes and in race b path 2 does; or the same path writes, and a has lesser
-- lines
abbrev pub WritesFirst : Race → Race → Type 0
WritesFirst a b = ((a.writer ≡ One) × (b.writer ≡ Two)) ⊎ ((a.writer ≡ b.writer) × HasLessLines a b)

-- race a comes before race b, or is equal: behind fewer waits; else by the writer, else by the
-- lines
abbrev pub ComesFirst : Race → Race → Type 0
ComesFirst a b = (a.after < b.after) ⊎ ((a.after ≡ b.after) × WritesFirst a b)

-- the race is one of the pair, and the first one of its variable
pub record IsFirstRace (shared : ℕ → Bool) (left right : Flow) (race : Race) : Type 0 where
  pub is : IsRaceAt shared left right race
  pub first : (other : Race) → other.variable ≡ race.variable → IsRaceAt shared left right other → ComesFirst race other

-- each race of the list is the first of its variable
abbrev pub AreFirst : (ℕ → Bool) → Flow → Flow → List Race → Type 0
AreFirst shared left right [] = Unit {0}
AreFirst shared left right (race ∷ races) = IsFirstRace shared left right race × AreFirst shared left right races

-- the variables of the list rise: each is above the one before it, and the first above `low`
abbrev pub AreRising : ℕ → List Race → Type 0
AreRising low [] = Unit {0}
AreRising low (race ∷ races) = (low < race.variable) × AreRising race.variable races

-- some race of the list is of this variable
abbrev pub HasVariable : ℕ → List Race → Type 0
HasVariable v [] = ⊥
HasVariable v (race ∷ races) = (race.variable ≡ v) ⊎ HasVariable v races

-- The list of the races of a pair.
pub record IsRaceList (shared : ℕ → Bool) (left right : Flow) (races : List Race) : Type 0 where
  -- its variables rise
  pub rising : AreRising 0 races
  -- each race is the first of its variable
  pub firsts : AreFirst shared left right races
  -- no variable with a race is left out, whichever path writes
  pub one : (n v : ℕ) → IsRace shared left right n v → HasVariable v races
  pub two : (n v : ℕ) → IsRace shared right left n v → HasVariable v races
