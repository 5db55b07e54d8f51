-- What the tables in memory of these tests tell turrets: an auxiliary code for each record of a path,
-- and at the table of the tests of both paths a rest before the first of path 1, if it is to be drained.
-- For this crate alone: src/seats/memory.rt and src/pairs/codes.rt.
use Rattle.std.specs.Prelude.{ℕ, Bool, true, false, ◌&&◌, List, ◌∷◌, map, if◌then◌else◌}
use Rattle.nc_moves.specs.declared.motion.Move.TheVariants.{Aux}
use Rattle.nc_number.specs.declared.path.Path.{Path}
use Rattle.nc_number.specs.declared.path.Path.TheVariants.{One, Two}
use Rattle.nc_outside.specs.declared.got.Got.{Got}
use Rattle.nc_outside.specs.declared.got.Got.TheVariants.{Moved, Rested}
use Rattle.nc_outside.specs.declared.rest.Rest.TheVariants.{Wait}
use Rattle.nc_outside.specs.Lined.{lined_move}
use Rattle.seat_table.specs.Turning.{Draining}

-- what the records with these auxiliary codes tell
abbrev pub codes_told : List ℕ → List Got
codes_told codes = map (λ m. Moved (lined_move 1 (Aux m))) codes

-- what these records tell behind the rest before the first of them, if the path was asked for it
abbrev pub told_behind_rest : Bool → List Got → List Got
told_behind_rest true told = Rested (Wait 101) ∷ told
told_behind_rest false told = told

-- what a path was told: path 1 a rest first, if it was asked for it
abbrev pub told_of : Path → Bool → List ℕ → List ℕ → List Got
told_of One asked first second = told_behind_rest asked (codes_told first)
told_of Two asked first second = codes_told second

-- whether a path of a table that runs is to be drained: path 1, if it was not yet
abbrev pub drains_of : Path → Bool → Bool → Bool → Draining
drains_of One runs drains asked = if runs && drains then (if asked then Draining.asked 101 else Draining.due 101) else Draining.none
drains_of Two runs drains asked = Draining.none
