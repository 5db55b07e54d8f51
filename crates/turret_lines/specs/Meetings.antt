-- How far a stream stands: at which wait, and how many meetings it tells; and the lines that it has
-- for them (src/meeting_lines.rt).
use Rattle.std.specs.Prelude.{ℕ, Bool, true, false, List, [], ◌∷◌, ◌++◌, Option, Some, None, codes, decimal, if◌then◌else◌}
use Rattle.nc_number.specs.Faults.{next}
use Rattle.nc_outside.specs.declared.got.Got.{Got}
use Rattle.nc_outside.specs.declared.got.Got.TheVariants.{Placed, Moved, Rested}
use Rattle.nc_outside.specs.declared.rest.Rest.TheVariants.{Place, Wait, End}
use Rattle.text_pieces.specs.Pieces.{code_text}

-- how many meetings a stream tells, and the code of the wait at which its path stands, if nothing
-- came behind that
pub record Standing : Type 0 where
  -- how many meetings it tells; the count stops at the last value of a u64
  pub met : ℕ
  -- the code of the wait at which it stands
  pub waits : Option ℕ

-- the beginning of a stream
abbrev pub no_standing : Standing
no_standing = record { met = 0; waits = None }

-- the line of a wait, at which the path stands
unfoldable pub wait_text : ℕ → List ℕ
wait_text code = codes "wait M" ++ code_text code ++ codes "\n"

-- the line that the path has met at the wait of this code, which was its n-th meeting
unfoldable pub met_text : ℕ → ℕ → List ℕ
met_text n code = codes "met " ++ decimal n ++ codes " M" ++ code_text code ++ codes "\n"

-- how many meetings a stream tells once something came behind the wait, if it stands at one
abbrev pub met_behind : ℕ → Option ℕ → ℕ
met_behind met None = met
met_behind met (Some code) = next met

-- what a stream that tells so many meetings has before its next line: if it stands at a wait, the
-- line of one meeting more
abbrev pub meeting_text : ℕ → Option ℕ → List ℕ
meeting_text met None = []
meeting_text met (Some code) = met_text (next met) code

-- whether a stream has a line for this: for a rest only if it is before a wait
abbrev pub is_written : Got → Bool
is_written (Placed at) = true
is_written (Moved made) = true
is_written (Rested Place) = false
is_written (Rested (Wait code)) = true
is_written (Rested End) = false

-- the code of the wait at which a turret rests by this
abbrev pub wait_in : Got → Option ℕ
wait_in (Placed at) = None
wait_in (Moved made) = None
wait_in (Rested Place) = None
wait_in (Rested (Wait code)) = Some code
wait_in (Rested End) = None

-- how a stream stands behind this
abbrev pub standing_behind : Standing → Got → Standing
standing_behind at what = if is_written what then record { met = met_behind at.met at.waits; waits = wait_in what } else at

-- how a stream stands behind all these
abbrev pub standing_from : Standing → List Got → Standing
standing_from at [] = at
standing_from at (what ∷ got) = standing_from (standing_behind at what) got

-- how the stream of what a turret got stands
unfoldable pub standing_of : List Got → Standing
standing_of got = standing_from no_standing got
