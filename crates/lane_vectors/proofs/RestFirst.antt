-- The rest of path 1 stands before what its records tell. `CodeTable::turn_step` (src/pairs/codes.rt)
-- rests on it.
use Rattle.std.proofs.Common.{◌≡◌, ℕ, Bool, true, false, List, [], ◌∷◌, ◌++◌, refl, ap}
use Rattle.nc_outside.specs.declared.got.Got.{Got}
use Rattle.nc_outside.specs.declared.got.Got.TheVariants.{Rested}
use Rattle.nc_outside.specs.declared.halt.Next.{Next}
use Rattle.nc_outside.specs.declared.rest.Rest.TheVariants.{Wait}
use Rattle.lane_vectors.specs.Codes.{codes_told, told_behind_rest}
use Rattle.seat_table.specs.Turning.{Answers}

-- what a step tells comes last, whether there was a rest before the first record or not
pub answers_behind_rest : (asked : Bool) (before after : List Got) (next : Next) → Answers before next after
    → Answers (told_behind_rest asked before) next (told_behind_rest asked after)
answers_behind_rest true before after next p = ap (λ told. Rested (Wait 101) ∷ told) p
answers_behind_rest false before after next p = p

-- before the first record the rest is the last thing that is told
pub rest_alone : (records : List ℕ) → records ≡ [] → Rested (Wait 101) ∷ codes_told records ≡ codes_told records ++ (Rested (Wait 101) ∷ [])
rest_alone [] none = refl
rest_alone (m ∷ records) none = absurd (cc none)
