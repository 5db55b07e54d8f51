-- Values that cannot differ are the same: the lemmas of Together ask it of the values of variables.
use Rattle.std.proofs.Common.{◌≡◌, ℕ, Bool, true, false, ◌==◌, ℤ, pos, negsuc, refl, ap}
use Rattle.std.proofs.lemmas.Bool.{eqb-true, eqb-false}
use Rattle.nc_number.specs.declared.value.Var.{Var}
use Rattle.nc_number.specs.declared.value.Var.TheVariants.{Vacant, Is}
use Rattle.race_order.proofs.Together.{IsStable}

-- natural numbers that can't differ are the same
nat_stable : IsStable ℕ
nat_stable a b never = go (a == b) refl
  where
    go : (t : Bool) → (a == b) ≡ t → a ≡ b
    go true e = eqb-true a b e
    go false e = absurd (never (eqb-false a b e))

-- integers that can't differ are the same
int_stable : IsStable ℤ
int_stable (pos a) (pos b) never = ap pos (nat_stable a b (λ other. never (λ e. let same : a ≡ b = cc in other same)))
int_stable (pos a) (negsuc b) never = absurd (never (λ e. cc))
int_stable (negsuc a) (pos b) never = absurd (never (λ e. cc))
int_stable (negsuc a) (negsuc b) never = ap negsuc (nat_stable a b (λ other. never (λ e. let same : a ≡ b = cc in other same)))

-- values of variables that can't differ are the same
pub var_stable : IsStable Var
var_stable Vacant Vacant never = refl
var_stable Vacant (Is b) never = absurd (never (λ e. cc))
var_stable (Is a) Vacant never = absurd (never (λ e. cc))
var_stable (Is a) (Is b) never =
    ap Is (int_stable a b (λ other. never (λ e. let same : a ≡ b = cc in other same)))
