-- How long the name of a cause is, so that a piece has room for it: for `add_name` (src/piece.rt).
-- A longer name of a cause needs more room there.
use Rattle.std.proofs.Common.{◌≡◌, ◌≤◌, nat_le, true, length, refl, rules}
use Rattle.std.specs.List.{list_all}
use Rattle.std.proofs.lemmas.List.Elements.{All-contains}
use Rattle.std.proofs.lemmas.List.Sums.{AllPass-from_list_all}
use Rattle.nc_number.specs.declared.cause.Cause.{Cause}
use Rattle.nc_number.specs.Causes.{cause_name, every_cause}
use Rattle.nc_number.proofs.CauseTable.{cause_is_listed}

-- each name in the list of all causes has 19 bytes at most
short : list_all (λ cause. nat_le (length (cause_name cause)) 19) every_cause ≡ true
short = refl

-- a name has 19 bytes at most, so a piece has room for it
pub name_room : (cause : Cause) → length (cause_name cause) ≤ 19
name_room cause =
    let passes : nat_le (length (cause_name cause)) 19 ≡ true = All-contains (λ c. nat_le (length (cause_name c)) 19 ≡ true) every_cause cause (AllPass-from_list_all (λ c. nat_le (length (cause_name c)) 19) every_cause short) (cause_is_listed cause) in
    search rules
