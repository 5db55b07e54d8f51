-- The texts that were read are short enough to be judged.
-- For the proofs of `ask` (src/asking.rt) and of `ask_zones` (src/zoning.rt).
use Rattle.std.proofs.Common.{◌≡◌, ◌<◌, ◌≤◌, ◌^◌, ℕ, List, length, sym, subst, arith}
use Rattle.nc_verify.specs.Verdict.{Texts}
use Rattle.lathe_calls.specs.declared.pair_texts.TheConstants.{LONGEST_SETTINGS}

-- A text of the length that settings may have has less than 2^32 bytes.
pub text_fits : {lent had : List ℕ} → lent ≡ had → length had ≤ LONGEST_SETTINGS → length lent < 2 ^ 32
text_fits same few = subst (λ (text : List ℕ). length text < 2 ^ 32) (sym same) (omega (arith, few))

-- Settings of the length that a file may have have less than 2^32 bytes.
pub settings_fit : {lent had : Texts} → lent ≡ had → length had.settings ≤ LONGEST_SETTINGS → length lent.settings < 2 ^ 32
settings_fit same few = subst (λ (texts : Texts). length texts.settings < 2 ^ 32) (sym same) (omega (arith, few))
