-- What it means that a call takes the texts: their settings are short enough for a verdict.
-- For the proofs of `answer` (src/answering.rt) and `events_due` (src/happening.rt).
use Rattle.std.proofs.Common.{◌≡◌, ◌<◌, ◌^◌, ◌&&◌, true, length, arith}
use Rattle.std.specs.Prelude.{nat_le}
use Rattle.nc_number.proofs.Bools.{both}
use Rattle.nc_number.proofs.Counts.{true_le}
use Rattle.nc_number.specs.declared.limits.TheConstants.{LONGEST_TAPE}
use Rattle.nc_verify.specs.Verdict.{Texts}
use Rattle.lathe_calls.specs.declared.pair_texts.TheConstants.{LONGEST_SETTINGS}
use Rattle.lathe_calls.specs.Texts.{are_fit}

-- the settings of texts that a call takes are as short as a verdict asks for
pub settings_fit : (texts : Texts) → are_fit texts ≡ true → length texts.settings < 2 ^ 32
settings_fit texts fit =
    let tapes = nat_le (length texts.left) LONGEST_TAPE in
    let right = nat_le (length texts.right) LONGEST_TAPE in
    let settings = nat_le (length texts.settings) LONGEST_SETTINGS in
    let few = true_le (length texts.settings) LONGEST_SETTINGS (both (tapes && right) settings fit).1 in
    omega (arith, few)
