-- What it means that a call takes the texts: the settings are short enough to be read.
-- For the proof of `answer_tape` (src/answering.rt).
use Rattle.std.proofs.Common.{◌≡◌, ◌≤◌, true, length}
use Rattle.std.specs.Prelude.{nat_le}
use Rattle.nc_number.proofs.Bools.{both}
use Rattle.nc_number.proofs.Counts.{true_le}
use Rattle.nc_number.specs.declared.limits.TheConstants.{LONGEST_TAPE}
use Rattle.lathe_calls.specs.declared.pair_texts.TheConstants.{LONGEST_SETTINGS}
use Rattle.tape_calls.specs.Texts.{TapeView, are_fit}

-- the settings of texts that a call takes are as short as a file of settings is
pub settings_fit : (texts : TapeView) → are_fit texts ≡ true → length texts.settings ≤ LONGEST_SETTINGS
settings_fit texts fit =
    true_le (length texts.settings) LONGEST_SETTINGS
    (both (nat_le (length texts.tape) LONGEST_TAPE) (nat_le (length texts.settings) LONGEST_SETTINGS) fit).1
