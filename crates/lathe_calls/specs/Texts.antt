-- The three texts of a call, two tapes and the settings, and whether the call takes them.
use Rattle.std.specs.Prelude.{ℕ, Bool, ◌&&◌, nat_le, List, length, Some}
use Rattle.nc_number.specs.declared.limits.TheConstants.{LONGEST_TAPE}
use Rattle.nc_outside.specs.Written.{SinkState}
use Rattle.nc_verify.specs.Verdict.{Texts}
use Rattle.lathe_calls.specs.declared.pair_texts.PairTexts.{PairTexts}
use Rattle.lathe_calls.specs.declared.pair_texts.TheConstants.{LONGEST_SETTINGS}

-- the three texts: the tape of path 1, that of path 2, and the settings
abbrev pub three_texts : List ℕ → List ℕ → List ℕ → Texts
three_texts left right settings = record { left = left; right = right; settings = settings }

-- the three texts that a caller lends
abbrev pub texts_of : PairTexts → Texts
texts_of texts = three_texts texts.left.now texts.right.now texts.settings.now

-- none of the texts is longer than a file of its kind may be
abbrev pub are_fit : Texts → Bool
are_fit texts =
    nat_le (length texts.left) LONGEST_TAPE && nat_le (length texts.right) LONGEST_TAPE
    && nat_le (length texts.settings) LONGEST_SETTINGS

-- the state of a sink that holds this text in memory, and whose calls never failed
abbrev pub sink_with : List ℕ → SinkState
sink_with text = record { written = Some text; faults = 0 }
