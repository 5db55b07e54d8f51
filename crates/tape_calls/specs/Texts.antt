-- The texts of a call about one tape, and whether the call takes them.
use Rattle.std.specs.Prelude.{ℕ, Bool, ◌&&◌, nat_le, List, length}
use Rattle.nc_number.specs.declared.limits.TheConstants.{LONGEST_TAPE}
use Rattle.lathe_calls.specs.declared.pair_texts.TheConstants.{LONGEST_SETTINGS}
use Rattle.tape_calls.specs.declared.tape_texts.TapeTexts.{TapeTexts}

-- the texts of a tape and of its settings
pub record TapeView : Type 0 where
  -- the text of the tape
  pub tape : List ℕ
  -- the text of the settings
  pub settings : List ℕ

-- a tape and its settings
abbrev pub tape_and_settings : List ℕ → List ℕ → TapeView
tape_and_settings tape settings = record { tape = tape; settings = settings }

-- the texts that a caller lends
abbrev pub texts_of : TapeTexts → TapeView
texts_of texts = tape_and_settings texts.tape.now texts.settings.now

-- neither text is longer than a file of its kind may be
abbrev pub are_fit : TapeView → Bool
are_fit texts = nat_le (length texts.tape) LONGEST_TAPE && nat_le (length texts.settings) LONGEST_SETTINGS
