-- The names and texts that the code keeps, as clauses see them. Clauses of this crate cite it.
use Rattle.std.specs.Prelude.{◌≤◌, ℕ, List, length, option_map}
use denote.Ref.{Bor}
use Rattle.nc_number.specs.declared.both.Both.{Both}
use Rattle.nc_number.specs.declared.limits.TheConstants.{LONGEST_TAPE}
use Rattle.nc_verify.specs.Verdict as verdict
use Rattle.lathe_calls.specs.declared.pair_texts.TheConstants.{LONGEST_SETTINGS}
use Rattle.lathe_looks.specs.declared.fetching.Texts.{Texts}
use Rattle.lathe_looks.specs.declared.files.FileNames.{FileNames}
use Rattle.lathe_looks.specs.Named.{Named, files_of, tapes_of}

-- The files of both tapes, by these names.
abbrev pub tape_files : Both (Bor (List ℕ)) → List Named
tape_files names = tapes_of names.one.now names.two.now

-- The files of a pair, by these names.
abbrev pub files_in : FileNames → List Named
files_in names = files_of names.tapes.one.now names.tapes.two.now (option_map (λ s. s.now) names.settings)

-- The three texts of a pair, as a verdict sees them.
abbrev pub texts_of : Texts → verdict.Texts
texts_of texts = record { left = texts.tapes.one.items; right = texts.tapes.two.items; settings = texts.settings.items }

-- No text of the pair is longer than its file may be.
pub record AreShort (texts : verdict.Texts) : Type 0 where
  -- the tape of path 1
  pub left : length texts.left ≤ LONGEST_TAPE
  -- the tape of path 2
  pub right : length texts.right ≤ LONGEST_TAPE
  -- the settings
  pub settings : length texts.settings ≤ LONGEST_SETTINGS
