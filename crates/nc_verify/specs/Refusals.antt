-- The refusals of a pair, each as a record of its number, its path and its lines. Which texts they
-- refuse is in Verdict; src/refusal.rt makes them.
use Rattle.std.specs.Prelude.{ℕ}
use Rattle.nc_number.specs.declared.cause.Cause.TheVariants.{BadSetting, TooManyLabels}
use Rattle.nc_number.specs.declared.path.Path.{Path}
use Rattle.nc_number.specs.Causes.{cause_number}
use Rattle.nc_number.specs.Path.{number_of}
use Rattle.label_list.specs.declared.fault.PairFault.{PairFault}
use Rattle.nc_verify.specs.declared.refusal.Refusal.{Refusal}

-- the refusal of the settings at a line (90)
abbrev pub at_setting : ℕ → Refusal
at_setting line = record { number = cause_number BadSetting; path = 0; line = line; other = 0; after = 0; switches = 0 }

-- the refusal of a path's tape at a line by this number
abbrev pub at_line : Path → ℕ → ℕ → Refusal
at_line path line number = record { number = number; path = number_of path; line = line; other = 0; after = 0; switches = 0 }

-- the refusal of a path that has too many labels (70)
abbrev pub too_long : Path → Refusal
too_long path = record { number = cause_number TooManyLabels; path = number_of path; line = 0; other = 0; after = 0; switches = 0 }

-- the refusal of a pair whose labels differ (72), by what label_list tells of the difference
abbrev pub mismatch : PairFault → Refusal
mismatch fault =
    record { number = fault.number; path = fault.path; line = fault.line; other = fault.other; after = fault.after; switches = 0 }

-- the refusal, told at a position of the block-skip switches: bit n is switch n
abbrev pub at_position : ℕ → Refusal → Refusal
at_position switches refusal = record refusal { switches = switches }
