-- Why two tapes make no pair, as a value of PairFault: a path has too many labels, 70, or the
-- labels of the paths differ, 72.
use Rattle.std.specs.Prelude.{◌≡◌, ◌≢◌, ℕ, List, take, Some, slice_get}
use Rattle.nc_number.specs.declared.cause.Cause.TheVariants.{TooManyLabels, WaitMismatch}
use Rattle.nc_number.specs.Causes.{cause_number}
use Rattle.label_list.specs.declared.fault.PairFault.{PairFault}
use Rattle.label_list.specs.declared.labelled.Labelled.{Labelled}
use Rattle.label_list.specs.Lists.{bare_labels}

-- The fault of a path that has too many labels. Which path it is, the caller knows.
abbrev pub too_many : PairFault
too_many = record { number = cause_number TooManyLabels; path = 0; line = 0; other = 0; after = 0 }

-- The fault of labels that differ after so many equal ones, at these lines of path 1 and path 2.
abbrev pub mismatch : ℕ → ℕ → ℕ → PairFault
mismatch after line other = record { number = cause_number WaitMismatch; path = 1; line = line; other = other; after = after }

-- It is the fault of the first place where two lists of labels differ, lines aside.
pub record IsMismatch (left right : List Labelled) (fault : PairFault) : Type 0 where
  -- The label of path 1 there.
  pub one : Labelled
  -- The label of path 2 there.
  pub two : Labelled
  -- All labels before these two are equal.
  pub equal : bare_labels (take fault.after left) ≡ bare_labels (take fault.after right)
  -- The label of path 1 stands behind as many labels as the fault tells.
  pub is_one : slice_get left fault.after ≡ Some one
  -- The label of path 2 stands behind as many labels as the fault tells.
  pub is_two : slice_get right fault.after ≡ Some two
  -- Both are different labels.
  pub differ : one.label ≢ two.label
  -- The fault tells how many are equal, and the lines of these two.
  pub is : fault ≡ mismatch fault.after one.line two.line
