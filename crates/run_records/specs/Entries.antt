-- What clauses see of a record of a run. How it is spelled is in Spelling. Which records are legal
-- is not said here. A further kind needs its line in each function here, and in `kind_number` of
-- Spelling.
use Rattle.std.specs.Prelude.{◌≡◌, ℕ, Bool, true, false, List, [], Option, Some, None, IsSome}
use Rattle.nc_number.specs.declared.path.Path.{Path}
use Rattle.run_records.specs.declared.edit.Edit.{Edit}
use Rattle.run_records.specs.declared.entry.EntryKind.{EntryKind}
use Rattle.run_records.specs.declared.entry.EntryKind.TheVariants.{Did, Arrived, Met, Ended, Alarmed, Edited}

-- A record: the path, what it did or what was corrected, and its stamps.
pub record Entry : Type 0 where
  -- the path that made the step, or that was corrected
  pub path : Path
  -- what it did, or what was corrected
  pub kind : EntryKind
  -- for each read of a shared variable in the step, the number of records at that moment
  pub stamps : List ℕ

-- the edit that a kind is, if it is one and no step
abbrev pub edit_of : EntryKind → Option Edit
edit_of Did = None
edit_of Arrived = None
edit_of Met = None
edit_of Ended = None
edit_of Alarmed = None
edit_of (Edited edit) = Some edit

-- a record of this kind is of a meeting of both paths
abbrev pub is_meeting : EntryKind → Bool
is_meeting Did = false
is_meeting Arrived = false
is_meeting Met = true
is_meeting Ended = false
is_meeting Alarmed = false
is_meeting (Edited edit) = false

-- a record of this kind may have these stamps: an edit has none, since it reads nothing
abbrev pub MayHaveStamps : EntryKind → List ℕ → Type 0
MayHaveStamps kind stamps = IsSome (edit_of kind) → stamps ≡ []
