-- What the heads of records stand for, over the stamps and the edits of all of them, and for how
-- many more there is room. For src/lists.rt and its proofs alone.
use Rattle.std.specs.Prelude.{◌≡◌, ℕ, ◌+◌, ◌-◌, ◌*◌, ◌≤◌, ◌<◌, List, [], ◌∷◌, length, map, take, drop, slice_index_or, Option, Some, None, is_none, if◌then◌else◌}
use Rattle.nc_number.specs.declared.limits.TheConstants.{MOST_READS}
use Rattle.nc_number.specs.declared.value.Var.TheVariants.{Vacant}
use Rattle.run_records.specs.declared.edit.Edit.{Edit}
use Rattle.run_records.specs.declared.edit.Edit.TheVariants.{Common}
use Rattle.run_records.specs.declared.entry.EntryKind.{EntryKind}
use Rattle.run_records.specs.declared.entry.EntryKind.TheVariants.{Did, Arrived, Met, Ended, Alarmed, Edited}
use Rattle.run_records.specs.declared.head.Head.{Head}
use Rattle.run_records.specs.declared.head.HeadKind.{HeadKind}
use Rattle.run_records.specs.declared.head.HeadKind.TheVariants.{Did as HeadDid, Arrived as HeadArrived, Met as HeadMet, Ended as HeadEnded, Alarmed as HeadAlarmed, Edited as HeadEdited}
use Rattle.run_records.specs.Entries.{Entry, edit_of}

-- the step that the kind of a head is, if it is one and no edit
abbrev pub step_of : HeadKind → Option EntryKind
step_of HeadDid = Some Did
step_of HeadArrived = Some Arrived
step_of HeadMet = Some Met
step_of HeadEnded = Some Ended
step_of HeadAlarmed = Some Alarmed
step_of HeadEdited = None

-- what is read past the end of a list of edits (100 is a common variable); nothing hangs on it
abbrev pub no_edit : Edit
no_edit = Common 100 Vacant

-- the edit of an index in a list of edits
abbrev pub edit_at : List Edit → ℕ → Edit
edit_at edits i = slice_index_or edits i no_edit

-- the kind of a record: its step, or the edit of this index
abbrev pub kind_at : List Edit → ℕ → Option EntryKind → EntryKind
kind_at edits first (Some kind) = kind
kind_at edits first None = Edited (edit_at edits first)

-- the record of a head, over the stamps and the edits of all records
abbrev pub entry_of : List ℕ → List Edit → Head → Entry
entry_of stamps edits head = record {
  path = head.path;
  kind = kind_at edits head.first (step_of head.kind);
  stamps = take head.count (drop head.first stamps);
}

-- the records of all heads
abbrev pub entries_of : List ℕ → List Edit → List Head → List Entry
entries_of stamps edits heads = map (entry_of stamps edits) heads

-- a step's stamps, `count` of them from the index `first` on, stand among so many stamps; a record
-- of no step has no stamps, and its edit, at `first`, stands among so many edits
abbrev pub IsPlaced : Option EntryKind → ℕ → ℕ → ℕ → ℕ → Type 0
IsPlaced (Some kind) first count stamps edits = first + count ≤ stamps
IsPlaced None first count stamps edits = (count ≡ 0) × (first < edits)

-- the record's stamps stand among the stamps, and are no more than a record may have; an edit
-- stands among the edits
pub record StandsIn (stamps : List ℕ) (edits : List Edit) (head : Head) : Type 0 where
  -- the record has no more stamps than a record may have
  pub few : head.count ≤ MOST_READS
  -- the record's stamps, or its edit, stand within those of all
  pub within : IsPlaced (step_of head.kind) head.first head.count (length stamps) (length edits)

-- There is room for so many records in all: for the head of each, and for an edit and the most
-- stamps of each that is to come. `heads`, `stamps` and `edits` are how many of these there are,
-- `most_heads`, `most_stamps` and `most_edits` how many there is memory for.
pub record HasRoom (room heads most_heads stamps most_stamps edits most_edits : ℕ) : Type 0 where
  -- there are no more records than fit
  pub few : heads ≤ room
  -- there is room for the head of each record
  pub for_heads : room ≤ most_heads
  -- there is room for 32 stamps of each record to come
  pub for_stamps : stamps + MOST_READS * (room - heads) ≤ most_stamps
  -- there is room for an edit of each record to come
  pub for_edits : edits + (room - heads) ≤ most_edits

-- the step that a kind is, if it is no edit
abbrev pub step_in : EntryKind → Option EntryKind
step_in kind = if is_none (edit_of kind) then Some kind else None

-- the edit that may be there, as a list of one or none
abbrev pub edits_in : Option Edit → List Edit
edits_in None = []
edits_in (Some edit) = edit ∷ []

-- where a new record's stamps will stand, after so many stamps; or its edit, after so many edits
abbrev pub place_of : Option EntryKind → ℕ → ℕ → ℕ
place_of (Some kind) stamps edits = stamps
place_of None stamps edits = edits
