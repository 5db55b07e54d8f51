-- How a record is spelled: path and kind, and then, of a step, the number of stamps, and each stamp
-- in four bytes, of an edit its four numbers. The high byte of a number comes first.
use Rattle.std.specs.Prelude.{ℕ, ◌≤◌, List, [], ◌∷◌, ◌++◌, length, Option, Some, None}
use Rattle.std.specs.Int.{w64, cast_unsigned}
use Rattle.byteorder.specs.Endian.{big_bytes}
use Rattle.nc_number.specs.declared.limits.TheConstants.{MOST_READS}
use Rattle.nc_number.specs.Path.{number_of}
use Rattle.run_records.specs.declared.edit.Edit.{Edit}
use Rattle.run_records.specs.declared.entry.EntryKind.{EntryKind}
use Rattle.run_records.specs.declared.entry.EntryKind.TheVariants.{Did, Arrived, Met, Ended, Alarmed, Edited}
use Rattle.run_records.specs.declared.numbers.EditNumbers.{EditNumbers}
use Rattle.run_records.specs.Edits.{numbers_of, IsEdit}
use Rattle.run_records.specs.Entries.{Entry, edit_of, MayHaveStamps}
use Rattle.run_records.specs.Stamps.{AreStamps}

-- the byte of a kind: 1 to 5 for a step, 6 for an edit
abbrev pub kind_number : EntryKind → ℕ
kind_number Did = 1
kind_number Arrived = 2
kind_number Met = 3
kind_number Ended = 4
kind_number Alarmed = 5
kind_number (Edited edit) = 6

-- the bytes of stamps: each in four bytes
abbrev pub stamp_bytes : List ℕ → List ℕ
stamp_bytes [] = []
stamp_bytes (stamp ∷ stamps) = big_bytes 4 stamp ++ stamp_bytes stamps

-- the numbers of an edit: one byte, two, and eight each for a and b
abbrev pub numbers_bytes : EditNumbers → List ℕ
numbers_bytes numbers =
    numbers.what ∷ (big_bytes 2 numbers.number
    ++ (big_bytes 8 (cast_unsigned w64 numbers.a) ++ big_bytes 8 (cast_unsigned w64 numbers.b)))

-- the bytes after the kind: of a step the number of its stamps and the stamps, of an edit its
-- numbers
abbrev pub bytes_behind : Option Edit → List ℕ → List ℕ
bytes_behind None stamps = length stamps ∷ stamp_bytes stamps
bytes_behind (Some edit) stamps = numbers_bytes (numbers_of edit)

-- the bytes of a record: path, kind, and then the stamps or the numbers of the edit
abbrev pub entry_bytes : Entry → List ℕ
entry_bytes entry = number_of entry.path ∷ kind_number entry.kind ∷ bytes_behind (edit_of entry.kind) entry.stamps

-- what is true of a kind: an edit sets what is there, to what is in range
abbrev pub IsKind : Option Edit → Type 0
IsKind None = Unit {0}
IsKind (Some edit) = IsEdit edit

-- what is true of every record: 32 stamps at most, each of four bytes, none of an edit, and an edit
-- sets what is there, to what is in range
pub record IsEntry (entry : Entry) : Type 0 where
  -- there are 32 stamps at most
  pub few : length entry.stamps ≤ MOST_READS
  -- each stamp fits four bytes
  pub stamps : AreStamps entry.stamps
  -- an edit has no stamps
  pub bare : MayHaveStamps entry.kind entry.stamps
  -- an edit sets what is there, to what is in range
  pub edit : IsKind (edit_of entry.kind)
