-- Why bytes begin with no record, and the numbers of all causes. How a record is spelled is in
-- Spelling. `take_entry` (src/reading.rt) answers the cause.
use Rattle.std.specs.Prelude.{ℕ, ◌+◌, ◌*◌, ◌==◌, ◌||◌, ◌&&◌, not, nat_lt, Bool, List, length, drop, slice_index, Option, Some, None, is_none, if◌then◌else◌}
use Rattle.std.specs.Int.{w64, cast_signed}
use Rattle.nc_number.specs.declared.limits.TheConstants.{MOST_READS}
use Rattle.byteorder.specs.Endian.{big_number}
use Rattle.run_records.specs.declared.bad_record.BadRecord.{BadRecord}
use Rattle.run_records.specs.declared.bad_record.BadRecord.TheVariants.{NoPath, NoKind, TooManyStamps, WrongLength, WrongCount, NotLegal, NoHeader, TooManyRecords, RefusedTapes, BadEdit}
use Rattle.run_records.specs.declared.numbers.EditNumbers.{EditNumbers}
use Rattle.run_records.specs.Edits.{edit_with}

-- the number of the cause, from 1 to 10, as in src/bad_record.rt; of several causes of one record
-- the least is told
abbrev pub cause_number : BadRecord → ℕ
cause_number NoPath = 1
cause_number NoKind = 2
cause_number TooManyStamps = 3
cause_number WrongLength = 4
cause_number WrongCount = 5
cause_number NotLegal = 6
cause_number NoHeader = 7
cause_number TooManyRecords = 8
cause_number RefusedTapes = 9
cause_number BadEdit = 10

-- the second byte of a record, its kind, is that of an edit: 6
abbrev pub is_edit : List ℕ → Bool
is_edit bytes = slice_index bytes 1 == 6

-- the numbers of an edit, as its record has them after the kind
abbrev pub numbers_in : List ℕ → EditNumbers
numbers_in bytes = record {
  what = slice_index bytes 0;
  number = big_number 2 (drop 1 bytes);
  a = cast_signed w64 (big_number 8 (drop 3 bytes));
  b = cast_signed w64 (big_number 8 (drop 11 bytes));
}

-- how many bytes the record has: an edit 21 (path, kind and 19 of its numbers), a step 3 and 4 for
-- each stamp
abbrev pub record_size : List ℕ → ℕ
record_size bytes = if is_edit bytes then 21 else 3 + 4 * slice_index bytes 2

-- the first byte is there, and is no path: neither 1 nor 2
abbrev pub has_bad_path : List ℕ → Bool
has_bad_path bytes = nat_lt 0 (length bytes) && not (slice_index bytes 0 == 1 || slice_index bytes 0 == 2)

-- the second byte is there, and is no kind: not 1 to 6
abbrev pub has_bad_kind : List ℕ → Bool
has_bad_kind bytes = nat_lt 1 (length bytes) && not (nat_lt 0 (slice_index bytes 1) && nat_lt (slice_index bytes 1) 7)

-- the record is no edit, and its third byte, the number of stamps, is there and is more than 32
abbrev pub has_too_many_stamps : List ℕ → Bool
has_too_many_stamps bytes = not (is_edit bytes) && (nat_lt 2 (length bytes) && nat_lt MOST_READS (slice_index bytes 2))

-- the bytes end before the record does, which has three at least
abbrev pub is_cut_short : List ℕ → Bool
is_cut_short bytes = nat_lt (length bytes) 3 || nat_lt (length bytes) (record_size bytes)

-- the record is an edit, and its numbers are those of none
abbrev pub has_bad_edit : List ℕ → Bool
has_bad_edit bytes = is_edit bytes && is_none (edit_with (numbers_in (drop 2 bytes)))

-- why the bytes begin with no record: the least cause that holds of the bytes that are there, and
-- none if they begin with a record
abbrev pub cause_of : List ℕ → Option BadRecord
cause_of bytes =
    if has_bad_path bytes then Some NoPath
    else if has_bad_kind bytes then Some NoKind
    else if has_too_many_stamps bytes then Some TooManyStamps
    else if is_cut_short bytes then Some WrongLength
    else if has_bad_edit bytes then Some BadEdit
    else None
