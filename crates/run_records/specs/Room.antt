-- What callers see of a list of records: the records, and for how many of them there is room.
use Rattle.std.specs.Prelude.{ℕ, List}
use Rattle.run_records.specs.Entries.{Entry}

-- a list of records, with its room; memory is taken before, so adding one within the room can't
-- fail
pub record Entries : Type 0 where
  -- the records, the first one first
  pub items : List Entry
  -- how many records there is room for in all
  pub room : ℕ
