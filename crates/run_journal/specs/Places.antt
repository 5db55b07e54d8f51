-- Where the records of a journal begin.
use Rattle.std.specs.Prelude.{ℕ, ◌+◌, List, [], ◌∷◌, ◌++◌, length}
use Rattle.run_records.specs.Entries.{Entry}
use Rattle.run_records.specs.Spelling.{entry_bytes}
use Rattle.run_journal.specs.Batches.{Piece, piece_bytes, records_in}

-- the offset of each record's first byte, where the first one stands at this offset
abbrev pub record_places : ℕ → List Entry → List ℕ
record_places at [] = []
record_places at (entry ∷ entries) = at ∷ record_places (at + length (entry_bytes entry)) entries

-- the offset of the first byte of each record in pieces, if the gate of the first piece stands at
-- this offset: after the gate come four bytes of length, and, of a batch, one byte of its count
abbrev pub places : ℕ → List Piece → List ℕ
places gate [] = []
places gate (piece ∷ pieces) =
    record_places (gate + 6) (records_in piece) ++ places (gate + 5 + length (piece_bytes piece)) pieces
