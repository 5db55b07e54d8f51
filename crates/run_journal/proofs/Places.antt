-- There are as many offsets as records in what an opening of a journal finds. `open_journal`
-- (src/opening.rt) rests on it.
use Rattle.std.proofs.Common.{◌≡◌, ℕ, ◌+◌, List, [], ◌∷◌, length, refl, ap, arith, length-append}
use Rattle.run_records.specs.Entries.{Entry}
use Rattle.run_records.specs.Spelling.{entry_bytes}
use Rattle.run_journal.specs.Batches.{Piece, piece_bytes, records_in, records_of}
use Rattle.run_journal.specs.Places.{record_places, places}

-- each record of a batch has one offset
as_many_records : (at : ℕ) (entries : List Entry) → length (record_places at entries) ≡ length entries
as_many_records at [] = refl
as_many_records at (entry ∷ entries) = omega (arith, as_many_records (at + length (entry_bytes entry)) entries)

-- each record of the pieces has one offset
as_many_places : (gate : ℕ) (pieces : List Piece) → length (places gate pieces) ≡ length (records_of pieces)
as_many_places gate [] = refl
as_many_places gate (piece ∷ pieces) =
    let next : ℕ = gate + 5 + length (piece_bytes piece) in
    omega (arith, length-append (record_places (gate + 6) (records_in piece)) (places next pieces), length-append (records_in piece) (records_of pieces), as_many_records (gate + 6) (records_in piece), as_many_places next pieces)

-- an opening finds as many offsets as records
pub as_many_found : (gate : ℕ) (pieces : List Piece) (entries : List Entry) (offsets : List ℕ) → entries ≡ records_of pieces → offsets ≡ places gate pieces → length offsets ≡ length entries
as_many_found gate pieces entries offsets joins stand = omega (arith, ap length joins, ap length stand, as_many_places gate pieces)
