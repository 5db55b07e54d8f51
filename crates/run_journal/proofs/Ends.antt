-- Where a journal ends at most: five bytes and the header, six bytes beside its own for each
-- record, and eight for the raising mark. The law `a_held_journal_is_small` (src/laws.rt) rests on
-- it.
use Rattle.std.proofs.Common.{◌≡◌, ℕ, ◌+◌, ◌*◌, ◌≤◌, List, [], ◌∷◌, length, map, ap, arith, length-append}
use Rattle.std.proofs.lemmas.List.Concat.{flat_map-append}
use Rattle.disk_model.specs.Device.{DiskState}
use Rattle.gate_file.specs.Chain.{ends_at}
use Rattle.gate_file.proofs.Ends.{keeps_end}
use Rattle.run_records.specs.declared.header.Header.{Header}
use Rattle.run_records.specs.declared.version.Version.{Version}
use Rattle.run_records.specs.declared.version.Version.TheVariants.{One, Two}
use Rattle.run_records.specs.Entries.{Entry}
use Rattle.run_records.specs.Headers.{header_bytes}
use Rattle.run_records.specs.Spelling.{entry_bytes}
use Rattle.run_journal.specs.Batches.{records_bytes, Piece, a_batch, the_mark, piece_bytes, bodies_of, records_of, ArePieces}
use Rattle.run_journal.specs.Stands.{Holds}

-- the bytes of a raising mark, which may still come in version 1 alone
abbrev mark_size : Version → ℕ
mark_size One = 8
mark_size Two = 0

-- a mark takes at most eight bytes
small_mark : (version : Version) → mark_size version ≤ 8
small_mark One = omega arith
small_mark Two = omega arith

-- the pieces take the bytes of their records, six more a record, and those of a mark
pub pieces_end : (version : Version) (pieces : List Piece) → ArePieces version pieces → ends_at (map piece_bytes pieces) ≤ length (records_bytes (records_of pieces)) + 6 * length (records_of pieces) + mark_size version
pieces_end version [] are = omega arith
pieces_end version (a_batch batch ∷ pieces) are =
    let joined = ap length (flat_map-append entry_bytes batch (records_of pieces)) in
    omega (arith, pieces_end version pieces are.1, are.0.some, joined, length-append (records_bytes batch) (records_bytes (records_of pieces)), length-append batch (records_of pieces))
pieces_end version (the_mark ∷ pieces) are =
    let eight : mark_size version ≡ 8 = ap mark_size are.0 in
    omega (arith, pieces_end Two pieces are.1, eight)

-- a journal that the disk holds takes at most five bytes and its header, eight for a mark, and six
-- bytes beside its own for each record
pub held_end : (header : Header) (version : Version) (entries : List Entry) (disk : DiskState) (end : ℕ) → Holds header version entries disk end → end ≤ 13 + length (header_bytes header) + length (records_bytes entries) + 6 * length entries
held_end header version entries disk end holds =
    let records : length (records_bytes entries) ≡ length (records_bytes (records_of holds.0)) = ap (λ (l : List Entry). length (records_bytes l)) holds.1.joins in
    omega (arith, keeps_end (bodies_of header holds.0) disk end holds.3, pieces_end header.version holds.0 holds.1.are, small_mark header.version, ap length holds.1.joins, records)
