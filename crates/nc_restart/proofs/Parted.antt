-- Lists that are parted at a place, of records and of pieces. For OneRun.antt of this crate, which
-- compares two places of one journal.
use Rattle.std.proofs.Common.{◌≡◌, ◌<◌, List, [], ◌∷◌, ◌++◌, length, map, drop, get_or, refl, sym, ap, arith}
use Rattle.run_records.specs.declared.version.Version.{Version}
use Rattle.run_records.specs.declared.version.Version.TheVariants.{Two}
use Rattle.run_journal.specs.Batches.{Piece, a_batch, the_mark, batch_bytes, raising_mark, piece_bytes, records_of, ArePieces}

-- equal lists have the same first
pub first_alike : {X : Type 0} (x y : X) (xs ys : List X) → x ∷ xs ≡ y ∷ ys → x ≡ y
first_alike x y xs ys same = ap (λ l. get_or l 0 x) same

-- of a list that is parted at two places, the later front is the earlier front, its element, and
-- what lies between
pub parted_before : {X : Type 0} (before other after rest : List X) (x y : X) → before ++ x ∷ after ≡ other ++ y ∷ rest
    → length before < length other → (between : List X) × (other ≡ before ++ x ∷ between)
parted_before before [] after rest x y same less = absurd (omega (arith, less))
parted_before [] (z ∷ other) after rest x y same less =
    (other, ap (λ w. w ∷ other) (sym (first_alike x z after (other ++ y ∷ rest) same)))
parted_before (w ∷ before) (z ∷ other) after rest x y same less =
    let later = parted_before before other after rest x y (ap (drop 1) same) (omega (arith, less)) in
    (later.0, λ i. sym (first_alike w z (before ++ x ∷ after) (other ++ y ∷ rest) same) i ∷ later.1 i)

-- a list that is parted twice at the same place has the same parts
pub parted_alike : {X : Type 0} (before other after rest : List X) → before ++ after ≡ other ++ rest → length before ≡ length other
    → (before ≡ other) × (after ≡ rest)
parted_alike [] [] after rest same size = (refl, same)
parted_alike [] (z ∷ other) after rest same size = absurd (omega (arith, size))
parted_alike (w ∷ before) [] after rest same size = absurd (omega (arith, size))
parted_alike (w ∷ before) (z ∷ other) after rest same size =
    let later = parted_alike before other after rest (ap (drop 1) same) (omega (arith, size)) in
    ((λ i. first_alike w z (before ++ after) (other ++ rest) same i ∷ later.0 i), later.1)

-- pieces of two journals with the same bytes and the same records are the same: the raising mark
-- begins with 255, which no batch counts
pub pieces_alike : (version other : Version) (pieces others : List Piece) → ArePieces version pieces → ArePieces other others
    → map piece_bytes pieces ≡ map piece_bytes others → records_of pieces ≡ records_of others → pieces ≡ others
pieces_alike version other [] [] are also bytes records = refl
pieces_alike version other [] (q ∷ others) are also bytes records = absurd (omega (arith, ap length bytes))
pieces_alike version other (p ∷ pieces) [] are also bytes records = absurd (omega (arith, ap length bytes))
pieces_alike version other (a_batch batch ∷ pieces) (a_batch more ∷ others) are also bytes records =
    let head : batch_bytes batch ≡ batch_bytes more = first_alike (batch_bytes batch) (batch_bytes more) (map piece_bytes pieces) (map piece_bytes others) bytes in
    let count : length batch ≡ length more = ap (λ l. get_or l 0 0) head in
    let parts = parted_alike batch more (records_of pieces) (records_of others) records count in
    let later = pieces_alike version other pieces others are.1 also.1 (ap (drop 1) bytes) parts.1 in
    λ i. a_batch (parts.0 i) ∷ later i
pieces_alike version other (a_batch batch ∷ pieces) (the_mark ∷ others) are also bytes records =
    let head : batch_bytes batch ≡ raising_mark = first_alike (batch_bytes batch) raising_mark (map piece_bytes pieces) (map piece_bytes others) bytes in
    let count : length batch ≡ 255 = ap (λ l. get_or l 0 0) head in
    absurd (omega (arith, count, are.0.few))
pieces_alike version other (the_mark ∷ pieces) (a_batch more ∷ others) are also bytes records =
    let head : raising_mark ≡ batch_bytes more = first_alike raising_mark (batch_bytes more) (map piece_bytes pieces) (map piece_bytes others) bytes in
    let count : 255 ≡ length more = ap (λ l. get_or l 0 0) head in
    absurd (omega (arith, count, also.0.few))
pieces_alike version other (the_mark ∷ pieces) (the_mark ∷ others) are also bytes records =
    ap (λ l. the_mark ∷ l) (pieces_alike Two Two pieces others are.1 also.1 (ap (drop 1) bytes) records)
