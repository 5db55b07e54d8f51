-- One record more in a batch, and one piece more in a journal: what the records, the bodies and the
-- disk are then. `put` (src/batch.rt), `flush` and `raise` (src/journal.rt) rest on it, and so do
-- the proofs of reading and filling.
use Rattle.std.proofs.Common.{◌≡◌, inl, inr, ℕ, ◌+◌, ◌≤◌, List, [], ◌∷◌, ◌++◌, length, drop, slice_index, refl, sym, ◌∙◌, ap, subst, arith, length-append}
use Rattle.std.proofs.lemmas.List.{append-nil, map-append}
use Rattle.std.proofs.lemmas.List.Concat.{flat_map-append}
use Rattle.disk_model.specs.Device.{DiskState}
use Rattle.disk_model.specs.Moments.{LeavesOnly}
use Rattle.disk_model.proofs.Runs.{widened}
use Rattle.gate_file.specs.Chain.{Opens, IsBeforeOrAfter}
use Rattle.gate_file.specs.Gate.{Keeps}
use Rattle.run_records.specs.declared.header.Header.{Header}
use Rattle.run_records.specs.declared.version.Version.{Version}
use Rattle.run_records.specs.declared.version.Version.TheVariants.{One, Two}
use Rattle.run_records.specs.Entries.{Entry}
use Rattle.run_records.specs.Spelling.{entry_bytes, IsEntry}
use Rattle.run_journal.specs.Batches.{records_bytes, Piece, the_mark, piece_bytes, raising_mark, bodies_of, records_in, records_of, MayStand, AreEntries, IsBatch, IsPiece, version_after, version_behind, ArePieces, IsRun}
use Rattle.run_journal.specs.Kept.{HasBatch, pending_in}
use Rattle.run_journal.specs.Stands.{Pends, Stands, Holds, StandsEither}

-- records with one more that may stand there are records of the journal
pub are_push : (version : Version) (entries : List Entry) (e : Entry) → AreEntries version entries → IsEntry e → MayStand version e → AreEntries version (entries ++ e ∷ [])
are_push version [] e are is may = ((is, may), tt)
are_push version (x ∷ entries) e are is may = (are.0, are_push version entries e are.1 is may)

-- the bytes of records with one more are their bytes and its
pub records_push : (entries : List Entry) (e : Entry) → records_bytes (entries ++ e ∷ []) ≡ records_bytes entries ++ entry_bytes e
records_push entries e = flat_map-append entry_bytes entries (e ∷ []) ∙ ap (λ (l : List ℕ). records_bytes entries ++ l) (append-nil (entry_bytes e))

-- a record is put after those of a body
pub pends_push : (version : Version) (pending : List Entry) (e : Entry) (batch more : List ℕ) → Pends version pending batch → IsEntry e → MayStand version e → more ≡ (pending_in batch + 1) ∷ (drop 1 batch ++ entry_bytes e)
    → Pends version (pending ++ e ∷ []) more
pends_push version pending e batch more pends is may put = record {
  bytes =
      let count : pending_in batch + 1 ≡ length (pending ++ e ∷ []) = omega (arith, ap (λ (l : List ℕ). slice_index l 0) pends.bytes, length-append pending (e ∷ [])) in
      put ∙ ap (λ (n : ℕ). n ∷ (drop 1 batch ++ entry_bytes e)) count
      ∙ ap (λ (l : List ℕ). length (pending ++ e ∷ []) ∷ (drop 1 l ++ entry_bytes e)) pends.bytes
      ∙ ap (λ (l : List ℕ). length (pending ++ e ∷ []) ∷ l) (sym (records_push pending e));
  are = are_push version pending e pends.are is may;
}

-- a batch that counts no record is its count alone
pub none_pending : (batch : List ℕ) → HasBatch batch → pending_in batch ≡ 0 → batch ≡ 0 ∷ []
none_pending [] has none = absurd (omega (arith, has.some))
none_pending (count ∷ []) has none = ap (λ (n : ℕ). n ∷ []) none
none_pending (count ∷ first ∷ records) has none = absurd (omega (arith, has.short, none))

-- pieces with one more that may stand there are pieces of the journal
pub pieces_push : (version : Version) (pieces : List Piece) (piece : Piece) → ArePieces version pieces → IsPiece (version_behind version pieces) piece → ArePieces version (pieces ++ piece ∷ [])
pieces_push version [] piece are is = (is, tt)
pieces_push version (x ∷ pieces) piece are is = (are.0, pieces_push (version_after version x) pieces piece are.1 is)

-- the version after the pieces with one more is that after it
pub behind_push : (version : Version) (pieces : List Piece) (piece : Piece) → version_behind version (pieces ++ piece ∷ []) ≡ version_after (version_behind version pieces) piece
behind_push version [] piece = refl
behind_push version (x ∷ pieces) piece = behind_push (version_after version x) pieces piece

-- the records of pieces with one more are theirs and its
pub joined_push : (pieces : List Piece) (piece : Piece) → records_of (pieces ++ piece ∷ []) ≡ records_of pieces ++ records_in piece
joined_push pieces piece = flat_map-append records_in pieces (piece ∷ []) ∙ ap (λ (l : List Entry). records_of pieces ++ l) (append-nil (records_in piece))

-- the bodies of pieces with one more are theirs and its
pub bodies_push : (header : Header) (pieces : List Piece) (piece : Piece) → bodies_of header (pieces ++ piece ∷ []) ≡ bodies_of header pieces ++ piece_bytes piece ∷ []
bodies_push header pieces piece = ap (λ (l : List (List ℕ)). bodies_of header [] ++ l) (map-append piece_bytes pieces (piece ∷ []))

-- a piece that is written after those that the disk holds
module _ (header : Header) (version : Version) (entries : List Entry) (old new : DiskState) (end : ℕ) (holds : Holds header version entries old end) (piece : Piece) (is : IsPiece version piece) (body : List ℕ) (same : body ≡ piece_bytes piece) where
  -- the pieces with this one are a run of the records with its own
  run : IsRun header (holds.0 ++ piece ∷ []) (entries ++ records_in piece)
  run = record {
    short = holds.1.short;
    are = pieces_push header.version holds.0 piece holds.1.are (subst (λ v. IsPiece v piece) (sym holds.2) is);
    joins = ap (λ (l : List Entry). l ++ records_in piece) holds.1.joins ∙ sym (joined_push holds.0 piece);
  }

  -- the journal has the version after this piece
  behind : version_behind header.version (holds.0 ++ piece ∷ []) ≡ version_after version piece
  behind = behind_push header.version holds.0 piece ∙ ap (λ v. version_after v piece) holds.2

  -- the bodies are those before and this one
  bodies : bodies_of header (holds.0 ++ piece ∷ []) ≡ bodies_of header holds.0 ++ body ∷ []
  bodies = bodies_push header holds.0 piece ∙ ap (λ (b : List ℕ). bodies_of header holds.0 ++ b ∷ []) (sym same)

  -- if the disk keeps the bodies with this one, it holds the records with its own
  pub kept : (now : ℕ) → ((bodies : List (List ℕ)) → Keeps bodies old end → Keeps (bodies ++ body ∷ []) new now) → Holds header (version_after version piece) (entries ++ records_in piece) new now
  kept now step = (_, run, behind, subst (λ (l : List (List ℕ)). Keeps l new now) (sym bodies) (step (bodies_of header holds.0) holds.3))

  -- an image of the bodies before, or of those with this one, stands for the records before or
  -- after
  stands : (c : List ℕ) → IsBeforeOrAfter (bodies_of header holds.0) (body ∷ []) c → StandsEither header entries (records_in piece) c
  stands c (inl before) = inl (holds.0, holds.1, before)
  stands c (inr after) = inr (_, run, (after.0, subst (λ (l : List (List ℕ)). Opens l c after.0) (sym bodies) after.1, after.2))

  -- a crash at any moment leaves the records before, or those with the piece's own
  pub moments : ((bodies : List (List ℕ)) → Keeps bodies old end → LeavesOnly (IsBeforeOrAfter bodies (body ∷ [])) old new) → LeavesOnly (StandsEither header entries (records_in piece)) old new
  moments step = widened (IsBeforeOrAfter (bodies_of header holds.0) (body ∷ [])) (StandsEither header entries (records_in piece)) old new (step (bodies_of header holds.0) holds.3) stands

-- the records that are to be written are a batch
pub is_batch : (version : Version) (pending : List Entry) (batch : List ℕ) → Pends version pending batch → pending_in batch ≤ 64 → 1 ≤ pending_in batch → IsBatch version pending
is_batch version pending batch pends few some =
    let count = ap (λ (l : List ℕ). slice_index l 0) pends.bytes in
    record { some = omega (arith, count, some); few = omega (arith, count, few); are = pends.are }

-- the mark that raises a journal is written after the pieces that the disk holds: the disk then
-- holds the same records
module _ (header : Header) (entries : List Entry) (old new : DiskState) (end : ℕ) (holds : Holds header One entries old end) where
  -- once the mark is kept, the disk holds the same records in a journal of version 2
  pub raised : (now : ℕ) → ((bodies : List (List ℕ)) → Keeps bodies old end → Keeps (bodies ++ raising_mark ∷ []) new now) → Holds header Two entries new now
  raised now step = subst (λ (l : List Entry). Holds header Two l new now) (append-nil entries) (kept header One entries old new end holds the_mark refl raising_mark refl now step)

  -- the records before, or those with none more, are the records before
  still : (c : List ℕ) → StandsEither header entries [] c → Stands header entries c
  still c (inl before) = before
  still c (inr after) = subst (λ (l : List Entry). Stands header l c) (append-nil entries) after

  -- a crash at any moment while the mark is written leaves the same records
  pub raising : ((bodies : List (List ℕ)) → Keeps bodies old end → LeavesOnly (IsBeforeOrAfter bodies (raising_mark ∷ [])) old new) → LeavesOnly (Stands header entries) old new
  raising step = widened (StandsEither header entries []) (Stands header entries) old new (moments header One entries old new end holds the_mark refl raising_mark refl step) still
