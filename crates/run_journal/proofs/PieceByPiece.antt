-- The pieces of a journal, read one by one. The loop of `read_pieces` (src/reading.rt) rests on it.
use Rattle.std.proofs.Common.{◌≡◌, ℕ, ◌+◌, ◌<◌, List, [], ◌∷◌, ◌++◌, length, take, drop, map, get_or, sym, ◌∙◌, ap, subst, arith, append_assoc, take-append-drop}
use Rattle.std.proofs.lemmas.List.{append-nil, take_more, map-append}
use Rattle.gate_file.specs.Chain.{ends_at}
use Rattle.run_records.specs.declared.header.Header.{Header}
use Rattle.run_records.specs.declared.version.Version.{Version}
use Rattle.run_records.specs.Entries.{Entry}
use Rattle.run_records.specs.Headers.{header_bytes, IsShort}
use Rattle.run_journal.specs.declared.fault.JournalFault.{JournalFault}
use Rattle.run_journal.specs.declared.fault.JournalFault.TheVariants.{DiskFault, NoRun, Cut, BadRecord as Bad, NoMemory}
use Rattle.run_journal.specs.Bad.{IsBadPiece, broken}
use Rattle.run_journal.specs.Batches.{Piece, piece_bytes, bodies_of, records_in, IsPiece, version_after, version_behind, ArePieces}
use Rattle.run_journal.specs.Places.{record_places, places}
use Rattle.run_journal.specs.Reading.{IsPieceRead, AreRead, RefusesBody, RefusesBodies}
use Rattle.run_journal.proofs.Batches.{pieces_push, behind_push, joined_push}

-- bodies end after those of their first part, and then those of their second
ends_append : (before after : List (List ℕ)) → ends_at (before ++ after) ≡ ends_at before + ends_at after
ends_append [] after = omega arith
ends_append (body ∷ before) after = omega (arith, ends_append before after)

-- one piece more begins where those before it end
places_piece : (gate : ℕ) (pieces : List Piece) (piece : Piece) (at : ℕ) → at ≡ gate + ends_at (map piece_bytes pieces) + 5 → places gate (pieces ++ piece ∷ []) ≡ places gate pieces ++ record_places (at + 1) (records_in piece)
places_piece gate [] piece at here =
    append-nil (record_places (gate + 6) (records_in piece)) ∙ ap (λ (n : ℕ). record_places n (records_in piece)) (let same : gate + 6 ≡ at + 1 = omega (arith, here) in same)
places_piece gate (first ∷ pieces) piece at here =
    let next : ℕ = gate + 5 + length (piece_bytes first) in
    let later : at ≡ next + ends_at (map piece_bytes pieces) + 5 = omega (arith, here) in
    ap (λ (l : List ℕ). record_places (gate + 6) (records_in first) ++ l) (places_piece next pieces piece at later)
    ∙ sym (append_assoc (record_places (gate + 6) (records_in first)) (places next pieces) (record_places (at + 1) (records_in piece)))

-- the pieces up to an index are read, and this body comes next
module _ (version now : Version) (bodies : List (List ℕ)) (index : ℕ) (entries : List Entry) (offsets : List ℕ) (read : AreRead version now bodies index entries offsets) (within : index < length bodies) (body : List ℕ) (is : body ≡ get_or bodies index [])
    (at : ℕ) (here : at ≡ ends_at (take index bodies) + 5) where
  -- the bodies up to the next index are those before and this one
  step : take (index + 1) bodies ≡ take index bodies ++ body ∷ []
  step = take_more bodies index [] within ∙ ap (λ (b : List ℕ). take index bodies ++ b ∷ []) (sym is)

  -- once this body is read as a piece, all up to the next index are read
  pub more_are_read : (behind : Version) (entries_more : List Entry) (offsets_more : List ℕ) → IsPieceRead now behind at body entries entries_more offsets offsets_more → AreRead version behind bodies (index + 1) entries_more offsets_more
  more_are_read behind entries_more offsets_more more =
      let gate : ℕ = ends_at (take 1 bodies) in
      let stands : at ≡ gate + ends_at (map piece_bytes read.pieces) + 5 = omega (arith, here, ap ends_at read.bodies_are, ends_append (take 1 bodies) (map piece_bytes read.pieces)) in
      record {
        pieces = read.pieces ++ more.piece ∷ [];
        are = pieces_push version read.pieces more.piece read.are (subst (λ v. IsPiece v more.piece) (sym read.version_is) more.is);
        version_is = behind_push version read.pieces more.piece ∙ ap (λ v. version_after v more.piece) read.version_is ∙ more.version_is;
        bodies_are =
            step ∙ ap (λ (l : List (List ℕ)). l ++ body ∷ []) read.bodies_are ∙ ap (λ (b : List ℕ). (take 1 bodies ++ map piece_bytes read.pieces) ++ b ∷ []) more.body_is
            ∙ append_assoc (take 1 bodies) (map piece_bytes read.pieces) (piece_bytes more.piece ∷ [])
            ∙ ap (λ (l : List (List ℕ)). take 1 bodies ++ l) (sym (map-append piece_bytes read.pieces (more.piece ∷ [])));
        entries_are = more.entries ∙ ap (λ (l : List Entry). l ++ records_in more.piece) read.entries_are ∙ sym (joined_push read.pieces more.piece);
        offsets_are = more.offsets ∙ ap (λ (l : List ℕ). l ++ record_places (at + 1) (records_in more.piece)) read.offsets_are ∙ sym (places_piece gate read.pieces more.piece at stands);
      }

  -- the first body is this header
  module _ (header : Header) (short : IsShort header) (same : header.version ≡ version) (first : take 1 bodies ≡ header_bytes header ∷ []) where
    -- the bodies before are those of the header and the pieces that are read
    before : take index bodies ≡ bodies_of header read.pieces
    before = read.bodies_are ∙ ap (λ (l : List (List ℕ)). l ++ map piece_bytes read.pieces) first

    -- all bodies are those, this one and the others after it
    split : bodies ≡ bodies_of header read.pieces ++ body ∷ drop (index + 1) bodies
    split = sym (take-append-drop (index + 1) bodies) ∙ ap (λ (l : List (List ℕ)). l ++ drop (index + 1) bodies) (step ∙ ap (λ (l : List (List ℕ)). l ++ body ∷ []) before) ∙ append_assoc (bodies_of header read.pieces) (body ∷ []) (drop (index + 1) bodies)

    -- the pieces before may stand where they stand
    are : ArePieces header.version read.pieces
    are = subst (λ v. ArePieces v read.pieces) (sym same) read.are

    -- the version by now is that after these pieces
    version_is : now ≡ version_behind header.version read.pieces
    version_is = sym read.version_is ∙ ap (λ v. version_behind v read.pieces) (sym same)

    -- if this body is refused, so are the bodies, for the same cause at its offset
    pub not_read : (fault : JournalFault) → RefusesBody now at body fault → RefusesBodies bodies fault
    not_read (Bad offset cause) (place, stands, bad) =
        let there : ends_at (bodies_of header read.pieces) + 5 + place ≡ offset = omega (arith, stands, here, ap ends_at before) in
        let worse = subst (λ v. IsBadPiece v body place cause) version_is bad in
        subst (λ (n : ℕ). RefusesBodies bodies (Bad n cause)) there (broken header read.pieces body (drop (index + 1) bodies) place cause short are split worse)
    not_read NoMemory refused = tt
    not_read DiskFault refused = absurd refused
    not_read NoRun refused = absurd refused
    not_read (Cut at) refused = absurd refused
