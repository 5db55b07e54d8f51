-- An image of a journal stands for one thing: it can't be read as two runs, as bad for two causes,
-- or as both. The law `a_journal_stands_for_one_thing` (src/laws.rt) rests on it.
use Rattle.std.proofs.Common.{◌≡◌, ◌⊎◌, inl, inr, ℕ, ◌+◌, ◌<◌, List, [], ◌∷◌, ◌++◌, length, drop, map, get_or, refl, sym, ◌∙◌, ap, subst, arith, append_assoc, Option, Some, None, false, not}
use Rattle.std.specs.Prelude.{if◌then◌else◌}
use Rattle.std.proofs.lemmas.Bool.{ne_eqb}
use Rattle.std.proofs.lemmas.List.{append-nil}
use Rattle.nc_number.proofs.Bools.{and_false}
use Rattle.gate_file.specs.Chain.{IsNoRun, ends_at}
use Rattle.gate_file.proofs.Unique.{one_list, none_spelled, one_cut, spelled_uncut, none_uncut}
use Rattle.run_records.specs.declared.bad_record.BadRecord.{BadRecord}
use Rattle.run_records.specs.declared.bad_record.BadRecord.TheVariants.{NoKind}
use Rattle.run_records.specs.declared.header.Header.{Header}
use Rattle.run_records.specs.declared.version.Version.{Version}
use Rattle.run_records.specs.declared.version.Version.TheVariants.{One, Two}
use Rattle.run_records.specs.Causes.{has_bad_path, is_edit, cause_of}
use Rattle.run_records.specs.Entries.{Entry}
use Rattle.run_records.specs.Headers.{header_bytes}
use Rattle.run_records.specs.Spelling.{kind_number, entry_bytes, IsEntry}
use Rattle.run_records.proofs.OneSpelling.{one_entry, no_cause, step_number}
use Rattle.run_records.proofs.Texts.{one_header}
use Rattle.run_journal.specs.Bad.{is_early_edit, cause_for, Begins, IsBadBatch, empty, uncounted, unread, late, IsBadPiece, IsBadRun, unheaded, broken, IsBadAt}
use Rattle.run_journal.specs.Batches.{records_bytes, batch_bytes, Piece, a_batch, the_mark, piece_bytes, bodies_of, records_of, MayStand, AreEntries, IsBatch, IsPiece, version_after, version_behind, ArePieces, IsRun}
use Rattle.run_journal.specs.Meaning.{Meaning, no_run, cut_at, bad_at, a_run, StandsFor}
use Rattle.run_journal.specs.Stands.{Stands}

-- the bytes that begin with a record, and then with others
behind_first : (e : Entry) (entries : List Entry) (rest : List ℕ) → records_bytes (e ∷ entries) ++ rest ≡ entry_bytes e ++ (records_bytes entries ++ rest)
behind_first e entries rest = append_assoc (entry_bytes e) (records_bytes entries) rest

-- bytes that begin with a record begin with no other
one_first : (e f : Entry) (entries others : List Entry) (rest more : List ℕ) → IsEntry e → IsEntry f → records_bytes (e ∷ entries) ++ rest ≡ records_bytes (f ∷ others) ++ more → (e ≡ f) × (records_bytes entries ++ rest ≡ records_bytes others ++ more)
one_first e f entries others rest more is also same =
    one_entry e f (records_bytes entries ++ rest) (records_bytes others ++ more) is also (sym (behind_first e entries rest) ∙ same ∙ behind_first f others more)

-- a record that may stand in a journal of this version is one, whatever follows it
no_cause_for : (version : Version) (e : Entry) (rest : List ℕ) → IsEntry e → MayStand version e → cause_for version (entry_bytes e ++ rest) ≡ None
no_cause_for Two e rest is may = no_cause e rest is
no_cause_for One e rest is may =
    let bytes = entry_bytes e ++ rest in
    let number = step_number e.kind (may refl) in
    let step : is_edit bytes ≡ false = ne_eqb (kind_number e.kind) 6 (λ six. omega arith) in
    let early : is_early_edit One bytes ≡ false = and_false (not (has_bad_path bytes)) (is_edit bytes) step in
    ap (λ t. if t then Some NoKind else cause_of bytes) early ∙ no_cause e rest is

-- what the records and the batches of a journal of one version are read as
module _ (version : Version) where
  -- so many records are read in one way
  one_records : (entries others : List Entry) (rest more : List ℕ) → AreEntries version entries → AreEntries version others → length entries ≡ length others → records_bytes entries ++ rest ≡ records_bytes others ++ more → (entries ≡ others) × (rest ≡ more)
  one_records [] [] rest more are also size same = (refl, same)
  one_records [] (f ∷ others) rest more are also size same = absurd (omega (arith, size))
  one_records (e ∷ entries) [] rest more are also size same = absurd (omega (arith, size))
  one_records (e ∷ entries) (f ∷ others) rest more are also size same =
      let first = one_first e f entries others rest more are.0.0 also.0.0 same in
      let later = one_records entries others rest more are.1 also.1 (omega (arith, size)) first.1 in
      ((λ i. first.0 i ∷ later.0 i), later.1)

  -- after fewer of the records that are there stands one more
  more_behind : (entries others : List Entry) (rest more : List ℕ) → AreEntries version entries → AreEntries version others → length entries < length others → records_bytes entries ++ rest ≡ records_bytes others ++ more → cause_for version rest ≡ None
  more_behind entries [] rest more are also fewer same = absurd (omega (arith, fewer))
  more_behind [] (f ∷ others) rest more are also fewer same = ap (cause_for version) (same ∙ behind_first f others more) ∙ no_cause_for version f (records_bytes others ++ more) also.0.0 also.0.1
  more_behind (e ∷ entries) (f ∷ others) rest more are also fewer same =
      more_behind entries others rest more are.1 also.1 (omega (arith, fewer)) (one_first e f entries others rest more are.0.0 also.0.0 same).1

  -- what has a cause is not without one
  some_none : (cause : BadRecord) (found : Option BadRecord) → found ≡ Some cause → found ≡ None → ⊥
  some_none cause found some none = let clash : Some cause ≡ None = sym some ∙ none in absurd (cc)

  -- the records up to the first place where there is none
  one_end : (entries others : List Entry) (rest more : List ℕ) (cause other : BadRecord) → AreEntries version entries → AreEntries version others → cause_for version rest ≡ Some cause → cause_for version more ≡ Some other → records_bytes entries ++ rest ≡ records_bytes others ++ more
      → (entries ≡ others) × (rest ≡ more)
  one_end [] [] rest more cause other are also bad worse same = (refl, same)
  one_end [] (f ∷ others) rest more cause other are also bad worse same = absurd (some_none cause (cause_for version rest) bad (more_behind [] (f ∷ others) rest more are also (omega arith) same))
  one_end (e ∷ entries) [] rest more cause other are also bad worse same = absurd (some_none other (cause_for version more) worse (more_behind [] (e ∷ entries) more rest also are (omega arith) (sym same)))
  one_end (e ∷ entries) (f ∷ others) rest more cause other are also bad worse same =
      let first = one_first e f entries others rest more are.0.0 also.0.0 same in
      let later = one_end entries others rest more cause other are.1 also.1 bad worse first.1 in
      ((λ i. first.0 i ∷ later.0 i), later.1)

  -- bodies that begin with a count
  module _ (count other : ℕ) (whole others : List Entry) (rest more body : List ℕ) (is : Begins version count whole rest body) (also : Begins version other others more body) where
    -- they begin with one count
    same_count : count ≡ other
    same_count = ap (λ (l : List ℕ). get_or l 0 0) (sym is.bytes ∙ also.bytes)

    -- the same bytes follow the count
    same_records : records_bytes whole ++ rest ≡ records_bytes others ++ more
    same_records = ap (drop 1) (sym is.bytes ∙ also.bytes)

  -- a body that counts no record or more than 64 is not one of a count from 1 to 64
  counted_apart : (count other : ℕ) (whole : List Entry) (records rest body : List ℕ) → body ≡ count ∷ records → (count ≡ 0) ⊎ (64 < count) → Begins version other whole rest body → ⊥
  counted_apart count other whole records rest body is (inl none) begins = omega (arith, none, begins.some, ap (λ (l : List ℕ). get_or l 0 0) (sym is ∙ begins.bytes))
  counted_apart count other whole records rest body is (inr many) begins = omega (arith, many, begins.few, ap (λ (l : List ℕ). get_or l 0 0) (sym is ∙ begins.bytes))

  -- an empty body has no count
  empty_apart : (count : ℕ) (records body : List ℕ) → body ≡ [] → body ≡ count ∷ records → ⊥
  empty_apart count records body none some = omega (arith, ap length (sym none ∙ some))

  -- a body in which a record is missing is not one with bytes after its last record
  unread_late : (count : ℕ) (whole others : List Entry) (rest more body : List ℕ) (cause : BadRecord) → Begins version count whole rest body → length whole < count → cause_for version rest ≡ Some cause → Begins version (length others) others more body → ⊥
  unread_late count whole others rest more body cause is fewer bad also =
      let size = same_count count (length others) whole others rest more body is also in
      some_none cause (cause_for version rest) bad (more_behind whole others rest more is.are also.are (omega (arith, fewer, size)) (same_records count (length others) whole others rest more body is also))

  -- a body is bad in one way
  one_bad : (body : List ℕ) (place place' : ℕ) (cause cause' : BadRecord) → IsBadBatch version body place cause → IsBadBatch version body place' cause' → (place ≡ place') × (cause ≡ cause')
  one_bad body _ _ _ _ (empty none) (empty none') = (refl, refl)
  one_bad body _ _ _ _ (empty none) (uncounted count rest is wrong) = (refl, refl)
  one_bad body _ _ _ _ (empty none) (unread count whole rest cause is fewer bad) = absurd (empty_apart count _ body none is.bytes)
  one_bad body _ _ _ _ (empty none) (late whole rest is left) = absurd (empty_apart (length whole) _ body none is.bytes)
  one_bad body _ _ _ _ (uncounted count rest is wrong) (empty none) = (refl, refl)
  one_bad body _ _ _ _ (uncounted count rest is wrong) (uncounted count' rest' is' wrong') = (refl, refl)
  one_bad body _ _ _ _ (uncounted count records is wrong) (unread other whole rest cause begins fewer bad) = absurd (counted_apart count other whole records rest body is wrong begins)
  one_bad body _ _ _ _ (uncounted count records is wrong) (late whole rest begins left) = absurd (counted_apart count (length whole) whole records rest body is wrong begins)
  one_bad body _ _ _ _ (unread count whole rest cause is fewer bad) (empty none) = absurd (empty_apart count _ body none is.bytes)
  one_bad body _ _ _ _ (unread other whole rest cause begins fewer bad) (uncounted count records is wrong) = absurd (counted_apart count other whole records rest body is wrong begins)
  one_bad body _ _ _ _ (unread count whole rest cause is fewer bad) (unread count' others more cause' also fewer' bad') =
      let same = one_end whole others rest more cause cause' is.are also.are bad bad' (same_records count count' whole others rest more body is also) in
      let causes : Some cause ≡ Some cause' = sym bad ∙ ap (cause_for version) same.1 ∙ bad' in
      (ap (λ (l : List Entry). 1 + length (records_bytes l)) same.0, cc)
  one_bad body _ _ _ _ (unread count whole rest cause is fewer bad) (late others more also left) = absurd (unread_late count whole others rest more body cause is fewer bad also)
  one_bad body _ _ _ _ (late whole rest is left) (empty none) = absurd (empty_apart (length whole) _ body none is.bytes)
  one_bad body _ _ _ _ (late whole rest begins left) (uncounted count records is wrong) = absurd (counted_apart count (length whole) whole records rest body is wrong begins)
  one_bad body _ _ _ _ (late others more also left) (unread count whole rest cause is fewer bad) = absurd (unread_late count whole others rest more body cause is fewer bad also)
  one_bad body _ _ _ _ (late whole rest is left) (late others more also left') = (refl, refl)

  -- a batch's body is its count and its records, with nothing after them
  batch_begins : (batch : List Entry) → IsBatch version batch → Begins version (length batch) batch [] (batch_bytes batch)
  batch_begins batch is = record { some = is.some; few = is.few; are = is.are; bytes = ap (λ (l : List ℕ). length batch ∷ l) (sym (append-nil (records_bytes batch))) }

  -- a batch is not bad
  never_bad : (batch : List Entry) (place : ℕ) (cause : BadRecord) → IsBatch version batch → IsBadBatch version (batch_bytes batch) place cause → ⊥
  never_bad batch _ _ is (empty none) = empty_apart (length batch) _ (batch_bytes batch) none refl
  never_bad batch _ _ is (uncounted count records counted wrong) = counted_apart count (length batch) batch records [] (batch_bytes batch) counted wrong (batch_begins batch is)
  never_bad batch _ _ is (unread count whole rest cause begins fewer bad) = unread_late count whole batch rest [] (batch_bytes batch) cause begins fewer bad (batch_begins batch is)
  never_bad batch _ _ is (late whole rest begins left) =
      let size = same_count (length whole) (length batch) whole batch rest [] (batch_bytes batch) begins (batch_begins batch is) in
      left (one_records whole batch rest [] begins.are is.are size (same_records (length whole) (length batch) whole batch rest [] (batch_bytes batch) begins (batch_begins batch is))).1

  -- a body is that of one batch
  one_batch : (batch other : List Entry) → IsBatch version batch → IsBatch version other → batch_bytes batch ≡ batch_bytes other → batch ≡ other
  one_batch batch other is also same =
      let size : length batch ≡ length other = ap (λ (l : List ℕ). get_or l 0 0) same in
      (one_records batch other [] [] is.are also.are size (append-nil (records_bytes batch) ∙ ap (drop 1) same ∙ sym (append-nil (records_bytes other)))).0

-- a piece is read in one way: a batch counts 64 records at most, and the raising mark begins with
-- 255
one_piece : (version : Version) (piece other : Piece) → IsPiece version piece → IsPiece version other → piece_bytes piece ≡ piece_bytes other → piece ≡ other
one_piece version (a_batch batch) (a_batch other) is also same = ap a_batch (one_batch version batch other is also same)
one_piece version the_mark the_mark is also same = refl
one_piece version (a_batch batch) the_mark is also same = absurd (omega (arith, is.few, ap (λ (l : List ℕ). get_or l 0 0) same))
one_piece version the_mark (a_batch other) is also same = absurd (omega (arith, also.few, ap (λ (l : List ℕ). get_or l 0 0) same))

-- a piece is not bad
piece_not_bad : (version : Version) (piece : Piece) (body : List ℕ) (place : ℕ) (cause : BadRecord) → IsPiece version piece → body ≡ piece_bytes piece → IsBadPiece version body place cause → ⊥
piece_not_bad version (a_batch batch) body place cause is same bad = never_bad version batch place cause is (subst (λ (b : List ℕ). IsBadBatch version b place cause) same bad.batch)
piece_not_bad version the_mark body place cause is same bad = bad.unmarked is same

-- bodies are pieces in one way
one_pieces : (version : Version) (pieces others : List Piece) → ArePieces version pieces → ArePieces version others → map piece_bytes pieces ≡ map piece_bytes others → pieces ≡ others
one_pieces version [] [] are also same = refl
one_pieces version [] (other ∷ others) are also same = absurd (omega (arith, ap length same))
one_pieces version (piece ∷ pieces) [] are also same = absurd (omega (arith, ap length same))
one_pieces version (piece ∷ pieces) (other ∷ others) are also same =
    let first = one_piece version piece other are.0 also.0 (ap (λ (l : List (List ℕ)). get_or l 0 []) same) in
    let alike = subst (λ p. ArePieces (version_after version p) others) (sym first) also.1 in
    let later = one_pieces (version_after version piece) pieces others are.1 alike (ap (drop 1) same) in
    λ i. first i ∷ later i

-- pieces are no pieces up to one that is none
never_ends : (version : Version) (pieces before : List Piece) (body : List ℕ) (after : List (List ℕ)) (place : ℕ) (cause : BadRecord) → ArePieces version pieces → ArePieces version before → map piece_bytes pieces ≡ map piece_bytes before ++ body ∷ after
    → IsBadPiece (version_behind version before) body place cause → ⊥
never_ends version [] [] body after place cause are also same bad = absurd (omega (arith, ap length same))
never_ends version [] (other ∷ before) body after place cause are also same bad = absurd (omega (arith, ap length same))
never_ends version (piece ∷ pieces) [] body after place cause are also same bad =
    piece_not_bad version piece body place cause are.0 (sym (ap (λ (l : List (List ℕ)). get_or l 0 []) same)) bad
never_ends version (piece ∷ pieces) (other ∷ before) body after place cause are also same bad =
    let first = one_piece version other piece also.0 are.0 (sym (ap (λ (l : List (List ℕ)). get_or l 0 []) same)) in
    let alike = subst (λ p. ArePieces (version_after version p) pieces) (sym first) are.1 in
    never_ends (version_after version other) pieces before body after place cause alike also.1 (ap (drop 1) same) bad

-- the first body that is no piece is one
one_first_bad : (version : Version) (before others : List Piece) (body other : List ℕ) (after later : List (List ℕ)) (place place' : ℕ) (cause cause' : BadRecord) → ArePieces version before → ArePieces version others
    → map piece_bytes before ++ body ∷ after ≡ map piece_bytes others ++ other ∷ later → IsBadPiece (version_behind version before) body place cause → IsBadPiece (version_behind version others) other place' cause'
    → (ends_at (map piece_bytes before) + place ≡ ends_at (map piece_bytes others) + place') × (cause ≡ cause')
one_first_bad version [] [] body other after later place place' cause cause' are also same bad worse =
    let first : other ≡ body = sym (ap (λ (l : List (List ℕ)). get_or l 0 []) same) in
    let both = one_bad version body place place' cause cause' bad.batch (subst (λ (b : List ℕ). IsBadBatch version b place' cause') first worse.batch) in
    (omega (arith, both.0), both.1)
one_first_bad version [] (piece ∷ others) body other after later place place' cause cause' are also same bad worse =
    absurd (piece_not_bad version piece body place cause also.0 (ap (λ (l : List (List ℕ)). get_or l 0 []) same) bad)
one_first_bad version (piece ∷ before) [] body other after later place place' cause cause' are also same bad worse =
    absurd (piece_not_bad version piece other place' cause' are.0 (sym (ap (λ (l : List (List ℕ)). get_or l 0 []) same)) worse)
one_first_bad version (piece ∷ before) (piece' ∷ others) body other after later place place' cause cause' are also same bad worse =
    let bytes : piece_bytes piece ≡ piece_bytes piece' = ap (λ (l : List (List ℕ)). get_or l 0 []) same in
    let first = one_piece version piece piece' are.0 also.0 bytes in
    let size = ap (λ (l : List ℕ). length l) bytes in
    let alike = subst (λ p. ArePieces (version_after version p) others) (sym first) also.1 in
    let bad' = subst (λ p. IsBadPiece (version_behind (version_after version p) others) other place' cause') (sym first) worse in
    let rest = one_first_bad (version_after version piece) before others body other after later place place' cause cause' are.1 alike (ap (drop 1) same) bad bad' in
    (omega (arith, size, rest.0), rest.1)

-- bodies are no run in one way
one_bad_run : (bodies : List (List ℕ)) (offset offset' : ℕ) (cause cause' : BadRecord) → IsBadRun bodies offset cause → IsBadRun bodies offset' cause' → (offset ≡ offset') × (cause ≡ cause')
one_bad_run bodies _ _ _ _ (unheaded first others is none) (unheaded first' others' is' none') = (refl, refl)
one_bad_run bodies _ _ _ _ (unheaded first others is none) (broken header before body after place cause short are split bad) =
    absurd (none header short (ap (λ (l : List (List ℕ)). get_or l 0 []) (sym is ∙ split)))
one_bad_run bodies _ _ _ _ (broken header before body after place cause short are split bad) (unheaded first others is none) =
    absurd (none header short (ap (λ (l : List (List ℕ)). get_or l 0 []) (sym is ∙ split)))
one_bad_run bodies _ _ _ _ (broken header before body after place cause short are split bad) (broken header' before' body' after' place' cause' short' are' split' bad') =
    let same = sym split ∙ split' in
    let bytes : header_bytes header ≡ header_bytes header' = ap (λ (l : List (List ℕ)). get_or l 0 []) same in
    let versions = ap (λ (h : Header). h.version) (one_header header header' short short' bytes) in
    let size = ap (λ (l : List ℕ). length l) bytes in
    let alike = subst (λ v. ArePieces v before') (sym versions) are' in
    let worse = subst (λ v. IsBadPiece (version_behind v before') body' place' cause') (sym versions) bad' in
    let rest = one_first_bad header.version before before' body body' after after' place place' cause cause' are alike (ap (drop 1) same) bad worse in
    (omega (arith, size, rest.0), rest.1)

-- a run is not bad
run_not_bad : (header : Header) (pieces : List Piece) (entries : List Entry) (bodies : List (List ℕ)) (offset : ℕ) (cause : BadRecord) → IsRun header pieces entries → bodies_of header pieces ≡ bodies → IsBadRun bodies offset cause → ⊥
run_not_bad header pieces entries bodies _ _ run same (unheaded first others is none) = none header run.short (ap (λ (l : List (List ℕ)). get_or l 0 []) (sym is ∙ sym same))
run_not_bad header pieces entries bodies _ _ run same (broken header' before body after place cause short are split bad) =
    let both = same ∙ split in
    let versions = ap (λ (h : Header). h.version) (one_header header header' run.short short (ap (λ (l : List (List ℕ)). get_or l 0 []) both)) in
    let alike = subst (λ v. ArePieces v before) (sym versions) are in
    let worse = subst (λ v. IsBadPiece (version_behind v before) body place cause) (sym versions) bad in
    never_ends header.version pieces before body after place cause run.are alike (ap (drop 1) both) worse

-- bodies are those of one header and one list of records
one_run : (header header' : Header) (pieces pieces' : List Piece) (entries entries' : List Entry) → IsRun header pieces entries → IsRun header' pieces' entries' → bodies_of header pieces ≡ bodies_of header' pieces' → (header ≡ header') × (entries ≡ entries')
one_run header header' pieces pieces' entries entries' run run' same =
    let headers = one_header header header' run.short run'.short (ap (λ (l : List (List ℕ)). get_or l 0 []) same) in
    let alike = subst (λ (h : Header). ArePieces h.version pieces') (sym headers) run'.are in
    (headers, run.joins ∙ ap records_of (one_pieces header.version pieces pieces' run.are alike (ap (drop 1) same)) ∙ sym run'.joins)

-- bodies that are bad are at least one
bad_some : (bodies : List (List ℕ)) (offset : ℕ) (cause : BadRecord) → IsBadRun bodies offset cause → bodies ≡ [] → ⊥
bad_some bodies _ _ (unheaded first others is none) empty_bodies = omega (arith, ap length (sym is ∙ empty_bodies))
bad_some bodies _ _ (broken header before body after place cause short are split bad) empty_bodies = omega (arith, ap length (sym split ∙ empty_bodies))

-- an image of no run is not bad
none_bad : (image : List ℕ) (offset : ℕ) (cause : BadRecord) → IsNoRun image → IsBadAt offset cause image → ⊥
none_bad image offset cause none bad = bad_some bad.0 offset cause bad.2 (none_spelled image bad.0 none bad.1)

-- an image of no run stands for no records
none_stands : (image : List ℕ) (header : Header) (entries : List Entry) → IsNoRun image → Stands header entries image → ⊥
none_stands image header entries none stands = omega (arith, ap length (none_spelled image (bodies_of header stands.0) none stands.2))

-- an image that is bad stands for no records
bad_stands : (image : List ℕ) (offset : ℕ) (cause : BadRecord) (header : Header) (entries : List Entry) → IsBadAt offset cause image → Stands header entries image → ⊥
bad_stands image offset cause header entries bad stands =
    run_not_bad header stands.0 entries bad.0 offset cause stands.1 (one_list image (bodies_of header stands.0) bad.0 stands.2 bad.1) bad.2

-- the law: what an image stands for is one thing
pub one_meaning : (image : List ℕ) (a b : Meaning) → StandsFor a image → StandsFor b image → a ≡ b
one_meaning image no_run no_run is also = refl
one_meaning image no_run (cut_at o) is also = absurd (none_uncut image o is also)
one_meaning image no_run (bad_at o c) is also = absurd (none_bad image o c is also)
one_meaning image no_run (a_run h es) is also = absurd (none_stands image h es is also)
one_meaning image (cut_at o) no_run is also = absurd (none_uncut image o also is)
one_meaning image (cut_at o) (cut_at o') is also = ap cut_at (one_cut image o o' is also)
one_meaning image (cut_at o) (bad_at o' c) is also = absurd (spelled_uncut image also.0 o also.1 is)
one_meaning image (cut_at o) (a_run h es) is also = absurd (spelled_uncut image (bodies_of h also.0) o also.2 is)
one_meaning image (bad_at o c) no_run is also = absurd (none_bad image o c also is)
one_meaning image (bad_at o c) (cut_at o') is also = absurd (spelled_uncut image is.0 o' is.1 also)
one_meaning image (bad_at o c) (bad_at o' c') is also =
    let same = one_list image also.0 is.0 also.1 is.1 in
    let both = one_bad_run is.0 o o' c c' is.2 (subst (λ (l : List (List ℕ)). IsBadRun l o' c') same also.2) in
    λ i. bad_at (both.0 i) (both.1 i)
one_meaning image (bad_at o c) (a_run h es) is also = absurd (bad_stands image o c h es is also)
one_meaning image (a_run h es) no_run is also = absurd (none_stands image h es also is)
one_meaning image (a_run h es) (cut_at o) is also = absurd (spelled_uncut image (bodies_of h is.0) o is.2 also)
one_meaning image (a_run h es) (bad_at o c) is also = absurd (bad_stands image o c h es also is)
one_meaning image (a_run h es) (a_run h' es') is also =
    let both = one_run h h' is.0 also.0 es es' is.1 also.1 (one_list image (bodies_of h is.0) (bodies_of h' also.0) is.2 also.2) in
    λ i. a_run (both.0 i) (both.1 i)
