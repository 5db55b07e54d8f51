-- An image stands for one thing, where the pair and its machine count too. The law
-- `an_image_stands_for_one_run` (src/laws.rt) and OneHistory.antt rest on it.
use Rattle.std.proofs.Common.{◌≡◌, ◌⊎◌, inl, inr, ℕ, zero, suc, ◌≤◌, ◌<◌, List, [], ◌∷◌, ◌++◌, length, map, drop, get_or, refl, sym, ap, subst, ◌∙◌, arith, length-append}
use Rattle.std.proofs.lemmas.Bool.{cases_order}
use Rattle.gate_file.specs.Chain.{Spells}
use Rattle.run_records.specs.declared.bad_record.BadRecord.{BadRecord}
use Rattle.run_records.specs.Entries.{Entry}
use Rattle.run_records.specs.declared.header.Header.{Header}
use Rattle.run_journal.specs.Batches.{Piece, bodies_of, IsRun}
use Rattle.run_journal.specs.Meaning.{Meaning, no_run, cut_at, bad_at, a_run, StandsFor}
use Rattle.cell_settings.specs.Cell.{Cell}
use Rattle.cell_settings.specs.View.{view}
use Rattle.tape_flow.specs.Forms.{ProgramForm, program_form}
use Rattle.two_path.specs.Machine.{MachineView}
use Rattle.two_path.specs.Turns.{Tapes}
use Rattle.two_path.specs.Histories.{behind_entry, fold, IsLegal, IsNext}
use Rattle.nc_verify.specs.declared.refusal.Refusal.{Refusal}
use Rattle.nc_verify.specs.declared.verified.Verified.{Verified}
use Rattle.nc_verify.specs.Verdict.{Texts, AreAccepted, IsRefusalOf}
use Rattle.nc_restart.specs.Pair.{texts_of, IsPairOf, tapes_in, opening_of, IsSamePair}
use Rattle.nc_restart.specs.History.{IsHistory, MayFollow, IsOutOfPlace, illegal, beyond, IsOutOfPlaceAt}
use Rattle.nc_restart.specs.Meaning.{HasHistory, places_in, IsBadReading, refused, out_of_place, IsBadRunAt, unread, misread, StandsForRun}
use Rattle.nc_restart.proofs.Parted.{parted_before, parted_alike, first_alike, pieces_alike}
use Rattle.nc_restart.proofs.SamePair.{same_pair}

-- a record of a legal history is the machine's step behind those before it
follows : (tapes : Tapes) (m : MachineView) (before after : List Entry) (e : Entry) → IsLegal tapes m (before ++ e ∷ after)
    → IsNext tapes (fold tapes m before) e
follows tapes m [] after e legal = legal.0
follows tapes m (b ∷ before) after e legal = follows tapes (behind_entry tapes b m) before after e legal.1

-- two pairs with the same machine have the same histories, and the same records may follow
module _ (pair other : Verified) (same : IsSamePair pair other) where
  -- records that are legal for the one pair are legal for the other
  legal_same : (entries : List Entry) → IsLegal (tapes_in pair) (opening_of pair) entries → IsLegal (tapes_in other) (opening_of other) entries
  legal_same entries legal =
      subst (λ (m : MachineView). IsLegal (tapes_in other) m entries) (same.opening)
      (subst (λ (t : Tapes). IsLegal t (opening_of pair) entries) (same.tapes) legal)

  -- a record that may follow for the one pair may follow for the other
  next_same : (before : List Entry) (e : Entry) → MayFollow pair before e → MayFollow other before e
  next_same before e next =
      subst (λ (m : MachineView). IsNext (tapes_in other) (fold (tapes_in other) m before) e) (same.opening)
      (subst (λ (t : Tapes). IsNext t (fold t (opening_of pair) before) e) (same.tapes) next)

  -- a record that may follow for the other pair may follow for the one
  next_back : (before : List Entry) (e : Entry) → MayFollow other before e → MayFollow pair before e
  next_back before e next =
      subst (λ (t : Tapes). IsNext t (fold t (opening_of pair) before) e) (sym same.tapes)
      (subst (λ (m : MachineView). IsNext (tapes_in other) (fold (tapes_in other) m before) e) (sym same.opening) next)

  -- a history of the one pair is one of the other
  pub history_same : (entries : List Entry) → IsHistory pair entries → IsHistory other entries
  history_same entries is = record {
    legal = legal_same entries is.legal;
    few = subst (λ (n : ℕ). length entries ≤ n) (same.records) is.few;
  }

  -- a record that is out of place for the one pair is so for the other, for the same cause
  out_same : (before : List Entry) (e : Entry) (cause : BadRecord) → IsOutOfPlace pair before e cause → IsOutOfPlace other before e cause
  out_same before e _ (illegal not) = illegal (λ next. not (next_back before e next))
  out_same before e _ (beyond next full) = beyond (next_same before e next) (full ∙ same.records)

  -- the first record out of place is the same for both pairs
  pub out_at_same : (entries : List Entry) (index : ℕ) (cause : BadRecord) → IsOutOfPlaceAt pair entries index cause → IsOutOfPlaceAt other entries index cause
  out_at_same entries index cause is = record {
    before = is.before;
    entry = is.entry;
    after = is.after;
    are = is.are;
    index_is = is.index_is;
    history = history_same is.before is.history;
    bad = out_same is.before is.entry cause is.bad;
  }

-- a record of a history is in its place
never_out : (pair : Verified) (before between : List Entry) (e : Entry) (cause : BadRecord) → IsHistory pair (before ++ e ∷ between) → IsOutOfPlace pair before e cause → ⊥
never_out pair before between e _ is (illegal not) = not (follows (tapes_in pair) (opening_of pair) before between e is.legal)
never_out pair before between e _ is (beyond next full) =
    absurd (omega (arith, is.few, length-append before (e ∷ between), full))

-- of two records that are each the first out of place, none is earlier
earlier : (pair : Verified) (entries : List Entry) (index other : ℕ) (cause cause' : BadRecord) → IsOutOfPlaceAt pair entries index cause
    → IsOutOfPlaceAt pair entries other cause' → index < other → ⊥
earlier pair entries index other cause cause' is also less =
    let first : length is.before < length also.before = omega (arith, is.index_is, also.index_is, less) in
    let between = parted_before is.before also.before is.after also.after is.entry also.entry (sym is.are ∙ also.are) first in
    never_out pair is.before between.0 is.entry cause (subst (IsHistory pair) between.1 also.history) is.bad

-- a record is out of place for one cause
one_cause : (pair : Verified) (before : List Entry) (e : Entry) (cause cause' : BadRecord) → IsOutOfPlace pair before e cause
    → IsOutOfPlace pair before e cause' → cause ≡ cause'
one_cause pair before e _ _ (illegal not) (illegal not') = refl
one_cause pair before e _ _ (illegal not) (beyond next full) = absurd (not next)
one_cause pair before e _ _ (beyond next full) (illegal not) = absurd (not next)
one_cause pair before e _ _ (beyond next full) (beyond next' full') = refl

-- one record is the first out of place, for one cause
one_place : (pair : Verified) (entries : List Entry) (index other : ℕ) (cause cause' : BadRecord) → IsOutOfPlaceAt pair entries index cause
    → IsOutOfPlaceAt pair entries other cause' → (index ≡ other) × (cause ≡ cause')
one_place pair entries index other cause cause' is also = go (cases_order index other)
  where
    go : (index ≡ other) ⊎ ((index < other) ⊎ (other < index)) → (index ≡ other) × (cause ≡ cause')
    go (inr (inl less)) = absurd (earlier pair entries index other cause cause' is also less)
    go (inr (inr less)) = absurd (earlier pair entries other index cause' cause also is less)
    go (inl e) =
        let size : length is.before ≡ length also.before = omega (arith, is.index_is, also.index_is, e) in
        let parts = parted_alike is.before also.before (is.entry ∷ is.after) (also.entry ∷ also.after) (sym is.are ∙ also.are) size in
        let first = first_alike is.entry also.entry is.after also.after parts.1 in
        (e, one_cause pair also.before also.entry cause cause' (subst (λ (x : Entry). IsOutOfPlace pair also.before x cause) first (subst (λ (b : List Entry). IsOutOfPlace pair b is.entry cause) parts.0 is.bad)) also.bad)

-- the header of what an image means, if that is a run; else the one that is given
abbrev pub header_of : Header → Meaning → Header
header_of default (a_run h es) = h
header_of default no_run = default
header_of default (cut_at o) = default
header_of default (bad_at o c) = default

-- the records of what an image means, if that is a run; else those that are given
abbrev pub entries_of : List Entry → Meaning → List Entry
entries_of default (a_run h es) = es
entries_of default no_run = default
entries_of default (cut_at o) = default
entries_of default (bad_at o c) = default

-- the laws of the layers below that the proof takes
pub record Below : Type 0 where
  -- no texts are both accepted and refused
  pub apart : (texts : Texts) (cell : Cell) (left right : List ProgramForm) (refusal : Refusal) → AreAccepted texts cell left right → IsRefusalOf texts refusal → ⊥
  -- an image of a journal stands for one thing
  pub one : (image : List ℕ) (a b : Meaning) → StandsFor a image → StandsFor b image → a ≡ b
  -- a file spells one list of bodies
  pub bodies : (file : List ℕ) (bodies others : List (List ℕ)) → Spells bodies file → Spells others file → bodies ≡ others

-- what an image stands for, by the laws of the layers below
module _ (below : Below) where
  -- the texts of a header that are accepted are not refused
  refused_apart : (header : Header) (pair : Verified) (refusal : Refusal) → IsPairOf (texts_of header) pair → IsRefusalOf (texts_of header) refusal → ⊥
  refused_apart header pair refusal accepted is =
      below.apart (texts_of header) (view pair.settings) (map program_form pair.left.programs) (map program_form pair.right.programs) refusal accepted is

  -- a header and records are no run for one cause, at one offset
  one_reading : (header : Header) (entries : List Entry) (begins : List ℕ) (offset other : ℕ) (cause cause' : BadRecord)
      → IsBadReading header entries begins offset cause → IsBadReading header entries begins other cause' → (offset ≡ other) × (cause ≡ cause')
  one_reading header entries begins _ _ _ _ (refused refusal is) (refused refusal' is') = (refl, refl)
  one_reading header entries begins _ _ _ _ (refused refusal is) (out_of_place pair index cause accepted out) = absurd (refused_apart header pair refusal accepted is)
  one_reading header entries begins _ _ _ _ (out_of_place pair index cause accepted out) (refused refusal is) = absurd (refused_apart header pair refusal accepted is)
  one_reading header entries begins _ _ _ _ (out_of_place pair index cause accepted out) (out_of_place pair' index' cause' accepted' out') =
      let same = same_pair (texts_of header) pair pair' accepted accepted' in
      let both = one_place pair' entries index index' cause cause' (out_at_same pair pair' same entries index cause out) out' in
      (ap (λ (i : ℕ). get_or begins i 0) both.0, both.1)

  -- a header with a history is not bad
  history_not_bad : (header : Header) (entries : List Entry) (begins : List ℕ) (offset : ℕ) (cause : BadRecord) → HasHistory header entries
      → IsBadReading header entries begins offset cause → ⊥
  history_not_bad header entries begins _ _ has (refused refusal is) = refused_apart header has.pair refusal has.accepted is
  history_not_bad header entries begins _ _ has (out_of_place pair index cause accepted out) =
      let same = same_pair (texts_of header) has.pair pair has.accepted accepted in
      never_out pair out.before out.after out.entry cause (subst (IsHistory pair) (out.are) (history_same has.pair pair same entries has.history)) out.bad

  -- the bytes of an image have one header and one list of records
  stands_one : (image : List ℕ) (header header' : Header) (entries entries' : List Entry) → StandsFor (a_run header entries) image → StandsFor (a_run header' entries') image
      → (header ≡ header') × (entries ≡ entries')
  stands_one image header header' entries entries' is also =
      let same : a_run header entries ≡ a_run header' entries' = below.one image (a_run header entries) (a_run header' entries') is also in
      (ap (header_of header) same, ap (entries_of entries) same)

  -- an image that is bad as a run is, as a journal, bad or a run: it has bodies, and none cut short
  read_as : (offset : ℕ) (cause : BadRecord) (image : List ℕ) → IsBadRunAt offset cause image → (m : Meaning) × StandsFor m image × ((m ≡ no_run) ⊎ ((o : ℕ) × (m ≡ cut_at o)) → ⊥)
  read_as offset cause image (unread bad) = (bad_at offset cause, bad, neither)
    where
      neither : (bad_at offset cause ≡ no_run) ⊎ ((o : ℕ) × (bad_at offset cause ≡ cut_at o)) → ⊥
      neither (inl e) = cc
      neither (inr e) = let same : bad_at offset cause ≡ cut_at e.0 = e.1 in cc
  read_as offset cause image (misread header pieces entries run spells bad) = (a_run header entries, (pieces, run, spells), neither)
    where
      neither : (a_run header entries ≡ no_run) ⊎ ((o : ℕ) × (a_run header entries ≡ cut_at o)) → ⊥
      neither (inl e) = cc
      neither (inr e) = let same : a_run header entries ≡ cut_at e.0 = e.1 in cc

  -- an image that is bad as a run does not stand for no run
  bad_some : (offset : ℕ) (cause : BadRecord) (image : List ℕ) → IsBadRunAt offset cause image → StandsFor no_run image → ⊥
  bad_some offset cause image bad none =
      let said = read_as offset cause image bad in
      said.2 (inl (below.one image said.0 no_run said.1 none))

  -- an image that is bad as a run is not cut short
  bad_uncut : (offset : ℕ) (cause : BadRecord) (image : List ℕ) (at : ℕ) → IsBadRunAt offset cause image → StandsFor (cut_at at) image → ⊥
  bad_uncut offset cause image at bad cut =
      let said = read_as offset cause image bad in
      said.2 (inr (at, below.one image said.0 (cut_at at) said.1 cut))

  -- an image whose bytes are bad has no header and records
  unlike : (offset : ℕ) (cause : BadRecord) (header : Header) (entries : List Entry) (image : List ℕ) → StandsFor (bad_at offset cause) image → StandsFor (a_run header entries) image → ⊥
  unlike offset cause header entries image bad run =
      let same : bad_at offset cause ≡ a_run header entries = below.one image (bad_at offset cause) (a_run header entries) bad run in
      cc

  -- an image that has a header and records is no run for one cause, at one offset
  one_misreading : (image : List ℕ) (offset other : ℕ) (cause cause' : BadRecord) (header header' : Header) (pieces pieces' : List Piece)
      (entries entries' : List Entry) → IsRun header pieces entries → Spells (bodies_of header pieces) image
      → IsBadReading header entries (places_in header pieces) offset cause → IsRun header' pieces' entries'
      → Spells (bodies_of header' pieces') image → IsBadReading header' entries' (places_in header' pieces') other cause'
      → (offset ≡ other) × (cause ≡ cause')
  one_misreading image offset other cause cause' header header' pieces pieces' entries entries' run spells bad run' spells' bad' =
      let same = stands_one image header header' entries entries' (pieces, run, spells) (pieces', run', spells') in
      let bytes = below.bodies image (bodies_of header pieces) (bodies_of header' pieces') spells spells' in
      let records = sym run.joins ∙ same.1 ∙ run'.joins in
      let alike = pieces_alike header.version header'.version pieces pieces' run.are run'.are (ap (drop 1) bytes) records in
      one_reading header' entries' (places_in header' pieces') offset other cause cause'
      (subst (λ (ps : List Piece). IsBadReading header' entries' (places_in header' ps) offset cause) alike
      (subst (λ (es : List Entry). IsBadReading header' es (places_in header' pieces) offset cause) same.1
      (subst (λ (h : Header). IsBadReading h entries (places_in h pieces) offset cause) same.0 bad)))
      bad'

  -- an image is bad as a run for one cause, at one offset
  one_bad : (image : List ℕ) (offset other : ℕ) (cause cause' : BadRecord) → IsBadRunAt offset cause image → IsBadRunAt other cause' image → bad_at offset cause ≡ bad_at other cause'
  one_bad image offset other cause cause' (unread bad) (unread bad') = below.one image (bad_at offset cause) (bad_at other cause') bad bad'
  one_bad image offset other cause cause' (unread bad) (misread header pieces entries run spells out) = absurd (unlike offset cause header entries image bad (pieces, run, spells))
  one_bad image offset other cause cause' (misread header pieces entries run spells out) (unread bad) = absurd (unlike other cause' header entries image bad (pieces, run, spells))
  one_bad image offset other cause cause' (misread header pieces entries run spells out) (misread header' pieces' entries' run' spells' out') =
      let both = one_misreading image offset other cause cause' header header' pieces pieces' entries entries' run spells out run' spells' out' in
      λ i. bad_at (both.0 i) (both.1 i)

  -- an image that stands for a run is not bad as one
  run_not_bad : (image : List ℕ) (offset : ℕ) (cause : BadRecord) (header : Header) (entries : List Entry) → IsBadRunAt offset cause image
      → StandsForRun (a_run header entries) image → ⊥
  run_not_bad image offset cause header entries (unread bad) is = unlike offset cause header entries image bad is.0
  run_not_bad image offset cause header entries (misread header' pieces entries' run spells out) is =
      let same = stands_one image header header' entries entries' is.0 (pieces, run, spells) in
      history_not_bad header' entries' (places_in header' pieces) offset cause
      (subst (λ (es : List Entry). HasHistory header' es) same.1 (subst (λ (h : Header). HasHistory h entries) same.0 is.1)) out

  -- the law: what an image stands for is one thing
  pub one_run : (image : List ℕ) (a b : Meaning) → StandsForRun a image → StandsForRun b image → a ≡ b
  one_run image no_run no_run is also = refl
  one_run image no_run (cut_at o) is also = below.one image no_run (cut_at o) is also
  one_run image no_run (bad_at o c) is also = absurd (bad_some o c image also is)
  one_run image no_run (a_run h es) is also = below.one image no_run (a_run h es) is also.0
  one_run image (cut_at o) no_run is also = below.one image (cut_at o) no_run is also
  one_run image (cut_at o) (cut_at o') is also = below.one image (cut_at o) (cut_at o') is also
  one_run image (cut_at o) (bad_at o' c) is also = absurd (bad_uncut o' c image o also is)
  one_run image (cut_at o) (a_run h es) is also = below.one image (cut_at o) (a_run h es) is also.0
  one_run image (bad_at o c) no_run is also = absurd (bad_some o c image is also)
  one_run image (bad_at o c) (cut_at o') is also = absurd (bad_uncut o c image o' is also)
  one_run image (bad_at o c) (bad_at o' c') is also = one_bad image o o' c c' is also
  one_run image (bad_at o c) (a_run h es) is also = absurd (run_not_bad image o c h es is also)
  one_run image (a_run h es) no_run is also = below.one image (a_run h es) no_run is.0 also
  one_run image (a_run h es) (cut_at o) is also = below.one image (a_run h es) (cut_at o) is.0 also
  one_run image (a_run h es) (bad_at o c) is also = absurd (run_not_bad image o c h es also is)
  one_run image (a_run h es) (a_run h' es') is also = below.one image (a_run h es) (a_run h' es') is.0 also.0
