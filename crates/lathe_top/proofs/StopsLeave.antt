-- What a stop at any moment of a call leaves: no journal that is bad; and if there was a run, a
-- history of it that goes on.
-- BranchesMade and the proofs of `a_stop_leaves_one_history` and `calls_make_one_history`
-- (src/laws.rt) use it.
use Rattle.std.proofs.Common.{◌≡◌, ◌⊎◌, inl, inr, ⊎_elim, ℕ, ◌≤◌, List, [], ◌∷◌, length, take, drop, sym, ap, subst, arith, ◌∙◌, length-take, take-append-drop}
use Rattle.std.proofs.Math.Seq.{take-length}
use Rattle.std.proofs.lemmas.List.{take-append-le}
use Rattle.disk_model.specs.Device.{DiskState, Reads, IsCoherent}
use Rattle.disk_model.specs.Moments.{LeavesOnly, Unwritten}
use Rattle.disk_model.proofs.Runs.{joined}
use Rattle.gate_file.specs.Chain.{IsNoRun, IsRunThere}
use Rattle.run_records.specs.Entries.{Entry}
use Rattle.run_records.specs.declared.header.Header.{Header}
use Rattle.run_journal.specs.Beginning.{IsRunBeginning}
use Rattle.run_journal.specs.Meaning.{no_run, a_run}
use Rattle.run_journal.specs.Stands.{Stands}
use Rattle.run_table.specs.Recording.{StandsForPrefix}
use Rattle.nc_restart.specs.Lives.{AreOneHistory}
use Rattle.nc_verify.specs.declared.verified.Verified.{Verified}
use Rattle.nc_restart.specs.Pair.{texts_of, IsPairOf}
use Rattle.nc_restart.specs.Meaning.{HasHistory, StandsForRun}
use Rattle.lathe_top.specs.Session.{Session, IsSession}
use Rattle.lathe_top.specs.Lathe.{LatheState}
use Rattle.lathe_top.specs.Kinds as kind
use Rattle.lathe_top.specs.Kinds.{Kind, kind_of}
use Rattle.lathe_top.specs.Kept.{Editing, HasAllOrNone, HasEdits, IsEditing, history_with, made_of, Opening, anew, again, HasSession, KeepsSession, Leaves, IsOfOpening, OnlyBegins, OnlyLooks, RestsWhole}
use Rattle.lathe_top.specs.Stops.{GoesOnAs, IsNoneOrRun, lathe_before, lathe_behind, StoppedCall, AreStopped, images_of, BecomeOneHistory}
use Rattle.lathe_top.proofs.DueOnce.{OneRun, header_in, entries_in}

-- the law that an image that stands for a prefix of a history stands for a run with these records
abbrev pub NeverBad : Type 0
NeverBad = (header : Header) (history : List Entry) (kept : ℕ) (image : List ℕ) → HasHistory header history
    → Stands header (take kept history) image → StandsForRun (a_run header (take kept history)) image

-- a shorter prefix of a prefix is a prefix of the whole
take_within : {A : Type 0} (m n : ℕ) (xs : List A) → m ≤ n → n ≤ length xs → take m (take n xs) ≡ take m xs
take_within m n xs le within =
    sym (take-append-le m (take n xs) (drop n xs) (omega (arith, le, within, length-take n xs))) ∙ ap (take m) (take-append-drop n xs)

-- the first ones of records that begin with others which begin with these
front_kept : (base found history : List Entry) → take (length base) found ≡ base → take (length found) history ≡ found
    → take (length base) history ≡ base
front_kept base found history first begins =
    let short : length base ≤ length found = omega (arith, ap length first, length-take (length base) found) in
    let within : length found ≤ length history = omega (arith, ap length begins, length-take (length found) history) in
    sym (take_within (length base) (length found) history short within) ∙ ap (take (length base)) begins ∙ first

-- bytes that are not those of no run are those of a run: two at least, of which the first is no
-- shut gate
run_there : (bytes : List ℕ) → (IsNoRun bytes → ⊥) → IsRunThere bytes
run_there [] some = absurd (some (inl (omega arith)))
run_there (gate ∷ []) some = absurd (some (inl (omega arith)))
run_there (gate ∷ b ∷ rest) some = (omega arith, λ shut. some (inr shut))

-- what holds of each image of a disk holds of each image that a call leaves which wrote nothing
module _ (P : List ℕ → Type 0) where
  -- what holds of each image of a disk holds of each image left, if the disk was not written
  of_unwritten : (old new : DiskState) → ((c : List ℕ) → old.image c → P c) → Unwritten old new → (c : List ℕ) → new.image_since old.clock c → P c
  of_unwritten old new held unwritten c since = held c (unwritten.moments.each c since)

  -- what holds of each image of a disk holds of each image left by a call that only looks for a run
  of_looks : (old new : LatheState) → ((c : List ℕ) → old.disk.image c → P c) → OnlyLooks old new → (c : List ℕ)
      → new.disk.image_since old.disk.clock c → P c
  of_looks old new held looks c since =
      ⊎_elim (λ untouched. of_unwritten old.disk new.disk held untouched.unwritten c since)
      (λ look. of_unwritten old.disk new.disk held look.recovers.unwritten c since) looks.disk

  -- what holds of each image of a disk holds of each image left by a call that does not call it
  of_rest : (old new : LatheState) → ((c : List ℕ) → old.disk.image c → P c) → RestsWhole old new → (c : List ℕ)
      → new.disk.image_since old.disk.clock c → P c
  of_rest old new held rests c since = of_unwritten old.disk new.disk held rests.disk.unwritten c since

-- a crash at any moment of a session leaves an image of its opening, or a prefix of its history
-- that has all that was found
session_leaves : {D : Type 0} (state : D → DiskState) (opening : Opening) (s : Session) (least : ℕ) (old new : DiskState) (bytes : List ℕ)
    → Reads old bytes → KeepsSession state opening s least old new
    → LeavesOnly (λ c. IsOfOpening opening s old.image c ⊎ StandsForPrefix s.header (length s.found) s.history c) old new
session_leaves state opening s least old new bytes reads keeps =
    joined (IsOfOpening opening s old.image) (StandsForPrefix s.header (length s.found) s.history)
    (λ c. IsOfOpening opening s old.image c ⊎ StandsForPrefix s.header (length s.found) s.history c) old (state keeps.begun) new
    (keeps.opens bytes reads) (keeps.goes bytes reads) (λ x is. inl is) (λ x is. inr is)

-- what was found with all edits or none is a run, which begins with what was found
edits_run : (e : Editing) → IsEditing e → (c : List ℕ) → HasAllOrNone e c
    → (history : List Entry) × StandsForRun (a_run e.header history) c × (take (length e.found) history ≡ e.found)
edits_run e is c (inl stands) =
    let has : HasHistory e.header e.found = record { pair = e.pair; accepted = is.accepted; history = is.found_is } in
    (e.found, (stands, has), take-length e.found)
edits_run e is c (inr stands) =
    let has : HasHistory e.header (history_with e) = record { pair = e.pair; accepted = is.accepted; history = is.history_is } in
    (history_with e, (stands, has), take-append-le (length e.found) e.found (made_of e) (omega arith) ∙ take-length e.found)

-- images of histories and of their prefixes are never bad
module _ (never_bad : NeverBad) where
  -- an image of a prefix of a session's history stands for a run of that prefix
  prefix_run : (s : Session) → IsSession s → (least : ℕ) (c : List ℕ) → StandsForPrefix s.header least s.history c
      → (n : ℕ) × (least ≤ n) × (n ≤ length s.history) × StandsForRun (a_run s.header (take n s.history)) c
  prefix_run s is least c stands =
      let has : HasHistory s.header s.history = record { pair = s.pair; accepted = is.accepted; history = is.goes_on.history_is } in
      (stands.0, stands.1, stands.2, never_bad s.header s.history stands.0 c has stands.3)

  -- no image while a journal is begun is bad
  beginning_none : (header : Header) (pair : Verified) → IsPairOf (texts_of header) pair → (image : List ℕ → Type 0)
      → ((c : List ℕ) → image c → IsNoneOrRun c) → (c : List ℕ) → IsRunBeginning image header c → IsNoneOrRun c
  beginning_none header pair accepted image held c (inl earlier) = held c earlier
  beginning_none header pair accepted image held c (inr (inl nothing)) = inl nothing
  beginning_none header pair accepted image held c (inr (inr stands)) =
      let has : HasHistory header [] =
      record { pair = pair; accepted = accepted; history = record { legal = tt; few = omega arith } } in
      inr (header, [], never_bad header [] 0 c has stands)

  -- no image that an opening leaves is bad
  opening_none : (opening : Opening) (s : Session) → IsSession s → (image : List ℕ → Type 0) → ((c : List ℕ) → image c → IsNoneOrRun c)
      → (c : List ℕ) → IsOfOpening opening s image c → IsNoneOrRun c
  opening_none anew s is image held c begun = beginning_none s.header s.pair is.accepted image held c begun
  opening_none again s is image held c earlier = held c earlier

  -- no image of a prefix of a session's history is bad
  prefix_none : (s : Session) → IsSession s → (least : ℕ) (c : List ℕ) → StandsForPrefix s.header least s.history c → IsNoneOrRun c
  prefix_none s is least c stands = let p = prefix_run s is least c stands in inr (s.header, take p.0 s.history, p.3)

  -- no image that a session leaves is bad
  session_none : {D : Type 0} (state : D → DiskState) (opening : Opening) (limit : ℕ) (old new : LatheState) (bytes : List ℕ) → Reads old.disk bytes
      → ((c : List ℕ) → old.disk.image c → IsNoneOrRun c) → HasSession state opening limit old new → (c : List ℕ)
      → new.disk.image_since old.disk.clock c → IsNoneOrRun c
  session_none state opening limit old new bytes reads held has c since =
      let s = has.session in
      ⊎_elim (opening_none opening s has.is old.disk.image held c) (prefix_none s has.is (length s.found) c)
      ((session_leaves state opening s has.least old.disk new.disk bytes reads has.keeps).each c since)

  -- no image that a refused beginning leaves is bad
  begins_none : (old new : LatheState) (bytes : List ℕ) → Reads old.disk bytes → ((c : List ℕ) → old.disk.image c → IsNoneOrRun c)
      → OnlyBegins old new → (c : List ℕ) → new.disk.image_since old.disk.clock c → IsNoneOrRun c
  begins_none old new bytes reads held only c since =
      ⊎_elim (λ untouched. of_unwritten IsNoneOrRun old.disk new.disk held untouched.unwritten c since)
      (λ refused. beginning_none refused.2.header refused.2.pair refused.2.accepted old.disk.image held c
      ((refused.2.begins.any_moment bytes reads).each c since)) only.disk

  -- no image that edits leave is bad
  edits_none : (old new : LatheState) (bytes : List ℕ) → Reads old.disk bytes → ((c : List ℕ) → old.disk.image c → IsNoneOrRun c)
      → HasEdits old new → (c : List ℕ) → new.disk.image_since old.disk.clock c → IsNoneOrRun c
  edits_none old new bytes reads held has c since =
      let e = has.editing in
      ⊎_elim (held c) (λ stands. let r = edits_run e has.writing.is c stands in inr (e.header, r.0, r.1))
      ((has.writing.keeps.any_moment bytes reads).each c since)

  -- no image that a command of any kind leaves is bad
  pub none_or_run : {D : Type 0} (state : D → DiskState) (asked : Kind) (old new : LatheState) (bytes : List ℕ) → Reads old.disk bytes
      → ((c : List ℕ) → old.disk.image c → IsNoneOrRun c) → Leaves state asked old new → (c : List ℕ)
      → new.disk.image_since old.disk.clock c → IsNoneOrRun c
  none_or_run state kind.rests old new bytes reads held leaves c since = of_rest IsNoneOrRun old new held leaves c since
  none_or_run state kind.looks old new bytes reads held leaves c since = of_looks IsNoneOrRun old new held leaves c since
  none_or_run state kind.branches old new bytes reads held leaves c since = of_looks IsNoneOrRun old new held leaves c since
  none_or_run state kind.edits old new bytes reads held (inl only) c since = of_looks IsNoneOrRun old new held only c since
  none_or_run state kind.edits old new bytes reads held (inr has) c since = edits_none old new bytes reads held has c since
  none_or_run state (kind.begins limit) old new bytes reads held (inl only) c since = begins_none old new bytes reads held only c since
  none_or_run state (kind.begins limit) old new bytes reads held (inr has) c since =
      session_none state anew limit old new bytes reads held has c since
  none_or_run state (kind.goes_on limit) old new bytes reads held (inl only) c since = of_looks IsNoneOrRun old new held only c since
  none_or_run state (kind.goes_on limit) old new bytes reads held (inr has) c since =
      session_none state again limit old new bytes reads held has c since

-- a run that begins with these records is on the disk
module _ {D : Type 0} (state : D → DiskState) (one_run : OneRun) (never_bad : NeverBad) (header : Header) (base : List Entry) where
  -- what a read of a run gives is a run that is there
  goes_there : (bytes : List ℕ) → GoesOnAs header base bytes → IsRunThere bytes
  goes_there bytes goes = run_there bytes (λ none. absurd (let same : no_run ≡ a_run header goes.0 = one_run bytes no_run (a_run header goes.0) none goes.1 in cc))

  -- what a session leaves begins with these records
  session_kept : (limit : ℕ) (old new : LatheState) (bytes : List ℕ) → Reads old.disk bytes → ((c : List ℕ) → old.disk.image c → GoesOnAs header base c)
      → GoesOnAs header base bytes → HasSession state again limit old new → (c : List ℕ) → new.disk.image_since old.disk.clock c → GoesOnAs header base c
  session_kept limit old new bytes reads held goes has c since =
      ⊎_elim (held c) (λ standing. part (prefix_run never_bad has.session has.is (length has.session.found) c standing))
      ((session_leaves state again has.session has.least old.disk new.disk bytes reads has.keeps).each c since)
    where
      part : (n : ℕ) × (length has.session.found ≤ n) × (n ≤ length has.session.history)
          × StandsForRun (a_run has.session.header (take n has.session.history)) c → GoesOnAs header base c
      part p =
          let s = has.session in
          let same : a_run s.header s.found ≡ a_run header goes.0 =
          one_run bytes (a_run s.header s.found) (a_run header goes.0) (has.opened bytes reads) goes.1 in
          let headers : s.header ≡ header = ap (header_in s.header) same in
          let records : s.found ≡ goes.0 = ap (entries_in s.found) same in
          let begins : take (length s.found) (take p.0 s.history) ≡ s.found =
          take_within (length s.found) p.0 s.history p.1 p.2 ∙ has.is.goes_on.extends in
          let first : take (length base) s.found ≡ base = subst (λ (l : List Entry). take (length base) l ≡ base) (sym records) goes.2 in (
            take p.0 s.history,
            subst (λ (h : Header). StandsForRun (a_run h (take p.0 s.history)) c) headers p.3,
            front_kept base s.found (take p.0 s.history) first begins,
          )

  -- what edits leave begins with these records
  edits_kept : (old new : LatheState) (bytes : List ℕ) → Reads old.disk bytes → ((c : List ℕ) → old.disk.image c → GoesOnAs header base c)
      → GoesOnAs header base bytes → HasEdits old new → (c : List ℕ) → new.disk.image_since old.disk.clock c → GoesOnAs header base c
  edits_kept old new bytes reads held goes has c since =
      ⊎_elim (held c) (λ stands. part (edits_run has.editing has.writing.is c stands)) ((has.writing.keeps.any_moment bytes reads).each c since)
    where
      part : (history : List Entry) × StandsForRun (a_run has.editing.header history) c × (take (length has.editing.found) history ≡ has.editing.found)
          → GoesOnAs header base c
      part p =
          let e = has.editing in
          let same : a_run e.header e.found ≡ a_run header goes.0 =
          one_run bytes (a_run e.header e.found) (a_run header goes.0) (has.writing.opened bytes reads) goes.1 in
          let headers : e.header ≡ header = ap (header_in e.header) same in
          let records : e.found ≡ goes.0 = ap (entries_in e.found) same in
          let first : take (length base) e.found ≡ base = subst (λ (l : List Entry). take (length base) l ≡ base) (sym records) goes.2 in (
            p.0,
            subst (λ (h : Header). StandsForRun (a_run h p.0) c) headers p.1,
            front_kept base e.found p.0 first p.2,
          )

  -- a call whose disk reads as a run goes on with it, or leaves it alone
  kept_by : (asked : Kind) (old new : LatheState) (bytes : List ℕ) → Reads old.disk bytes
      → ((c : List ℕ) → old.disk.image c → GoesOnAs header base c) → GoesOnAs header base bytes → Leaves state asked old new → (c : List ℕ)
      → new.disk.image_since old.disk.clock c → GoesOnAs header base c
  kept_by kind.rests old new bytes reads held goes leaves c since = of_rest (GoesOnAs header base) old new held leaves c since
  kept_by kind.looks old new bytes reads held goes leaves c since = of_looks (GoesOnAs header base) old new held leaves c since
  kept_by kind.branches old new bytes reads held goes leaves c since = of_looks (GoesOnAs header base) old new held leaves c since
  kept_by kind.edits old new bytes reads held goes (inl only) c since = of_looks (GoesOnAs header base) old new held only c since
  kept_by kind.edits old new bytes reads held goes (inr has) c since = edits_kept old new bytes reads held goes has c since
  kept_by (kind.begins limit) old new bytes reads held goes (inl only) c since =
      ⊎_elim (λ untouched. of_unwritten (GoesOnAs header base) old.disk new.disk held untouched.unwritten c since)
      (λ refused. of_unwritten (GoesOnAs header base) old.disk new.disk held (refused.2.begins.spares bytes reads (goes_there bytes goes)) c since)
      only.disk
  kept_by (kind.begins limit) old new bytes reads held goes (inr has) c since = absurd (has.opened.1 bytes reads (goes_there bytes goes))
  kept_by (kind.goes_on limit) old new bytes reads held goes (inl only) c since = of_looks (GoesOnAs header base) old new held only c since
  kept_by (kind.goes_on limit) old new bytes reads held goes (inr has) c since = session_kept limit old new bytes reads held goes has c since

  -- what any kind of command leaves begins with these records
  pub goes_on_as : (asked : Kind) (old new : LatheState) (bytes : List ℕ) → IsCoherent old.disk → Reads old.disk bytes
      → ((c : List ℕ) → old.disk.image c → GoesOnAs header base c) → Leaves state asked old new → (c : List ℕ)
      → new.disk.image_since old.disk.clock c → GoesOnAs header base c
  goes_on_as asked old new bytes coherent reads held leaves c since =
      kept_by asked old new bytes reads held (held bytes (coherent.as_read bytes reads)) leaves c since

-- lists of calls, each on what the cut before it left
module _ {D : Type 0} (state : D → DiskState) (coherent : (disk : D) → IsCoherent (state disk)) (one_run : OneRun) (never_bad : NeverBad) where
  -- an image of a disk that has these bytes and nothing unsettled is these bytes
  alone : (bytes c : List ℕ) (header : Header) (found : List Entry) → StandsForRun (a_run header found) bytes → c ≡ bytes → GoesOnAs header found c
  alone bytes c header found stands same =
      (found, subst (λ x. StandsForRun (a_run header found) x) (sym same) stands, take-length found)

  -- over calls and cuts, the images are one history that begins with the one found
  pub one_history : (stops : List (StoppedCall D)) (bytes : List ℕ) (header : Header) (found : List Entry) → StandsForRun (a_run header found) bytes
      → AreStopped state bytes stops → AreOneHistory header found (images_of stops)
  one_history [] bytes header found stands are = tt
  one_history (stop ∷ stops) bytes header found stands are =
      let call = stop.call in
      let goes : GoesOnAs header found stop.image =
      goes_on_as state one_run never_bad header found (kind_of call.asked) (lathe_before state call) (lathe_behind state call) bytes (coherent call.disk)
      are.0.is.reads (λ c image. alone bytes c header found stands (are.0.settled bytes are.0.is.reads c image)) are.0.is.leaves stop.image are.0.left in
      (goes.0, goes.1, goes.2, one_history stops stop.image header goes.0 goes.1 are.1)

  -- from a disk without a run, the images become one history as soon as there is a run
  pub becomes_one : (stops : List (StoppedCall D)) (bytes : List ℕ) → IsNoRun bytes → AreStopped state bytes stops
      → BecomeOneHistory (images_of stops)
  becomes_one [] bytes none are = tt
  becomes_one (stop ∷ stops) bytes none are =
      let call = stop.call in
      let left : IsNoneOrRun stop.image =
      none_or_run never_bad state (kind_of call.asked) (lathe_before state call) (lathe_behind state call) bytes are.0.is.reads
      (λ c image. inl (subst IsNoRun (sym (are.0.settled bytes are.0.is.reads c image)) none)) are.0.is.leaves stop.image are.0.left in
      ⊎_elim (λ nothing. inl (nothing, becomes_one stops stop.image nothing are.1))
      (λ run. inr (run.0, run.1, run.2, one_history stops stop.image run.0 run.1 run.2 are.1)) left
