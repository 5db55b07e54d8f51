-- The stamps of a record that is added stand after the others, or its edit does, and every record
-- before it is as it was. A head stands for a record: it has the first index of its stamps, or of
-- its edit. For the proof of `push` (src/lists.rt).
use Rattle.std.proofs.Common.{◌≡◌, ℕ, ◌+◌, ◌≤◌, List, [], ◌∷◌, ◌++◌, length, take, drop, refl, sym, ◌∙◌, ap, subst, arith, length-drop, length-append, true, Some, None, Option}
use Rattle.std.specs.Prelude.{All, is_some}
use Rattle.std.proofs.lemmas.List.{take-append-le, drop-append-le, take_all, drop_at, map_push, get_or_at, get_or_append_left}
use Rattle.std.proofs.lemmas.List.Elements.{All-head, All-tail, All-push, All-weaker}
use Rattle.run_records.specs.declared.edit.Edit.{Edit}
use Rattle.run_records.specs.declared.entry.EntryKind.{EntryKind}
use Rattle.run_records.specs.declared.entry.EntryKind.TheVariants.{Edited}
use Rattle.run_records.specs.declared.head.Head.{Head}
use Rattle.run_records.specs.Entries.{Entry, edit_of, MayHaveStamps}
use Rattle.run_records.specs.Heads.{step_of, step_in, edits_in, place_of, no_edit, kind_at, entry_of, entries_of, IsPlaced, StandsIn}
use Rattle.run_records.proofs.OneSpelling.{edited_kind}

-- the stamps of a head stay when more are added after all
stamps_stay : (placed : Option EntryKind) (first count edits : ℕ) (stamps more : List ℕ) → IsPlaced placed first count (length stamps) edits → take count (drop first (stamps ++ more)) ≡ take count (drop first stamps)
stamps_stay (Some kind) first count edits stamps more within =
    let behind : drop first (stamps ++ more) ≡ drop first stamps ++ more = drop-append-le first stamps more (omega arith) in
    ap (take count) behind ∙ take-append-le count (drop first stamps) more (omega (arith, length-drop first stamps))
stamps_stay None first count edits stamps more within = rw (within.0) refl

-- the kind of a head stays when more edits are added after all
kind_stays : (placed : Option EntryKind) (first count stamps : ℕ) (edits new : List Edit) → IsPlaced placed first count stamps (length edits) → kind_at (edits ++ new) first placed ≡ kind_at edits first placed
kind_stays (Some kind) first count stamps edits new within = refl
kind_stays None first count stamps edits new within = ap Edited (get_or_append_left edits new no_edit first within.1)

-- the record of a head stays when more stamps and edits are added after all
entry_stays : (stamps more : List ℕ) (edits new : List Edit) (head : Head) → StandsIn stamps edits head → entry_of (stamps ++ more) (edits ++ new) head ≡ entry_of stamps edits head
entry_stays stamps more edits new head stands =
    let own = stamps_stay (step_of head.kind) head.first head.count (length edits) stamps more stands.within in
    let kind = kind_stays (step_of head.kind) head.first head.count (length stamps) edits new stands.within in
    λ i. record { path = head.path; kind = kind i; stamps = own i }

-- the records of all heads stay when more stamps and edits are added after all
entries_stay : (stamps more : List ℕ) (edits new : List Edit) (heads : List Head) → All (StandsIn stamps edits) heads → entries_of (stamps ++ more) (edits ++ new) heads ≡ entries_of stamps edits heads
entries_stay stamps more edits new [] stand = refl
entries_stay stamps more edits new (head ∷ heads) stand =
    let first = entry_stays stamps more edits new head (All-head (StandsIn stamps edits) head heads stand) in
    let others = entries_stay stamps more edits new heads (All-tail (StandsIn stamps edits) head heads stand) in
    λ i. first i ∷ others i

-- the kind of a head that is added with its edit after those before is the kind given
kind_put : (kind : EntryKind) (x : Option Edit) → edit_of kind ≡ x → (stamps : ℕ) (edits : List Edit)
    → kind_at (edits ++ edits_in x) (place_of (step_in kind) stamps (length edits)) (step_in kind) ≡ kind
kind_put kind None e stamps edits = rw e refl
kind_put kind (Some edit) e stamps edits = rw e (ap Edited (get_or_at edits edit [] no_edit (length edits) refl) ∙ sym (edited_kind kind edit e))

-- the stamps that are added with a head are those that it stands for
stamps_put : (kind : EntryKind) (x : Option Edit) → edit_of kind ≡ x → (before stamps : List ℕ) (edits : ℕ) → MayHaveStamps kind stamps
    → take (length stamps) (drop (place_of (step_in kind) (length before) edits) (before ++ stamps)) ≡ stamps
stamps_put kind None e before stamps edits bare =
    rw e (ap (take (length stamps)) (drop_at before stamps (length before) refl) ∙ take_all (length stamps) stamps (omega arith))
stamps_put kind (Some edit) e before stamps edits bare = rw (bare (ap is_some e)) refl

-- with one head more, its stamps or its edit after the others, there is one record more at the end
pub entries_push : (before : List ℕ) (edits : List Edit) (heads : List Head) (head : Head) (entry : Entry) → All (StandsIn before edits) heads → MayHaveStamps entry.kind entry.stamps → head.path ≡ entry.path
    → step_of head.kind ≡ step_in entry.kind → head.count ≡ length entry.stamps → head.first ≡ place_of (step_in entry.kind) (length before) (length edits)
    → entries_of (before ++ entry.stamps) (edits ++ edits_in (edit_of entry.kind)) (heads ++ head ∷ []) ≡ entries_of before edits heads ++ entry ∷ []
entries_push before edits heads head entry stand bare path kind count first =
    let own : take head.count (drop head.first (before ++ entry.stamps)) ≡ entry.stamps =
    (λ i. take (count i) (drop (first i) (before ++ entry.stamps))) ∙ stamps_put entry.kind (edit_of entry.kind) refl before entry.stamps (length edits) bare in
    let same : kind_at (edits ++ edits_in (edit_of entry.kind)) head.first (step_of head.kind) ≡ entry.kind =
    (λ i. kind_at (edits ++ edits_in (edit_of entry.kind)) (first i) (kind i)) ∙ kind_put entry.kind (edit_of entry.kind) refl (length before) edits in
    let last : entry_of (before ++ entry.stamps) (edits ++ edits_in (edit_of entry.kind)) head ≡ entry = λ i. record { path = path i; kind = same i; stamps = own i } in
    map_push (entry_of (before ++ entry.stamps) (edits ++ edits_in (edit_of entry.kind))) heads head
    ∙ (λ i. entries_stay before entry.stamps edits (edits_in (edit_of entry.kind)) heads stand i ++ last i ∷ [])

-- the place of stamps or of an edit stays one when the lists grow
placed_more : (placed : Option EntryKind) (first count stamps more edits new : ℕ) → IsPlaced placed first count stamps edits → IsPlaced placed first count (stamps + more) (edits + new)
placed_more (Some kind) first count stamps more edits new within = omega arith
placed_more None first count stamps more edits new within = (within.0, omega (arith, within.1))

-- a head that stands in the lists still does when they grow
stands_more : (stamps more : List ℕ) (edits new : List Edit) (head : Head) → StandsIn stamps edits head → StandsIn (stamps ++ more) (edits ++ new) head
stands_more stamps more edits new head stands =
    let placed = placed_more (step_of head.kind) head.first head.count (length stamps) (length more) (length edits) (length new) stands.within in
    let long = sym (length-append stamps more) in
    let all = sym (length-append edits new) in
    record { few = stands.few; within = subst (λ n. IsPlaced (step_of head.kind) head.first head.count n (length (edits ++ new))) long (subst (λ n. IsPlaced (step_of head.kind) head.first head.count (length stamps + length more) n) all placed) }

-- a new head gets a place at the ends of the lists
placed_put : (kind : EntryKind) (x : Option Edit) → edit_of kind ≡ x → (count stamps edits : ℕ) → (is_some x ≡ true → count ≡ 0)
    → IsPlaced (step_in kind) (place_of (step_in kind) stamps edits) count (stamps + count) (edits + length (edits_in x))
placed_put kind None e count stamps edits bare = rw e (omega arith)
placed_put kind (Some edit) e count stamps edits bare = rw e (bare refl, omega arith)

-- after a record was added each head stands in the lists, the new one too
pub stand_push : (before : List ℕ) (edits : List Edit) (heads : List Head) (head : Head) (entry : Entry) → All (StandsIn before edits) heads → MayHaveStamps entry.kind entry.stamps → length entry.stamps ≤ 32
    → step_of head.kind ≡ step_in entry.kind → head.count ≡ length entry.stamps → head.first ≡ place_of (step_in entry.kind) (length before) (length edits)
    → All (StandsIn (before ++ entry.stamps) (edits ++ edits_in (edit_of entry.kind))) (heads ++ head ∷ [])
stand_push before edits heads head entry stand bare few kind count first =
    let stamps = before ++ entry.stamps in
    let all = edits ++ edits_in (edit_of entry.kind) in
    let none : is_some (edit_of entry.kind) ≡ true → length entry.stamps ≡ 0 = λ some. ap length (bare some) in
    let placed = placed_put entry.kind (edit_of entry.kind) refl (length entry.stamps) (length before) (length edits) none in
    let long = sym (length-append before entry.stamps) in
    let many = sym (length-append edits (edits_in (edit_of entry.kind))) in
    let within : IsPlaced (step_of head.kind) head.first head.count (length stamps) (length all) =
    subst (λ p. IsPlaced p head.first head.count (length stamps) (length all)) (sym kind) (subst (λ n. IsPlaced (step_in entry.kind) n head.count (length stamps) (length all)) (sym first) (subst (λ n. IsPlaced (step_in entry.kind) (place_of (step_in entry.kind) (length before) (length edits)) n (length stamps) (length all)) (sym count)
    (subst (λ n. IsPlaced (step_in entry.kind) (place_of (step_in entry.kind) (length before) (length edits)) (length entry.stamps) n (length all)) long
    (subst (λ n. IsPlaced (step_in entry.kind) (place_of (step_in entry.kind) (length before) (length edits)) (length entry.stamps) (length before + length entry.stamps) n) many placed)))) in
    let last : StandsIn stamps all head = record { few = omega (arith, few, count); within = within } in
    All-push (StandsIn stamps all) heads head (All-weaker (StandsIn before edits) (StandsIn stamps all) (λ h. stands_more before entry.stamps edits (edits_in (edit_of entry.kind)) h) heads stand) last

-- a kind is one edit at most
pub edits_few : (x : Option Edit) → length (edits_in x) ≤ 1
edits_few None = omega arith
edits_few (Some edit) = omega arith
