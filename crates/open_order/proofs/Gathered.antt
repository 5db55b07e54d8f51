-- Where a sound order has no jump that strays, each block of a number that stands twice lies in the stretch
-- of each jump that may mean it. For the law of src/laws.rt.
use Rattle.std.proofs.Common.{◌≡◌, ◌≢◌, ℕ, zero, suc, ◌+◌, ◌-◌, ◌<◌, ◌≤◌, ◌==◌, ◌&&◌, ◌||◌, ◌⊎◌, inl, inr, Bool, true, false, not, cond, List, [], ◌∷◌, ◌++◌, length, take, drop, get_or, Option, Some, None, refl, ap, sym, subst, ◌∙◌, arith, length-append}
use Rattle.std.specs.List.{slice_get, list_any}
use Rattle.std.specs.Option.{option_to_list}
use Rattle.std.proofs.lemmas.Bool.{eqb-true, eq-eqb}
use Rattle.nc_number.proofs.Bools.{neither, or_true}
use Rattle.nc_number.proofs.Counts.{le_or_lt}
use Rattle.block_order.specs.declared.control.Control.{Control}
use Rattle.block_order.specs.declared.control.Control.TheVariants as control
use Rattle.block_order.specs.declared.frame.Frame.{Frame}
use Rattle.block_order.specs.declared.label.Mark.TheVariants as mark
use Rattle.block_order.specs.declared.program.ControlBlock.{ControlBlock}
use Rattle.block_order.specs.declared.program.ControlProgram.{ControlProgram}
use Rattle.block_order.specs.Loud.{loud, mark_of, marks, stretch}
use Rattle.block_order.specs.Labels.{Counts, labels_ahead}
use Rattle.block_order.specs.Moves.{frame_at_block}
use Rattle.block_order.specs.Order.{blocks, blocks_of, program_of, control_of, control_at, main_number, has_sequence, first_numbered, or_else, seek}
use Rattle.block_order.specs.Steps.{IsPlace}
use Rattle.block_order.proofs.Faultless.{block_of_control}
use Rattle.block_order.proofs.KeepsLabels.{Counts-from}
use Rattle.block_order.proofs.LabelsAhead.{moves_kept, from-jump}
use Rattle.tape_flow.specs.declared.fault.FlowFault.{FlowFault}
use Rattle.open_order.specs.declared.counts.Counting.TheVariants.{Marks}
use Rattle.open_order.specs.declared.doubles.Double.{Double}
use Rattle.open_order.specs.Contours.{or_later}
use Rattle.open_order.specs.Counts.{is_mark, count_behind, counts_from}
use Rattle.open_order.specs.Doubles.{is_elsewhere, double_at, doubles_from, may_mean, strays, stray_at, strays_from, stretches, doubles, is_counting, program_fault, programs_fault, double_fault}
use Rattle.open_order.specs.Together.{HasNumber, MayLead, AreTogether}

-- If there is no first fault and no later one, there is none of either.
no_first : (first later : Option FlowFault) → or_later first later ≡ None → first ≡ None
no_first None later e = refl
no_first (Some fault) later e = absurd cc

no_later : (first later : Option FlowFault) → or_later first later ≡ None → later ≡ None
no_later None later e = e
no_later (Some fault) later e = absurd cc

-- The stretches.

-- A block has one mark if it is counted as one, else none.
one_mark : (loud : ℕ → Bool) (c : Control) → length (mark_of loud c) ≡ cond (is_mark loud c) 1 0
one_mark loud (control.Wait code) = refl
one_mark loud control.End = refl
one_mark loud (control.Call q r) = go (loud q)
  where
    go : (b : Bool) → length (cond b (mark.Call q r ∷ []) []) ≡ cond b 1 0
    go true = refl
    go false = refl
one_mark loud control.Back = refl
one_mark loud control.Next = refl
one_mark loud (control.Goto n) = refl
one_mark loud (control.While m) = refl
one_mark loud (control.Do m) = refl
one_mark loud (control.EndLoop m) = refl
one_mark loud (control.BackTo n) = refl

-- A number with nothing added, or added to nothing, is itself.
plus_none : (n : ℕ) → n ≡ n + 0
plus_none n = omega arith

none_plus : (n : ℕ) → 0 + n ≡ n
none_plus n = omega arith

-- The count before a block is the number of its stretch.
count_is : (loud : ℕ → Bool) (n : ℕ) (bs : List ControlBlock) (k : ℕ) → k ≤ length bs
    → get_or (counts_from loud Marks n bs) k 0 ≡ n + length (marks loud (take k bs))
count_is loud n [] zero within = plus_none n
count_is loud n (b ∷ bs) zero within = plus_none n
count_is loud n [] (suc k) within = absurd (omega (arith, within))
count_is loud n (b ∷ bs) (suc k) within =
    let later = count_is loud (count_behind loud Marks n b.control) bs k (omega (arith, within)) in
    let both = length-append (mark_of loud b.control) (marks loud (take k bs)) in
    let own = one_mark loud b.control in
    later ∙ go (is_mark loud b.control) (length (mark_of loud b.control)) own
    ∙ ap (λ (m : ℕ). n + m) (sym both)
  where
    go : (mark : Bool) (own : ℕ) → own ≡ cond mark 1 0
        → cond mark (n + 1) n + length (marks loud (take k bs)) ≡ n + (own + length (marks loud (take k bs)))
    go true own e = let one : own ≡ 1 = e in omega (arith, one)
    go false own e = let none : own ≡ 0 = e in omega (arith, none)

-- Numbered blocks.

-- A block that is there is within the list.
within_of : (bs : List ControlBlock) (k : ℕ) (b : ControlBlock) → slice_get bs k ≡ Some b → k < length bs
within_of [] k b e = absurd cc
within_of (x ∷ bs) zero b e = omega arith
within_of (x ∷ bs) (suc k) b e = let w = within_of bs k b e in omega (arith, w)

-- A numbered block is one of those behind the first ones.
has_behind : (bs : List ControlBlock) (j k m n : ℕ) → m ≡ j + k → HasNumber bs n m → HasNumber (drop j bs) n k
has_behind bs zero k m n e h = let same : m ≡ k = omega (arith, e) in subst (λ (i : ℕ). HasNumber bs n i) same h
has_behind [] (suc j) k m n e (b, is, has) = absurd (let f : ◌≡◌ {A = Option ControlBlock} None (Some b) = is in cc)
has_behind (b ∷ bs) (suc j) k zero n e h = absurd (omega (arith, e))
has_behind (b ∷ bs) (suc j) k (suc m) n e h = has_behind bs j k m n (omega (arith, e)) h

-- The search finds a block that is no later than a given one.
found_by : (bs : List ControlBlock) (p n k : ℕ) → HasNumber bs n k
    → (t : ℕ) × (first_numbered bs p n ≡ Some t) × (p ≤ t) × (t ≤ p + k)
found_by [] p n k (b, is, has) = absurd (let f : ◌≡◌ {A = Option ControlBlock} None (Some b) = is in cc)
found_by (x ∷ bs) p n zero (b, is, has) =
    let same : x ≡ b = cc in
    let own : has_sequence n x.sequence ≡ true = ap (λ (y : ControlBlock). has_sequence n y.sequence) same
    ∙ ap (λ s. has_sequence n s) has ∙ eq-eqb n n refl in
    (p, ap (λ (v : Bool). cond v (Some p) (first_numbered bs (suc p) n)) own, omega arith, omega arith)
found_by (x ∷ bs) p n (suc k) h = go (has_sequence n x.sequence) (found_by bs (suc p) n k h)
  where
    go : (v : Bool) → (t : ℕ) × (first_numbered bs (suc p) n ≡ Some t) × (suc p ≤ t) × (t ≤ suc p + k)
        → (t : ℕ) × (cond v (Some p) (first_numbered bs (suc p) n) ≡ Some t) × (p ≤ t) × (t ≤ p + suc k)
    go true later = (p, refl, omega arith, omega arith)
    go false (t, is, low, high) = (t, is, omega (arith, low), omega (arith, high))

-- A search that ends at another place is elsewhere.
elsewhere : (place t : ℕ) (o : Option ℕ) → o ≡ Some t → (t ≡ place → ⊥) → is_elsewhere place o ≡ true
elsewhere place t o is apart = go (t == place) refl
  where
    go : (v : Bool) → (t == place) ≡ v → is_elsewhere place o ≡ true
    go true e = absurd (apart (eqb-true t place e))
    go false e = ap (λ x. is_elsewhere place x) is ∙ ap not e

-- The search finds no block before the first of its list.
found_low : (bs : List ControlBlock) (p n t : ℕ) → first_numbered bs p n ≡ Some t → p ≤ t
found_low [] p n t e = absurd cc
found_low (b ∷ bs) p n t e = go (has_sequence n b.sequence) (λ f. found_low bs (suc p) n t f) e
  where
    go : (v : Bool) → (first_numbered bs (suc p) n ≡ Some t → suc p ≤ t) → cond v (Some p) (first_numbered bs (suc p) n) ≡ Some t → p ≤ t
    go true later f = let k : p ≡ t = cc in omega (arith, k)
    go false later f = let w = later f in omega (arith, w)

-- The search for the number of a block ends elsewhere, if another block has the number.
goes_elsewhere : (bs : List ControlBlock) (one other n : ℕ) → HasNumber bs n other → one ≢ other
    → is_elsewhere one (seek bs one n) ≡ true
goes_elsewhere bs one other n h apart = go (first_numbered (drop (suc one) bs) (suc one) n) refl (le_or_lt other one)
  where
    go : (o : Option ℕ) → first_numbered (drop (suc one) bs) (suc one) n ≡ o → (other ≤ one) ⊎ (one < other)
        → is_elsewhere one (seek bs one n) ≡ true
    go (Some t) is side =
        let low = found_low (drop (suc one) bs) (suc one) n t is in
        elsewhere one t (seek bs one n) (ap (λ o. or_else o (first_numbered bs 0 n)) is) (λ e. absurd (omega (arith, low, e)))
    go None is (inl low) =
        let f = found_by bs 0 n other h in
        elsewhere one f.0 (seek bs one n) (ap (λ o. or_else o (first_numbered bs 0 n)) is ∙ f.1)
        (λ e. apart (omega (arith, f.3, low, e)))
    go None is (inr less) =
        let f = found_by (drop (suc one) bs) (suc one) n (other - suc one)
        (has_behind bs (suc one) (other - suc one) other n (omega (arith, less)) h) in
        absurd (let g : ◌≡◌ {A = Option ℕ} None (Some f.0) = sym is ∙ f.1 in cc)

-- The blocks whose numbers stand twice, and the jumps that stray.

-- If none of one block, which there may be, and of more passes a test, none of these passes.
rest_none : (f : Double → Bool) (o : Option Double) (more : List Double) → list_any f (option_to_list o ++ more) ≡ false
    → list_any f more ≡ false
rest_none f None more e = e
rest_none f (Some d) more e = (neither (f d) (list_any f more) e).1

-- The block of this number at a place.
abbrev numbered : List ℕ → ℕ → ℕ → Double
numbered counts n place = record { number = n; stretch = get_or counts place 0 }

-- A block whose number stands twice is listed: what holds of none of the list does not hold of it.
double_there : (f : Double → Bool) (bs : List ControlBlock) (counts : List ℕ) (start : ℕ) (rest : List ControlBlock) (k n place : ℕ)
    → place ≡ start + k → HasNumber rest n k → is_elsewhere place (seek bs place n) ≡ true
    → list_any f (doubles_from bs counts start rest) ≡ false → f (numbered counts n place) ≡ false
double_there f bs counts start [] k n place e (own, is, has) far none =
    absurd (let g : ◌≡◌ {A = Option ControlBlock} None (Some own) = is in cc)
double_there f bs counts start (b ∷ rest) zero n place e (own, is, has) far none =
    let same : place ≡ start = omega (arith, e) in
    let here : b ≡ own = cc in
    let sequence : b.sequence ≡ Some n = ap (λ (x : ControlBlock). x.sequence) here ∙ has in
    let there : is_elsewhere start (seek bs start n) ≡ true = subst (λ (i : ℕ). is_elsewhere i (seek bs i n) ≡ true) same far in
    let listed : double_at bs counts start b.sequence ≡ Some (numbered counts n start) =
    ap (λ (s : Option ℕ). double_at bs counts start s) sequence
    ∙ ap (λ (v : Bool). cond v (Some (numbered counts n start)) None) there in
    let all : list_any f (option_to_list (Some (numbered counts n start)) ++ doubles_from bs counts (suc start) rest) ≡ false =
    sym (ap (λ (o : Option Double). list_any f (option_to_list o ++ doubles_from bs counts (suc start) rest)) listed) ∙ none in
    subst (λ (i : ℕ). f (numbered counts n i) ≡ false) (sym same)
    (neither (f (numbered counts n start)) (list_any f (doubles_from bs counts (suc start) rest)) all).0
double_there f bs counts start (b ∷ rest) (suc k) n place e h far none =
    double_there f bs counts (suc start) rest k n place (omega (arith, e)) h far
    (rest_none f (double_at bs counts start b.sequence) (doubles_from bs counts (suc start) rest) none)

-- A test without a fault failed.
not_strayed : (v : Bool) (fault : FlowFault) → cond v (Some fault) None ≡ None → v ≡ false
not_strayed true fault e = absurd cc
not_strayed false fault e = refl

-- A block that has no such fault has no jump that strays.
none_strays : (tape : List ControlProgram) (program : ℕ) (ds : List Double) (s : ℕ) (b : ControlBlock)
    → stray_at tape program ds s b ≡ None → strays (may_mean tape program b.control) s ds ≡ false
unfolding stray_at
none_strays tape program ds s b e = not_strayed (strays (may_mean tape program b.control) s ds) _ e

-- Where no block strays, that at a place does not.
none_strays_at : (tape : List ControlProgram) (program : ℕ) (counts : List ℕ) (ds : List Double) (start : ℕ) (rest : List ControlBlock)
    (k place : ℕ) (c : Control) → place ≡ start + k → control_at rest k ≡ Some c
    → strays_from tape program counts ds start rest ≡ None → strays (may_mean tape program c) (get_or counts place 0) ds ≡ false
none_strays_at tape program counts ds start [] k place c e is none = absurd cc
none_strays_at tape program counts ds start (b ∷ rest) zero place c e is none =
    let same : place ≡ start = omega (arith, e) in
    let own : b.control ≡ c = cc in
    let here : strays (may_mean tape program b.control) (get_or counts start 0) ds ≡ false =
    none_strays tape program ds (get_or counts start 0) b
    (no_first (stray_at tape program ds (get_or counts start 0) b) (strays_from tape program counts ds (suc start) rest) none) in
    subst (λ (i : ℕ). strays (may_mean tape program c) (get_or counts i 0) ds ≡ false) (sym same)
    (subst (λ (x : Control). strays (may_mean tape program x) (get_or counts start 0) ds ≡ false) own here)
none_strays_at tape program counts ds start (b ∷ rest) (suc k) place c e is none =
    none_strays_at tape program counts ds (suc start) rest k place c (omega (arith, e)) is
    (no_later (stray_at tape program ds (get_or counts start 0) b) (strays_from tape program counts ds (suc start) rest) none)

-- Where no program has such a fault, one that has a block has none.
own_none : (all tape : List ControlProgram) (n k : ℕ) (c : Control) → control_at (blocks tape n) k ≡ Some c
    → programs_fault all tape ≡ None → program_fault all n ≡ None
own_none all [] n k c is none = absurd cc
own_none all (p ∷ rest) n k c is none =
    go (p.number == n) refl is
    (λ f. own_none all rest n k c f (no_later (program_fault all p.number) (programs_fault all rest) none))
  where
    go : (v : Bool) → (p.number == n) ≡ v → control_at (blocks_of (cond v (Some p) (program_of rest n))) k ≡ Some c
        → (control_at (blocks rest n) k ≡ Some c → program_fault all n ≡ None) → program_fault all n ≡ None
    go true e f later =
        subst (λ (i : ℕ). program_fault all i ≡ None) (eqb-true p.number n e)
        (no_first (program_fault all p.number) (programs_fault all rest) none)
    go false e f later = later f

-- The law.

-- Labels depend on a program that counts.
counting : (tape : List ControlProgram) (program : ℕ) → Counts tape program → is_counting tape program ≡ true
counting tape program (inl e) = ap (λ (v : Bool). v || loud tape program) (eq-eqb program (main_number tape) e)
counting tape program (inr e) = ap (λ (v : Bool). (program == main_number tape) || v) e ∙ or_true (program == main_number tape)

-- What is not elsewhere, though it is meant, is here.
is_here : (v w : Bool) → (not v && w) ≡ false → w ≡ true → v ≡ true
is_here true w e f = refl
is_here false true e f = absurd cc
is_here false false e f = absurd cc

-- A jump and a block of its number that stands twice lie in one stretch.
in_one_stretch : (tape : List ControlProgram) → double_fault tape ≡ None → (program place target : ℕ) → Counts tape program
    → MayLead tape program place target
    → stretch (loud tape) (blocks tape program) place ≡ stretch (loud tape) (blocks tape program) target
in_one_stretch tape none program place target depends m =
    let bs : List ControlBlock = blocks tape program in
    let counts : List ℕ = stretches tape program in
    let here : ℕ = get_or counts place 0 in
    let inside : strays_from tape program counts (doubles tape program) 0 bs ≡ None =
    sym (ap (λ (v : Bool). cond v (strays_from tape program counts (doubles tape program) 0 bs) None) (counting tape program depends))
    ∙ own_none tape tape program place m.control m.is none in
    let clear : strays (may_mean tape program m.control) here (doubles tape program) ≡ false =
    none_strays_at tape program counts (doubles tape program) 0 bs place place m.control (omega arith) m.is inside in
    let each : (not (get_or counts target 0 == here) && may_mean tape program m.control m.number) ≡ false =
    double_there (λ d. not (d.stretch == here) && may_mean tape program m.control d.number) bs counts 0 bs target m.number target
    (omega arith) m.there (goes_elsewhere bs target m.other m.number m.too m.apart) clear in
    let same : get_or counts target 0 ≡ here =
    eqb-true (get_or counts target 0) here
    (is_here (get_or counts target 0 == here) (may_mean tape program m.control m.number) each m.means) in
    let own = block_of_control bs place m.control m.is in
    let place_in = within_of bs place own.0 own.1 in
    let target_in = within_of bs target m.there.0 m.there.1 in
    let one = count_is (loud tape) 0 bs place (omega (arith, place_in)) in
    let other = count_is (loud tape) 0 bs target (omega (arith, target_in)) in
    sym (one ∙ none_plus (stretch (loud tape) bs place)) ∙ (sym same ∙ (other ∙ none_plus (stretch (loud tape) bs target)))

-- So a jump to any of its blocks leaves the labels ahead as they were.
pub together : (tape : List ControlProgram) → double_fault tape ≡ None → AreTogether tape
together tape none = record {
  stretches = in_one_stretch tape none;
  labels = λ f stack target place leads.
      moves_kept tape f stack target
      (λ e. from-jump tape f.program f.block target
      (in_one_stretch tape none f.program f.block target (Counts-from tape f stack place e) leads));
}

-- An order without a late fault has no jump that strays.
pub together_in : (tape : List ControlProgram) (contours : Option FlowFault) → or_later (double_fault tape) contours ≡ None
    → AreTogether tape
together_in tape contours late = together tape (no_first (double_fault tape) contours late)
