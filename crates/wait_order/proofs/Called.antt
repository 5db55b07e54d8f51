-- What the flags of the called programs stand for after one block, one program, or one call more. A
-- loud program comes to a wait or an end, itself or by its calls; the others are quiet. For the
-- proofs of src/depth.rt.
use Rattle.std.proofs.Common.{◌≡◌, ◌↔◌, ℕ, zero, suc, ◌+◌, ◌<◌, ◌⊎◌, inl, inr, Bool, true, false, ◌==◌, List, [], ◌∷◌, ◌++◌, take, drop, length, replicate, Option, Some, None, slice_get, slice_index_or, slice_set, refl, ap, sym, subst, ◌∙◌, arith}
use Rattle.std.proofs.lemmas.Bool.Decides.{nat_tests}
use Rattle.block_order.specs.declared.control.Control.{Control}
use Rattle.block_order.specs.declared.control.Control.TheVariants.{Call}
use Rattle.block_order.specs.declared.program.ControlBlock.{ControlBlock}
use Rattle.block_order.specs.declared.program.ControlProgram.{ControlProgram}
use Rattle.block_order.specs.Order.{blocks, main_number, control_at}
use Rattle.block_order.specs.Loud.{loud}
use Rattle.block_order.specs.Faults.{IsReachedBy}
use Rattle.wait_order.specs.Depth.{IsLoudCall, HasLoudCallBelow, HasLoudCall, IsCalledBelow, IsCalledFrom, AreReached}
use Rattle.block_order.specs.ProgramPlaces.{place_of, flag_at, is_flagged}
use Rattle.wait_order.specs.TapeFaults.{AreProgramsOf}
use Rattle.block_order.proofs.Flags.{flag_set}
use Rattle.wait_order.proofs.Counted.{on_tape}
use Rattle.wait_order.proofs.Leading.{stands_at}
use Rattle.block_order.proofs.Faultless.{block_of_control}
use Rattle.wait_order.proofs.Strayed.{control_of_block}
use Rattle.block_order.proofs.Opened.{within_control}

-- To set the flag of the program that a block calls adds exactly the loud program of that call.
pub flag_loud : (tape : List ControlProgram) (flags : List Bool) (control : Control) (number repeats place : ℕ)
    → control ≡ Call number repeats → loud tape number ≡ true → place_of tape number ≡ Some place → place < length flags
    → (q : ℕ) → (is_flagged tape (slice_set flags place true) q ≡ true) ↔ ((is_flagged tape flags q ≡ true) ⊎ IsLoudCall tape control q)
flag_loud tape flags control number repeats place called is_loud is within q = (
  λ t. elim ((flag_set tape flags number place is within q).0 t) [
    | inl h ↦ inl h
    | inr e ↦ inr (repeats, called ∙ ap (λ k. Call k repeats) (sym e), ap (λ k. loud tape k) e ∙ is_loud)
  ],
  λ h. elim h [
    | inl t ↦ (flag_set tape flags number place is within q).1 (inl t)
    | inr l ↦ (flag_set tape flags number place is within q).1 (inr (number_of l))
  ],
)
  where
    number_of : IsLoudCall tape control q → q ≡ number
    number_of (r, e, l) = let both : Call q r ≡ Call number repeats = sym e ∙ called in cc

-- The first i + 1 blocks call what the first i do, or what the block i calls.
calls_more : (tape : List ControlProgram) (bs : List ControlBlock) (i q : ℕ) (d : ControlBlock) → i < length bs
    → HasLoudCallBelow tape bs (i + 1) q ↔ (HasLoudCallBelow tape bs i q ⊎ IsLoudCall tape (slice_index_or bs i d).control q)
calls_more tape bs i q d within = (λ h. there h, λ h. back h)
  where
    last : (t : ℕ) → t < i + 1 → (t ≡ i) ⊎ (t < i)
    last t h = grind arith

    here : control_at bs i ≡ Some (slice_index_or bs i d).control
    here = control_of_block bs i (slice_index_or bs i d) (stands_at bs i d within)

    there : HasLoudCallBelow tape bs (i + 1) q → HasLoudCallBelow tape bs i q ⊎ IsLoudCall tape (slice_index_or bs i d).control q
    there (k, r, below, at, l) = elim (last k below) [
      | inl e ↦ inr (r, (let both : Some (slice_index_or bs i d).control ≡ Some (Call q r) = sym here ∙ (ap (λ j. control_at bs j) (sym e) ∙ at) in cc), l)
      | inr less ↦ inl (k, r, less, at, l)
    ]

    back : HasLoudCallBelow tape bs i q ⊎ IsLoudCall tape (slice_index_or bs i d).control q → HasLoudCallBelow tape bs (i + 1) q
    back (inl (k, r, below, at, l)) = (k, r, omega arith, at, l)
    back (inr (r, e, l)) = (i, r, omega arith, here ∙ ap (λ c. Some c) e, l)

-- The flags after one block more stand for the loud programs that the first i + 1 blocks call.
pub flags_more : (tape : List ControlProgram) (bs : List ControlBlock) (i q : ℕ) (d : ControlBlock) (first now new : Bool) → i < length bs
    → (now ≡ true) ↔ ((first ≡ true) ⊎ HasLoudCallBelow tape bs i q)
    → (new ≡ true) ↔ ((now ≡ true) ⊎ IsLoudCall tape (slice_index_or bs i d).control q)
    → (new ≡ true) ↔ ((first ≡ true) ⊎ HasLoudCallBelow tape bs (i + 1) q)
flags_more tape bs i q d first now new within before step =
    let more = calls_more tape bs i q d within in (
      λ t. elim (step.0 t) [
        | inl n ↦ elim (before.0 n) [ inl f ↦ inl f | inr h ↦ inr (more.1 (inl h)) ]
        | inr c ↦ inr (more.1 (inr c))
      ],
      λ h. elim h [
        | inl f ↦ step.1 (inl (before.1 (inl f)))
        | inr c ↦ elim (more.0 c) [ inl h' ↦ step.1 (inl (before.1 (inr h'))) | inr l ↦ step.1 (inr l) ]
      ],
    )

-- The flags after one program more stand for what those of the first i + 1 programs call that are
-- flagged as reached.
pub called_more : (tape : List ControlProgram) (reached : List Bool) (i q : ℕ) (p : ControlProgram) (first now new : Bool)
    → slice_get tape i ≡ Some p → (now ≡ true) ↔ ((first ≡ true) ⊎ IsCalledBelow tape reached i q)
    → (new ≡ true) ↔ ((now ≡ true) ⊎ ((is_flagged tape reached p.number ≡ true) × HasLoudCall tape p.blocks q))
    → (new ≡ true) ↔ ((first ≡ true) ⊎ IsCalledBelow tape reached (i + 1) q)
called_more tape reached i q p first now new is before step = (λ t. there (step.0 t), λ h. back h)
  where
    last : (t : ℕ) → t < i + 1 → (t ≡ i) ⊎ (t < i)
    last t h = grind arith

    wider : IsCalledBelow tape reached i q → IsCalledBelow tape reached (i + 1) q
    wider (k, r, below, at, f, h) = (k, r, omega arith, at, f, h)

    there : (now ≡ true) ⊎ ((is_flagged tape reached p.number ≡ true) × HasLoudCall tape p.blocks q)
        → (first ≡ true) ⊎ IsCalledBelow tape reached (i + 1) q
    there (inl n) = elim (before.0 n) [ inl f ↦ inl f | inr h ↦ inr (wider h) ]
    there (inr (f, h)) = inr (i, p, omega arith, is, f, h)

    back : (first ≡ true) ⊎ IsCalledBelow tape reached (i + 1) q → new ≡ true
    back (inl f) = step.1 (inl (before.1 (inl f)))
    back (inr (k, r, below, at, f, h)) = elim (last k below) [
      | inl e ↦ step.1 (inr (let both : Some r ≡ Some p = sym at ∙ (ap (λ j. slice_get tape j) e ∙ is) in let same : r ≡ p = cc in
          (subst (λ x. is_flagged tape reached x.number ≡ true) same f, subst (λ x. HasLoudCall tape x.blocks q) same h)))
      | inr less ↦ step.1 (inl (before.1 (inr (k, r, less, at, f, h))))
    ]

-- The flags after all programs are those of the programs that one call more reaches.
called_all : (tape : List ControlProgram) (reached next : List Bool) → AreProgramsOf tape → length next ≡ length tape
    → ((q : ℕ) → (is_flagged tape next q ≡ true) ↔ IsCalledBelow tape reached (length tape) q) → IsCalledFrom tape reached next
called_all tape reached next own count each = record {
  count = count;
  each = λ q. (λ t. there q ((each q).0 t), λ h. (each q).1 (back q h));
}
  where
    there : (q : ℕ) → IsCalledBelow tape reached (length tape) q
        → (caller : ℕ) × (is_flagged tape reached caller ≡ true) × HasLoudCall tape (blocks tape caller) q
    there q (k, p, below, at, f, h) = (p.number, f, subst (λ bs. HasLoudCall tape bs q) (sym (own k p at).own) h)

    back : (q : ℕ) → (caller : ℕ) × (is_flagged tape reached caller ≡ true) × HasLoudCall tape (blocks tape caller) q
        → IsCalledBelow tape reached (length tape) q
    back q (caller, f, (k, r, below, at, l)) =
        let b = block_of_control (blocks tape caller) k (Call q r) at in
        let on = on_tape tape caller k b.0 b.1 in
        let e : blocks tape caller ≡ on.program.blocks =
        ap (λ n. blocks tape n) (sym on.number) ∙ (own on.place on.program on.at).own in (
          on.place,
          on.program,
          on.within,
          on.at,
          subst (λ n. is_flagged tape reached n ≡ true) (sym on.number) f,
          subst (λ bs. HasLoudCall tape bs q) e (k, r, below, at, l),
        )

-- What n calls reach and then one call more is what n + 1 calls reach.
pub reached_more : (tape : List ControlProgram) (reached next : List Bool) (n : ℕ) → AreReached tape n reached
    → IsCalledFrom tape reached next → AreReached tape (n + 1) next
reached_more tape reached next n before called = record {
  count = called.count;
  each = λ q. (let e : n + 1 ≡ suc n = omega arith in
      subst (λ m. (is_flagged tape next q ≡ true) ↔ IsReachedBy tape m (main_number tape) q) (sym e)
      (λ t. there q ((called.each q).0 t), λ h. (called.each q).1 (back q h)));
}
  where
    there : (q : ℕ) → (caller : ℕ) × (is_flagged tape reached caller ≡ true) × HasLoudCall tape (blocks tape caller) q
        → IsReachedBy tape (suc n) (main_number tape) q
    there q (caller, f, (k, r, below, at, l)) = (caller, k, r, (before.each caller).0 f, at, l)

    back : (q : ℕ) → IsReachedBy tape (suc n) (main_number tape) q
        → (caller : ℕ) × (is_flagged tape reached caller ≡ true) × HasLoudCall tape (blocks tape caller) q
    back q (caller, k, r, before', at, l) =
        (caller, (before.each caller).1 before', (k, r, within_control (blocks tape caller) k (Call q r) at, at, l))

-- A list of false entries has no flag.
none_flagged : (n i : ℕ) → slice_index_or (replicate n false) i false ≡ false
none_flagged zero i = refl
none_flagged (suc n) zero = refl
none_flagged (suc n) (suc i) = none_flagged n i

-- No place in a list of false entries has a flag.
no_flag : (n : ℕ) (o : Option ℕ) → flag_at (replicate n false) o ≡ false
no_flag n None = refl
no_flag n (Some i) = none_flagged n i

-- A list of n false entries has n entries.
length_none : (n : ℕ) → length (replicate n false) ≡ n
length_none zero = refl
length_none (suc n) = let e = length_none n in omega arith

-- If the list had no flag before, it flags exactly the programs that one call more reaches.
pub called_new : (tape : List ControlProgram) (reached old new next : List Bool) → AreProgramsOf tape → old ≡ replicate (length tape) false
    → length next ≡ length tape → next ≡ new
    → ((q : ℕ) → (is_flagged tape new q ≡ true) ↔ ((is_flagged tape old q ≡ true) ⊎ IsCalledBelow tape reached (length tape) q))
    → IsCalledFrom tape reached next
called_new tape reached old new next own none count same each = called_all tape reached next own count (λ q. pair q)
  where
    never : (q : ℕ) → is_flagged tape old q ≡ true → ⊥
    never q t =
        let f : is_flagged tape old q ≡ false = ap (λ fs. flag_at fs (place_of tape q)) none ∙ no_flag (length tape) (place_of tape q) in
        absurd cc

    pair : (q : ℕ) → (is_flagged tape next q ≡ true) ↔ IsCalledBelow tape reached (length tape) q
    pair q = (
      λ t. elim ((each q).0 (subst (λ fs. is_flagged tape fs q ≡ true) same t)) [ inl o ↦ absurd (never q o) | inr h ↦ h ],
      λ h. subst (λ fs. is_flagged tape fs q ≡ true) (sym same) ((each q).1 (inr h)),
    )

-- A list that was lent as a whole slice is afterwards what the slice became.
pub lent_whole : (old new : List Bool) (n : ℕ) → n ≡ length old → length new ≡ length old
    → take n (new ++ drop (length new) old) ≡ new
lent_whole old new n e f =
    let none : drop (length new) old ≡ [] = drop_all old (length new) f in
    ap (λ xs. take n (new ++ xs)) none ∙ take_all new n (omega arith)
  where
    drop_all : (xs : List Bool) (k : ℕ) → k ≡ length xs → drop k xs ≡ []
    drop_all [] zero h = refl
    drop_all [] (suc k) h = refl
    drop_all (x ∷ xs) zero h = absurd (omega arith)
    drop_all (x ∷ xs) (suc k) h = drop_all xs k (omega arith)

    take_all : (xs : List Bool) (k : ℕ) → k ≡ length xs → take k (xs ++ []) ≡ xs
    take_all [] zero h = refl
    take_all [] (suc k) h = refl
    take_all (x ∷ xs) zero h = absurd (omega arith)
    take_all (x ∷ xs) (suc k) h = ap (λ ys. x ∷ ys) (take_all xs k (omega arith))

-- The main program is the first of the tape.
main_place : (tape : List ControlProgram) → 0 < length tape → place_of tape (main_number tape) ≡ Some 0
main_place [] some = absurd (omega arith)
main_place (p ∷ ps) some = let same : (p.number == p.number) ≡ true = grind (arith, nat_tests) in rw same refl

-- If only the first flag is set, the flags are those of what no call at all reaches: the main
-- program.
pub main_flagged : (tape : List ControlProgram) (flags : List Bool) → 0 < length tape → flags ≡ replicate (length tape) false
    → length (slice_set flags 0 true) ≡ length tape → AreReached tape 0 (slice_set flags 0 true)
main_flagged tape flags some none count = record {
  count = count;
  each = λ q. (
    λ t. elim ((set q).0 t) [
      | inl h ↦ absurd (never q h)
      | inr e ↦ sym e
    ],
    λ e. (set q).1 (inr (sym e)),
  );
}
  where
    never : (q : ℕ) → is_flagged tape flags q ≡ true → ⊥
    never q t =
        let f : is_flagged tape flags q ≡ false = ap (λ fs. flag_at fs (place_of tape q)) none ∙ no_flag (length tape) (place_of tape q) in
        absurd cc

    within : 0 < length flags
    within = let e = ap length none in let f = length_none (length tape) in omega arith

    set : (q : ℕ) → (is_flagged tape (slice_set flags 0 true) q ≡ true) ↔ ((is_flagged tape flags q ≡ true) ⊎ (q ≡ main_number tape))
    set q = flag_set tape flags (main_number tape) 0 (main_place tape some) within q
