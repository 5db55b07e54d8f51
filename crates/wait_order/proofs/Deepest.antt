-- The first ninth call of a chain is the least of its programs' first ones. A loud program comes to
-- a wait or an end, itself or by its calls; the others are quiet. For the proofs of src/deep.rt.
use Rattle.std.proofs.Common.{◌≡◌, ◌↔◌, ℕ, ◌+◌, ◌<◌, ◌≤◌, ◌⊎◌, inl, inr, Bool, true, false, List, length, Option, Some, None, slice_get, slice_index_or, ap, sym, subst, ◌∙◌, arith}
use Rattle.std.specs.Prelude.{IsTrue}
use Rattle.block_order.specs.declared.program.ControlBlock.{ControlBlock}
use Rattle.block_order.specs.declared.program.ControlProgram.{ControlProgram}
use Rattle.block_order.specs.Order.{blocks}
use Rattle.wait_order.specs.Deep.{IsCallLine, IsReachedLine, IsDeepBelow, IsDeepLine}
use Rattle.wait_order.specs.Depth.{IsLoudCall, AreReached}
use Rattle.block_order.specs.ProgramPlaces.{is_flagged}
use Rattle.wait_order.specs.TapeFaults.{AreProgramsOf}
use Rattle.wait_order.specs.Waiting.{HasRisingLines, IsLeast}
use Rattle.nc_number.specs.Options.{lesser}
use Rattle.nc_number.proofs.Counts.{last_or_before, le_or_lt}
use Rattle.wait_order.proofs.Counted.{on_tape}
use Rattle.wait_order.proofs.Leading.{stands_at}
use Rattle.wait_order.proofs.Least.{least_same, least_none, least_either}
use Rattle.wait_order.proofs.Strayed.{control_of_block}
use Rattle.block_order.proofs.Opened.{within_control}

-- None of the first i blocks is a call of a loud program.
abbrev pub NoneBelow : List ControlProgram → List ControlBlock → ℕ → Type 0
NoneBelow tape bs i = (k q : ℕ) (b : ControlBlock) → k < i → slice_get bs k ≡ Some b → IsLoudCall tape b.control q → ⊥

-- If the block i calls a loud program and none before it does, its line is the first such line.
pub call_here : (tape : List ControlProgram) (bs : List ControlBlock) (i : ℕ) (d : ControlBlock) → i < length bs → HasRisingLines bs
    → (q : ℕ) × IsLoudCall tape (slice_index_or bs i d).control q → NoneBelow tape bs i
    → IsLeast (IsCallLine tape bs) (Some (slice_index_or bs i d).line)
call_here tape bs i d within rising call none = record {
  holds = λ n e. (
    i,
    slice_index_or bs i d,
    call.0,
    stands_at bs i d within,
    call.1,
    let both : Some (slice_index_or bs i d).line ≡ Some n = e in let same : (slice_index_or bs i d).line ≡ n = cc in same,
  );
  least = λ n h. below n h;
}
  where
    below : (n : ℕ) → IsCallLine tape bs n → (slice_index_or bs i d).line ≤ n
    below n (k, b, q, at, l, e) = elim (le_or_lt i k) [
      | inl le ↦ subst (λ m. (slice_index_or bs i d).line ≤ m) e (rising i k (slice_index_or bs i d) b le (stands_at bs i d within) at)
      | inr less ↦ absurd (none k q b less at l)
    ]

-- If the block i calls none either, none of the first i + 1 does.
pub none_more : (tape : List ControlProgram) (bs : List ControlBlock) (i : ℕ) (d : ControlBlock) (is : Bool) → i < length bs
    → IsTrue is ↔ ((q : ℕ) × IsLoudCall tape (slice_index_or bs i d).control q) → is ≡ false → NoneBelow tape bs i
    → NoneBelow tape bs (i + 1)
none_more tape bs i d is within means not_so none k q b below at l = elim (last_or_before k i below) [
  | inl e ↦
      let both : Some b ≡ Some (slice_index_or bs i d) = sym at ∙ (ap (λ j. slice_get bs j) e ∙ stands_at bs i d within) in
      let same : b ≡ slice_index_or bs i d = cc in
      let t : is ≡ true = means.1 (q, subst (λ x. IsLoudCall tape x.control q) same l) in
      absurd (let clash : false ≡ true = sym not_so ∙ t in cc)
  | inr less ↦ none k q b less at l
]

-- If none of the blocks calls a loud program, they have no such line.
pub call_nowhere : (tape : List ControlProgram) (bs : List ControlBlock) (n : ℕ) → n ≡ length bs → NoneBelow tape bs n
    → IsLeast (IsCallLine tape bs) None
call_nowhere tape bs n all none = least_none {P = IsCallLine tape bs} no_line
  where
    no_line : (m : ℕ) → IsCallLine tape bs m → ⊥
    no_line m (k, b, q, at, l, e) =
        none k q b (let within = within_control bs k b.control (control_of_block bs k b at) in omega arith) at l

-- The lesser of the first lines of the first i programs and of one more is that of the first i + 1.
pub deep_more : (tape : List ControlProgram) (reached : List Bool) (i : ℕ) (p : ControlProgram) (a b : Option ℕ) → slice_get tape i ≡ Some p
    → IsLeast (IsDeepBelow tape reached i) a → IsLeast (IsReachedLine tape reached p) b
    → IsLeast (IsDeepBelow tape reached (i + 1)) (lesser a b)
deep_more tape reached i p a b at l r =
    least_either {R = IsDeepBelow tape reached (i + 1)} a b l r (λ n h. (let below = h.2 in (h.0, h.1, omega arith, h.3, h.4)))
    (λ n h. (i, p, omega arith, at, h)) either
  where
    here : (n t : ℕ) (q : ControlProgram) → slice_get tape t ≡ Some q → IsReachedLine tape reached q n → t ≡ i → IsReachedLine tape reached p n
    here n t q is h e =
        let both : Some q ≡ Some p = sym is ∙ (ap (λ k. slice_get tape k) e ∙ at) in
        let same : q ≡ p = cc in
        subst (λ x. IsReachedLine tape reached x n) same h

    either : (n : ℕ) → IsDeepBelow tape reached (i + 1) n → IsDeepBelow tape reached i n ⊎ IsReachedLine tape reached p n
    either n (t, q, below, is, h) = elim (last_or_before t i below) [
      | inl e ↦ inr (here n t q is h e)
      | inr less ↦ inl (t, q, less, is, h)
    ]

-- The first line among all programs that eight calls reach is that of the first ninth call.
pub deep_all : (tape : List ControlProgram) (reached : List Bool) (n : ℕ) (a : Option ℕ) → n ≡ length tape → AreProgramsOf tape
    → AreReached tape 8 reached → IsLeast (IsDeepBelow tape reached n) a → IsLeast (IsDeepLine tape) a
deep_all tape reached n a all own are l = least_same {R = IsDeepLine tape} a l to from
  where
    to : (m : ℕ) → IsDeepBelow tape reached n m → IsDeepLine tape m
    to m (k, p, below, at, (flag, line)) =
        (p.number, (are.each p.number).0 flag, subst (λ bs. IsCallLine tape bs m) (sym (own k p at).own) line)

    from : (m : ℕ) → IsDeepLine tape m → IsDeepBelow tape reached n m
    from m (q, by, (k, b, called, at, l, e)) =
        let on = on_tape tape q k b at in
        let same : blocks tape q ≡ on.program.blocks =
        ap (λ x. blocks tape x) (sym on.number) ∙ (own on.place on.program on.at).own in
        let within = on.within in (
          on.place,
          on.program,
          omega arith,
          on.at,
          (
            subst (λ x. is_flagged tape reached x ≡ true) (sym on.number) ((are.each q).1 by),
            subst (λ bs. IsCallLine tape bs m) same (k, b, called, at, l, e),
          ),
        )
