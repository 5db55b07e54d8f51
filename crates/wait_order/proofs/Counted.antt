-- The first line of a tape that may pass a wait is the least of its programs' first ones. A loud
-- program comes to a wait or an end, itself or by its calls; the others are quiet. For the proof of
-- `stray_line` (src/waiting.rt), and for Called, Deepest and Strayed.
use Rattle.std.proofs.Common.{◌≡◌, ℕ, suc, ◌+◌, ◌<◌, ◌⊎◌, inl, inr, Bool, true, false, ◌==◌, List, [], ◌∷◌, length, Option, Some, slice_get, refl, ap, sym, subst, ◌∙◌, arith}
use Rattle.std.proofs.lemmas.Bool.Decides.{nat_tests}
use Rattle.block_order.specs.declared.program.ControlBlock.{ControlBlock}
use Rattle.block_order.specs.declared.program.ControlProgram.{ControlProgram}
use Rattle.block_order.specs.Order.{blocks}
use Rattle.wait_order.specs.TapeFaults.{IsStrayLineBelow, IsTapeStrayLine}
use Rattle.wait_order.specs.Waiting.{IsStrayLine, IsLeast}
use Rattle.nc_number.specs.Options.{lesser}
use Rattle.wait_order.proofs.Least.{least_same, least_either}

-- The lesser of the first lines of the first i programs and of one more is that of the first i + 1.
pub least_program : (tape : List ControlProgram) (i : ℕ) (p : ControlProgram) (a b : Option ℕ) → slice_get tape i ≡ Some p
    → IsLeast (IsStrayLineBelow tape i) a → IsLeast (IsStrayLine tape p.number) b → IsLeast (IsStrayLineBelow tape (i + 1)) (lesser a b)
least_program tape i p a b at l r =
    least_either {R = IsStrayLineBelow tape (i + 1)} a b l r (λ n h. (let below = h.2 in (h.0, h.1, omega arith, h.3, h.4)))
    (λ n h. (i, p, omega arith, at, h)) either
  where
    last : (t : ℕ) → t < i + 1 → (t ≡ i) ⊎ (t < i)
    last t h = grind arith

    here : (n t : ℕ) (q : ControlProgram) → slice_get tape t ≡ Some q → IsStrayLine tape q.number n → t ≡ i → IsStrayLine tape p.number n
    here n t q is h e =
        let both : Some q ≡ Some p = sym is ∙ (ap (λ k. slice_get tape k) e ∙ at) in
        let same : q ≡ p = cc in
        subst (λ x. IsStrayLine tape x.number n) same h

    either : (n : ℕ) → IsStrayLineBelow tape (i + 1) n → IsStrayLineBelow tape i n ⊎ IsStrayLine tape p.number n
    either n (t, q, below, is, h) = elim (last t below) [
      | inl e ↦ inr (here n t q is h e)
      | inr less ↦ inl (t, q, less, is, h)
    ]

-- A program of this O number stands on the tape.
pub record IsOnTape (tape : List ControlProgram) (q : ℕ) : Type 0 where
  -- The place of the program.
  pub place : ℕ
  -- The program.
  pub program : ControlProgram
  -- The place is one of the tape's.
  pub within : place < length tape
  -- The program stands there.
  pub at : slice_get tape place ≡ Some program
  -- Its O number is q.
  pub number : program.number ≡ q

-- A number whose program has a block is that of a program on the tape.
pub on_tape : (tape : List ControlProgram) (q place : ℕ) (b : ControlBlock) → slice_get (blocks tape q) place ≡ Some b → IsOnTape tape q
on_tape [] q place b e = absurd cc
on_tape (p ∷ ps) q place b e = go (λ h. on_tape ps q place b h) (p.number == q) refl
  where
    go : (slice_get (blocks ps q) place ≡ Some b → IsOnTape ps q) → (x : Bool) → (p.number == q) ≡ x → IsOnTape (p ∷ ps) q
    go rest true y = record { place = 0; program = p; within = omega arith; at = refl; number = grind (arith, nat_tests) }
    go rest false y =
        let r = rest (rw y at e) in
        record { place = suc r.place; program = r.program; within = (let within = r.within in omega arith); at = r.at; number = r.number }

-- The first line among all programs is that of the tape.
pub least_tape : (tape : List ControlProgram) (a : Option ℕ) → IsLeast (IsStrayLineBelow tape (length tape)) a
    → IsLeast (IsTapeStrayLine tape) a
least_tape tape a l = least_same {R = IsTapeStrayLine tape} a l (λ n h. (h.1.number, h.4)) from
  where
    from : (n : ℕ) → IsTapeStrayLine tape n → IsStrayLineBelow tape (length tape) n
    from n (q, (place, b, stands, strays, e)) =
        let r = on_tape tape q place b stands in
        (r.place, r.program, r.within, r.at, subst (λ k. IsStrayLine tape k n) (sym r.number) (place, b, stands, strays, e))
