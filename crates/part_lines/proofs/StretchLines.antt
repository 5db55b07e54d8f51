-- The least line of a stretch, as the blocks of its program come one after another. A stretch is
-- the run of blocks up to a mark: a wait, an end, an M99 without a number, or a call that leads to
-- a wait or an end. `line` gives, by O number and place, the line of a block that is looked for,
-- `quiet` the least line of a quiet program (one that comes to no wait and no end). For ItemLines
-- and PartsLeast.
use Rattle.std.proofs.Common.{◌≡◌, ◌==◌, ℕ, zero, suc, ◌+◌, ◌<◌, ◌⊎◌, inl, inr, Bool, true, false, List, [], ◌∷◌, length, take, Option, Some, None, refl, sym, subst, arith, if◌then◌else◌}
use Rattle.std.proofs.lemmas.Bool.{eqb-true, eq-eqb, ne_eqb}
use Rattle.std.proofs.lemmas.List.{length-append}
use Rattle.block_order.specs.declared.control.Control.{Control}
use Rattle.block_order.specs.declared.control.Control.TheVariants.{Next, Goto, While, Do, EndLoop, Wait, End, Call, Back, BackTo}
use Rattle.block_order.specs.declared.label.Mark.{Mark}
use Rattle.block_order.specs.declared.label.Mark.TheVariants as mark
use Rattle.block_order.specs.declared.program.ControlBlock.{ControlBlock}
use Rattle.block_order.specs.declared.program.ControlProgram.{ControlProgram}
use Rattle.block_order.specs.Order.{blocks, control_at}
use Rattle.block_order.specs.Loud.{loud, mark_of, marks, stretch}
use Rattle.nc_number.specs.Options.{lesser}
use Rattle.part_lines.specs.Least.{IsLeast}
use Rattle.part_lines.specs.Lines.{called_line, seen_line, LineFrom}
use Rattle.part_lines.specs.Pieces.{AreQuietLines}
use Rattle.part_lines.proofs.Lesser.{least_either, least_same, least_one}
use Rattle.part_lines.proofs.InParts.{CalledLine, BlockLine, StretchLine}

-- The number of the stretch behind stretch t and these marks of one block.
abbrev pub next_number : List Mark → ℕ → ℕ
next_number [] t = t
next_number (m ∷ ms) t = suc t

-- The least line of stretch s among the blocks from place i on, of which the first lies in stretch
-- t.
abbrev pub stretch_line : (ℕ → Bool) → (ℕ → Control → Option ℕ) → List ControlBlock → ℕ → ℕ → ℕ → Option ℕ
stretch_line ld seen [] i t s = None
stretch_line ld seen (b ∷ bs) i t s =
    lesser (if t == s then seen i b.control else None) (stretch_line ld seen bs (suc i) (next_number (mark_of ld b.control) t) s)

-- A block is at most one mark.
one_mark : (ld : ℕ → Bool) (c : Control) → (mark_of ld c ≡ []) ⊎ ((m : Mark) × (mark_of ld c ≡ m ∷ []))
one_mark ld Next = inl refl
one_mark ld (Goto n) = inl refl
one_mark ld (While m) = inl refl
one_mark ld (Do m) = inl refl
one_mark ld (EndLoop m) = inl refl
one_mark ld (Wait code) = inr (mark.Wait code, refl)
one_mark ld End = inr (mark.End, refl)
one_mark ld Back = inr (mark.Back, refl)
one_mark ld (BackTo n) = inl refl
one_mark ld (Call q r) = go (ld q) refl
  where
    go : (b : Bool) → ld q ≡ b → (mark_of ld (Call q r) ≡ []) ⊎ ((m : Mark) × (mark_of ld (Call q r) ≡ m ∷ []))
    go true e = inr (mark.Call q r, rw e refl)
    go false e = inl (rw e refl)

-- The stretch behind a block is one more if the block is a mark.
next_is : (ld : ℕ → Bool) (c : Control) (t : ℕ) → next_number (mark_of ld c) t ≡ length (mark_of ld c) + t
next_is ld c t = go (one_mark ld c)
  where
    go : (mark_of ld c ≡ []) ⊎ ((m : Mark) × (mark_of ld c ≡ m ∷ [])) → next_number (mark_of ld c) t ≡ length (mark_of ld c) + t
    go (inl e) = rw e (omega arith)
    go (inr (m, e)) = rw e (omega arith)

-- A stretch before that of a block is before the one behind the block.
next_above : (ld : ℕ → Bool) (c : Control) (t s : ℕ) → s < t → s < next_number (mark_of ld c) t
next_above ld c t s less = let e = next_is ld c t in omega arith

-- A stretch before that of the first block has no line among the blocks.
pub none_behind : (ld : ℕ → Bool) (seen : ℕ → Control → Option ℕ) (bs : List ControlBlock) (i t s : ℕ) → s < t
    → stretch_line ld seen bs i t s ≡ None
none_behind ld seen [] i t s less = refl
none_behind ld seen (b ∷ bs) i t s less =
    let apart : (t == s) ≡ false = ne_eqb t s (λ e. omega arith) in
    rw apart (none_behind ld seen bs (suc i) (next_number (mark_of ld b.control) t) s (next_above ld b.control t s less))

-- The stretch of the block at place j, if the first block lies in stretch t.
abbrev pub number_at : (ℕ → Bool) → List ControlBlock → ℕ → ℕ → ℕ
number_at ld [] t j = t
number_at ld (b ∷ bs) t zero = t
number_at ld (b ∷ bs) t (suc j) = number_at ld bs (next_number (mark_of ld b.control) t) j

-- The stretch of the block at a place counts the marks before it.
number_is : (ld : ℕ → Bool) (bs : List ControlBlock) (t j : ℕ) → number_at ld bs t j ≡ stretch ld bs j + t
number_is ld [] t zero = omega arith
number_is ld [] t (suc j) = omega arith
number_is ld (b ∷ bs) t zero = omega arith
number_is ld (b ∷ bs) t (suc j) =
    let rest = number_is ld bs (next_number (mark_of ld b.control) t) j in
    let here = next_is ld b.control t in
    let all = length-append (mark_of ld b.control) (marks ld (take j bs)) in
    omega arith

module _ (tape : List ControlProgram) (line : ℕ → ℕ → Option ℕ) (quiet : ℕ → Option ℕ) (are : AreQuietLines tape line quiet) where
  -- A block that calls nothing has no line of a called program.
  called_none : (c : Control) → ((q r : ℕ) → c ≡ Call q r → ⊥) → IsLeast (CalledLine tape line c) None
  called_none c other = λ k is. other is.0 is.1 is.2

  -- The line that is found for a block's call is the least of the quiet program that it calls and
  -- of what is opened from there.
  called_least : (c : Control) → IsLeast (CalledLine tape line c) (called_line (loud tape) quiet c)
  called_least Next = called_none Next (λ q r e. absurd cc)
  called_least (Goto n) = called_none (Goto n) (λ q r e. absurd cc)
  called_least (While m) = called_none (While m) (λ q r e. absurd cc)
  called_least (Do m) = called_none (Do m) (λ q r e. absurd cc)
  called_least (EndLoop m) = called_none (EndLoop m) (λ q r e. absurd cc)
  called_least (Wait code) = called_none (Wait code) (λ q r e. absurd cc)
  called_least End = called_none End (λ q r e. absurd cc)
  called_least Back = called_none Back (λ q r e. absurd cc)
  called_least (BackTo n) = called_none (BackTo n) (λ q r e. absurd cc)
  called_least (Call q r) = go (loud tape q) refl
    where
      use_same : (p n : ℕ) → Call q r ≡ Call p n → q ≡ p
      use_same p n e = cc

      go : (b : Bool) → loud tape q ≡ b → IsLeast (CalledLine tape line (Call q r)) (if b then None else quiet q)
      go true e = λ k is. let same = use_same is.0 is.1 is.2 in let noisy : loud tape is.0 ≡ true = subst (λ p. loud tape p ≡ true) same e in
          let still = is.3 in absurd cc
      go false e =
          least_same (LineFrom tape line q) (CalledLine tape line (Call q r)) (quiet q)
          (λ k from. (q, r, refl, e, from))
          (λ k is. subst (λ p. LineFrom tape line p k) (sym (use_same is.0 is.1 is.2)) is.4) (are q)

  -- The line that is seen at a block is the least of its own and of those of the quiet program that
  -- it calls.
  block_least : (p b : ℕ) (c : Control) → IsLeast (BlockLine tape line p b c) (seen_line (loud tape) quiet (line p b) c)
  block_least p b c =
      least_either (λ k. line p b ≡ Some k) (CalledLine tape line c) (line p b) (called_line (loud tape) quiet c)
      (least_one (line p b)) (called_least c)

  -- The line that is seen at block b, of this control, of program p.
  abbrev pub seen_in : ℕ → ℕ → Control → Option ℕ
  seen_in p b c = seen_line (loud tape) quiet (line p b) c

  -- It is a line of stretch s among the blocks from place i on.
  abbrev TailLine : ℕ → List ControlBlock → ℕ → ℕ → ℕ → ℕ → Type 0
  TailLine p bs i t s k =
      (j : ℕ) × (c : Control) × (number_at (loud tape) bs t j ≡ s) × (control_at bs j ≡ Some c) × BlockLine tape line p (i + j) c k

  -- The line that is seen at the first block counts exactly if that lies in the stretch.
  first_least : (p i : ℕ) (c : Control) (same : Bool) (P : Type 0) → ((same ≡ true → P) × (P → same ≡ true))
      → IsLeast (λ k. P × BlockLine tape line p i c k) (if same then seen_in p i c else None)
  first_least p i c true P is =
      least_same (BlockLine tape line p i c) (λ k. P × BlockLine tape line p i c k) (seen_in p i c)
      (λ k own. (is.0 refl, own)) (λ k both. both.1) (block_least p i c)
  first_least p i c false P is = λ k both. let e = is.1 both.0 in absurd cc

  -- The line of stretch s that is found among the blocks from place i on is the least of them.
  tail_least : (p : ℕ) (bs : List ControlBlock) (i t s : ℕ)
      → IsLeast (TailLine p bs i t s) (stretch_line (loud tape) (seen_in p) bs i t s)
  tail_least p [] i t s = λ k is. let e = is.3 in absurd cc
  tail_least p (b ∷ bs) i t s =
      let next = next_number (mark_of (loud tape) b.control) t in
      least_same (λ k. ((t ≡ s) × BlockLine tape line p i b.control k) ⊎ TailLine p bs (suc i) next s k) (TailLine p (b ∷ bs) i t s)
      (stretch_line (loud tape) (seen_in p) (b ∷ bs) i t s)
      to from
      (least_either (λ k. (t ≡ s) × BlockLine tape line p i b.control k) (TailLine p bs (suc i) next s)
      (if t == s then seen_in p i b.control else None) (stretch_line (loud tape) (seen_in p) bs (suc i) next s)
      (first_least p i b.control (t == s) (t ≡ s) (eqb-true t s, eq-eqb t s)) (tail_least p bs (suc i) next s))
    where
      to : (k : ℕ) → ((t ≡ s) × BlockLine tape line p i b.control k) ⊎ TailLine p bs (suc i) (next_number (mark_of (loud tape) b.control) t) s k
          → TailLine p (b ∷ bs) i t s k
      to k (inl (e, own)) =
          let here : i ≡ i + 0 = omega arith in
          (0, b.control, e, refl, subst (λ x. BlockLine tape line p x b.control k) here own)
      to k (inr (j, c, at, is, own)) =
          let there : suc i + j ≡ i + suc j = omega arith in
          (suc j, c, at, is, subst (λ x. BlockLine tape line p x c k) there own)

      from : (k : ℕ) → TailLine p (b ∷ bs) i t s k
          → ((t ≡ s) × BlockLine tape line p i b.control k) ⊎ TailLine p bs (suc i) (next_number (mark_of (loud tape) b.control) t) s k
      from k (zero, c, at, is, own) =
          let here : i + 0 ≡ i = omega arith in
          let same : c ≡ b.control = cc in
          inl (at, subst (λ x. BlockLine tape line p x b.control k) here (subst (λ x. BlockLine tape line p (i + 0) x k) same own))
      from k (suc j, c, at, is, own) =
          let there : i + suc j ≡ suc i + j = omega arith in
          inr (j, c, at, is, subst (λ x. BlockLine tape line p x c k) there own)

  -- The line that is found of stretch s of program p.
  abbrev pub line_of_stretch : ℕ → ℕ → Option ℕ
  line_of_stretch p s = stretch_line (loud tape) (seen_in p) (blocks tape p) 0 0 s

  -- The line that is found of a stretch is the least of its lines.
  pub stretch_least : (p s : ℕ) → IsLeast (StretchLine tape line p s) (line_of_stretch p s)
  stretch_least p s =
      least_same (TailLine p (blocks tape p) 0 0 s) (StretchLine tape line p s) (line_of_stretch p s)
      (λ k is. let here : 0 + is.0 ≡ is.0 = omega arith in (
        is.0,
        is.1,
        (let e = number_is (loud tape) (blocks tape p) 0 is.0 in let at = is.2 in omega arith),
        is.3,
        subst (λ x. BlockLine tape line p x is.1 k) here is.4,
      ))
      (λ k is. let here : is.0 ≡ 0 + is.0 = omega arith in (
        is.0,
        is.1,
        (let e = number_is (loud tape) (blocks tape p) 0 is.0 in let at = is.2 in omega arith),
        is.3,
        subst (λ x. BlockLine tape line p x is.1 k) here is.4,
      ))
      (tail_least p (blocks tape p) 0 0 s)
