-- What was found of programs and of what is opened from them (the quiet programs, which come to no
-- wait and no end, that they call, directly or through others), as it grows, and when it is the
-- least. A program is closed if no block of it has or calls a line that is less than what was found
-- of it. For the proofs of src/quiet.rt. The file's name stands for the programs that are opened.
use Rattle.std.proofs.Common.{◌≡◌, ℕ, ◌≤◌, ◌⊎◌, inl, inr, Bool, true, false, List, Option, Some, None, slice_get, get_or, length, ◌+◌, ◌<◌, refl, sym, subst, ◌∙◌, arith, if◌then◌else◌}
use Rattle.nc_number.proofs.Counts.{last_or_before, lesser_is}
use Rattle.block_order.specs.declared.control.Control.{Control}
use Rattle.block_order.specs.declared.control.Control.TheVariants.{Next, Goto, While, Do, EndLoop, Wait, End, Call, Back, BackTo}
use Rattle.block_order.specs.declared.program.ControlBlock.{ControlBlock}
use Rattle.block_order.specs.declared.program.ControlProgram.{ControlProgram}
use Rattle.block_order.specs.Order.{blocks, program_of, control_at}
use Rattle.block_order.specs.Loud.{loud}
use Rattle.block_order.proofs.NotedEnds.{control-get}
use Rattle.block_order.proofs.Opened.{within_control}
use Rattle.block_order.proofs.Programs.{found_stands}
use Rattle.nc_number.specs.Options.{lesser}
use Rattle.part_lines.specs.Least.{IsLeast}
use Rattle.part_lines.specs.Lines.{called_line, seen_line, IsOpened, itself, calls, LineFrom}
use Rattle.part_lines.specs.Pieces.{IsBelow, AreFound, IsClosedAt, IsClosed, AreQuietLines}
use Rattle.part_lines.proofs.InParts.{block_from}

-- What was found is at most itself.
below_same : (a : Option ℕ) → IsBelow a a
below_same None = tt
below_same (Some a) = omega arith

-- What is at most a line that is at most another is at most that one.
below_on : (a b c : Option ℕ) → IsBelow a b → IsBelow b c → IsBelow a c
below_on a b None one two = tt
below_on None None (Some c) one two = absurd two
below_on (Some a) None (Some c) one two = absurd two
below_on None (Some b) (Some c) one two = absurd one
below_on (Some a) (Some b) (Some c) one two = omega arith

-- What is at most the lesser of two lines is at most each of them.
below_parts : (x a b : Option ℕ) → IsBelow x (lesser a b) → IsBelow x a × IsBelow x b
below_parts x None b below = (tt, below)
below_parts x (Some a) None below = (below, tt)
below_parts None (Some a) (Some b) below = absurd below
below_parts (Some x) (Some a) (Some b) below = (omega arith, omega arith)

module _ (tape : List ControlProgram) (line : ℕ → ℕ → Option ℕ) (found : ℕ → Option ℕ) where
  -- If all programs are closed, what was found of a program is at most what was found of each
  -- program that is opened from it.
  opened_below : IsClosed tape line found → (p q : ℕ) → IsOpened tape p q → IsBelow (found p) (found q)
  opened_below closed p _ itself = below_same (found p)
  opened_below closed p _ (calls caller there q r before is quiet) =
      let at = closed caller there (Call q r) is in
      let called : called_line (loud tape) found (Call q r) ≡ found q = rw quiet refl in
      let next = (below_parts (found caller) (line caller there) (called_line (loud tape) found (Call q r)) at).1 in
      below_on (found p) (found caller) (found q) (opened_below closed p caller before) (subst (IsBelow (found caller)) called next)

  -- If all programs are closed, what was found of a program is at most each line of it and of what
  -- is opened from it.
  from_below : IsClosed tape line found → (p k : ℕ) → LineFrom tape line p k → IsBelow (found p) (Some k)
  from_below closed p k (program, block, c, opened, is, e) =
      let at = (below_parts (found program) (line program block) (called_line (loud tape) found c) (closed program block c is)).0 in
      below_on (found p) (found program) (Some k) (opened_below closed p program opened) (subst (IsBelow (found program)) e at)

  -- If all programs are closed, the lines that were found are the least ones.
  pub quiet_least : AreFound tape line found → IsClosed tape line found → AreQuietLines tape line found
  quiet_least are closed p = go (found p) refl
    where
      go : (o : Option ℕ) → found p ≡ o → IsLeast (LineFrom tape line p) o
      go None e = λ k from. subst (λ x. IsBelow x (Some k)) e (from_below closed p k from)
      go (Some l) e = (are p l e, λ k from. subst (λ x. IsBelow x (Some k)) e (from_below closed p k from))

  -- A line that is seen at a block is one of its program or of what is opened from there.
  pub seen_from : AreFound tape line found → (p b : ℕ) (c : Control) → control_at (blocks tape p) b ≡ Some c
      → (k : ℕ) → seen_line (loud tape) found (line p b) c ≡ Some k → LineFrom tape line p k
  seen_from are p b c is k e = go (lesser_is (line p b) (called_line (loud tape) found c) k e)
    where
      called : (c : Control) → control_at (blocks tape p) b ≡ Some c → called_line (loud tape) found c ≡ Some k → LineFrom tape line p k
      called (Call q r) is e = by (loud tape q) refl e
        where
          by : (noisy : Bool) → loud tape q ≡ noisy → (if noisy then None else found q) ≡ Some k → LineFrom tape line p k
          by true n e = absurd cc
          by false n e = block_from tape line p b (Call q r) k is (inr (q, r, refl, n, are q k e))
      called Next is e = absurd cc
      called (Goto n) is e = absurd cc
      called (While m) is e = absurd cc
      called (Do m) is e = absurd cc
      called (EndLoop m) is e = absurd cc
      called (Wait code) is e = absurd cc
      called End is e = absurd cc
      called Back is e = absurd cc
      called (BackTo n) is e = absurd cc

      go : (line p b ≡ Some k) ⊎ (called_line (loud tape) found c ≡ Some k) → LineFrom tape line p k
      go (inl own) = block_from tape line p b c k is (inl own)
      go (inr other) = called c is other

-- If each program of the tape is closed, so is every O number.
pub all_closed : (tape : List ControlProgram) (line : ℕ → ℕ → Option ℕ) (found : ℕ → Option ℕ)
    → ((j : ℕ) (p : ControlProgram) → slice_get tape j ≡ Some p → IsClosedAt tape line found p.number) → IsClosed tape line found
all_closed tape line found each q = go (program_of tape q) refl
  where
    go : (o : Option ControlProgram) → program_of tape q ≡ o → IsClosedAt tape line found q
    go None e = λ block c is.
        let none : control_at (blocks tape q) block ≡ None = rw e refl in absurd cc
    go (Some p) e =
        let at = found_stands tape q p e in
        subst (IsClosedAt tape line found) at.2 (each at.0 p at.1)

-- No block before a place has a line that is less than this one.
abbrev pub AreBelow : Option ℕ → (ℕ → Control → Option ℕ) → List ControlBlock → ℕ → Type 0
AreBelow least seen bs i = (block : ℕ) (c : Control) → block < i → control_at bs block ≡ Some c → IsBelow least (seen block c)

-- If the blocks before a place have no lesser line, and the block there has none, the blocks up to
-- it have none.
pub below_more : (least : Option ℕ) (seen : ℕ → Control → Option ℕ) (bs : List ControlBlock) (i : ℕ) (d : ControlBlock) → i < length bs
    → AreBelow least seen bs i → IsBelow least (seen i (get_or bs i d).control) → AreBelow least seen bs (i + 1)
below_more least seen bs i d within before here block c less is = go (last_or_before block i less)
  where
    go : (block ≡ i) ⊎ (block < i) → IsBelow least (seen block c)
    go (inr below) = before block c below is
    go (inl e) =
        let own : control_at bs i ≡ Some c = subst (λ k. control_at bs k ≡ Some c) e is in
        let one : Some (get_or bs i d).control ≡ Some c = sym (control-get bs i d within) ∙ own in
        let same : (get_or bs i d).control ≡ c = cc in
        subst (λ k. IsBelow least (seen k c)) (sym e) (subst (λ x. IsBelow least (seen i x)) same here)

-- If the blocks before the end have no lesser line, no block has.
pub all_below : (least : Option ℕ) (seen : ℕ → Control → Option ℕ) (bs : List ControlBlock) (i : ℕ) → length bs ≤ i
    → AreBelow least seen bs i → (block : ℕ) (c : Control) → control_at bs block ≡ Some c → IsBelow least (seen block c)
all_below least seen bs i past before block c is = before block c (let within = within_control bs block c is in omega arith) is
