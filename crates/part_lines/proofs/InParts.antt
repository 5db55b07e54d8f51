-- A line of a part of a path is one of a stretch that stands there: of a block of it, or of the
-- quiet programs that the block's call opens, directly or through others. A stretch is the run of
-- blocks, of the main program or a loud one, up to a wait, an end, an M99 without a number or a
-- loud call. A loud program has a wait or an end, or calls one that has; the others are quiet.
-- `line` gives, by O number and place, the line of a block that is looked for. For PartsLeast,
-- StretchLines and Opened.
use Rattle.std.proofs.Common.{◌≡◌, ℕ, ◌⊎◌, inl, inr, false, List, ◌∷◌, Option, Some, refl, sym, subst}
use Rattle.block_order.specs.declared.control.Control.{Control}
use Rattle.block_order.specs.declared.control.Control.TheVariants.{Call}
use Rattle.block_order.specs.declared.program.ControlProgram.{ControlProgram}
use Rattle.block_order.specs.Order.{blocks, control_at}
use Rattle.block_order.specs.Loud.{loud}
use Rattle.part_order.specs.Parts.{Stretch, Follows, stretch_at, path_items, IsInPart, listed, called}
use Rattle.part_lines.specs.PartLines.{LineInPart}
use Rattle.part_lines.specs.Lines.{IsOpened, itself, calls, LineFrom}
use Rattle.part_lines.proofs.Segments.{IsListed}

-- It is a line of the quiet program that a block of this control calls, or of what is opened from
-- there.
abbrev pub CalledLine : List ControlProgram → (ℕ → ℕ → Option ℕ) → Control → ℕ → Type 0
CalledLine tape line c k = (q r : ℕ) × (c ≡ Call q r) × (loud tape q ≡ false) × LineFrom tape line q k

-- It is the line of the block, or a line of the quiet program that it calls.
abbrev pub BlockLine : List ControlProgram → (ℕ → ℕ → Option ℕ) → ℕ → ℕ → Control → ℕ → Type 0
BlockLine tape line p b c k = (line p b ≡ Some k) ⊎ CalledLine tape line c k

-- It is a line of a block of the stretch, or of the quiet program that the block calls.
abbrev pub StretchLine : List ControlProgram → (ℕ → ℕ → Option ℕ) → ℕ → ℕ → ℕ → Type 0
StretchLine tape line p s k =
    (b : ℕ) × (c : Control) × (stretch_at tape p b ≡ s) × (control_at (blocks tape p) b ≡ Some c) × BlockLine tape line p b c k

-- A stretch that stands after n waits of the list has this line.
abbrev pub ListedLine : List ControlProgram → (ℕ → ℕ → Option ℕ) → ℕ → ℕ → Type 0
ListedLine tape line n k = (p s : ℕ) × IsListed (path_items tape) n p s × StretchLine tape line p s k

module _ (tape : List ControlProgram) (line : ℕ → ℕ → Option ℕ) where
  -- What is opened from a quiet program is opened from each program that calls it.
  call_opens : (p there q r to : ℕ) → control_at (blocks tape p) there ≡ Some (Call q r) → loud tape q ≡ false
      → IsOpened tape q to → IsOpened tape p to
  call_opens p there q r _ is quiet itself = calls p there q r itself is quiet
  call_opens p there q r _ is quiet (calls caller at program repeats before is' quiet') =
      calls caller at program repeats (call_opens p there q r caller is quiet before) is' quiet'

  -- A line of a block is one of its program or of what is opened from there.
  pub block_from : (p b : ℕ) (c : Control) (k : ℕ) → control_at (blocks tape p) b ≡ Some c → BlockLine tape line p b c k
      → LineFrom tape line p k
  block_from p b c k is (inl e) = (p, b, c, itself, is, e)
  block_from p b c k is (inr (q, r, call, quiet, (program, block, d, opened, at, e))) =
      (program, block, d, call_opens p b q r program (subst (λ x. control_at (blocks tape p) b ≡ Some x) call is) quiet opened, at, e)

  -- A line of a block of part n is one of a stretch after n waits of the list.
  in_part_listed : (n k p b : ℕ) (c : Control) → IsInPart tape n p b → control_at (blocks tape p) b ≡ Some c
      → BlockLine tape line p b c k → ListedLine tape line n k
  in_part_listed n k p b c (listed _ _ rest f) is own = (p, stretch_at tape p b, (rest, f), (b, c, refl, is, own))
  in_part_listed n k p b c (called caller there _ _ r inside call quiet) is own =
      in_part_listed n k caller there (Call p r) inside call (inr (p, r, refl, quiet, block_from p b c k is own))

  -- A line of part n is one of a stretch after n waits of the list.
  pub part_listed : (n k : ℕ) → LineInPart tape line n k → ListedLine tape line n k
  part_listed n k (p, b, c, inside, is, e) = in_part_listed n k p b c inside is (inl e)

  -- If a block of part n calls a quiet program, all blocks of what is opened from that are in part
  -- n.
  opened_in_part : (n p b q r : ℕ) → IsInPart tape n p b → control_at (blocks tape p) b ≡ Some (Call q r) → loud tape q ≡ false
      → (to : ℕ) → IsOpened tape q to → (block : ℕ) → IsInPart tape n to block
  opened_in_part n p b q r inside is quiet _ itself block = called p b q block r inside is quiet
  opened_in_part n p b q r inside is quiet _ (calls caller at program repeats before is' quiet') block =
      called caller at program block repeats (opened_in_part n p b q r inside is quiet caller before at) is' quiet'

  -- A line of a stretch after n waits of the list is one of part n.
  pub listed_part : (n k : ℕ) → ListedLine tape line n k → LineInPart tape line n k
  listed_part n k (p, s, (rest, f), (b, c, at, is, own)) =
      let inside : IsInPart tape n p b = listed p b rest (subst (λ x. Follows (path_items tape) n (Stretch p x ∷ rest)) (sym at) f) in
      go own inside
    where
      go : BlockLine tape line p b c k → IsInPart tape n p b → LineInPart tape line n k
      go (inl e) inside = (p, b, c, inside, is, e)
      go (inr (q, r, call, quiet, (program, block, d, opened, there, e))) inside = (
        program,
        block,
        d,
        opened_in_part n p b q r inside (subst (λ x. control_at (blocks tape p) b ≡ Some x) call is) quiet program opened block,
        there,
        e,
      )
