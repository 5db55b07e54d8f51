-- The lines of a tape rise, so a later program or block has a greater line. For Located and
-- Findable, and for the proofs of src/fitting.rt and src/tables.rt (`blocks-few`).
use Rattle.std.proofs.Common.{◌≡◌, ℕ, zero, suc, ◌<◌, ◌≤◌, ◌⊎◌, inl, inr, List, [], ◌∷◌, ◌++◌, length, map, Some, sym, ap, arith, subst}
use Rattle.std.specs.List.{slice_get}
use Rattle.std.proofs.lemmas.List.{length-append}
use Rattle.block_order.specs.declared.program.ControlBlock.{ControlBlock}
use Rattle.block_order.specs.declared.program.ControlProgram.{ControlProgram}
use Rattle.nc_number.specs.Rising.{RiseFrom}
use Rattle.block_order.specs.Shape.{lines_of_program, lines_in, blocks_in}

-- The number is one of the list.
abbrev pub In : ℕ → List ℕ → Type 0
In x [] = ⊥
In x (y ∷ ys) = (y ≡ x) ⊎ In x ys

-- A number of the first list is one of both lists together.
in-left : (x : ℕ) (xs ys : List ℕ) → In x xs → In x (xs ++ ys)
in-left x [] ys w = elim w [ ]
in-left x (y ∷ xs) ys (inl e) = inl e
in-left x (y ∷ xs) ys (inr w) = inr (in-left x xs ys w)

-- A number of the second list is one of both lists together.
in-right : (x : ℕ) (xs ys : List ℕ) → In x ys → In x (xs ++ ys)
in-right x [] ys w = w
in-right x (y ∷ xs) ys w = inr (in-right x xs ys w)

-- Rising numbers are all above their bound.
rise-over : (low : ℕ) (xs : List ℕ) → RiseFrom low xs → (x : ℕ) → In x xs → low < x
rise-over low [] h x w = elim w [ ]
rise-over low (y ∷ ys) h x (inl e) = omega (arith, h.0)
rise-over low (y ∷ ys) h x (inr w) = let more = rise-over y ys h.1 x w in omega (arith, h.0)

-- The first part of a rising list rises.
rise-left : (low : ℕ) (xs ys : List ℕ) → RiseFrom low (xs ++ ys) → RiseFrom low xs
rise-left low [] ys h = tt
rise-left low (x ∷ xs) ys h = (h.0, rise-left x xs ys h.1)

-- The second part of a rising list rises, from a bound that no number of the first part passes.
rise-cut : (low : ℕ) (xs ys : List ℕ) → RiseFrom low (xs ++ ys)
    → (m : ℕ) × RiseFrom m ys × (low ≤ m) × ((x : ℕ) → In x xs → x ≤ m)
rise-cut low [] ys h = (low, h, omega arith, λ x w. absurd w)
rise-cut low (x ∷ xs) ys h =
    let w = rise-cut x xs ys h.1 in
    (w.0, w.1, omega (arith, h.0, w.2), each w.0 w.2 w.3) where
      each : (m : ℕ) → x ≤ m → ((y : ℕ) → In y xs → y ≤ m) → (y : ℕ) → In y (x ∷ xs) → y ≤ m
      each m l f y (inl e) = omega arith
      each m l f y (inr w) = f y w

-- A line of a program is a line of the tape.
in-lines : (tape : List ControlProgram) (j b : ℕ) (q : ControlProgram) → slice_get tape j ≡ Some q
    → In b (lines_of_program q) → In b (lines_in tape)
in-lines [] j b q e w = absurd cc
in-lines (t ∷ ts) zero b q e w =
    let same : t ≡ q = cc in
    in-left b (lines_of_program t) (lines_in ts) (subst (λ (p : ControlProgram). In b (lines_of_program p)) (sym same) w)
in-lines (t ∷ ts) (suc j) b q e w = in-right b (lines_of_program t) (lines_in ts) (in-lines ts j b q e w)

-- The lines of a later program are above those of an earlier one.
pub rise-programs : (tape : List ControlProgram) (low i j a b : ℕ) (p q : ControlProgram) → RiseFrom low (lines_in tape)
    → slice_get tape i ≡ Some p → slice_get tape j ≡ Some q → i < j
    → In a (lines_of_program p) → In b (lines_of_program q) → a < b
rise-programs [] low i j a b p q h at there l v w = absurd cc
rise-programs (t ∷ ts) low zero zero a b p q h at there l v w = absurd (omega arith)
rise-programs (t ∷ ts) low zero (suc j) a b p q h at there l v w =
    let same : t ≡ p = cc in
    let cut = rise-cut low (lines_of_program t) (lines_in ts) h in
    let below = cut.3 a (subst (λ (p : ControlProgram). In a (lines_of_program p)) (sym same) v) in
    let above = rise-over cut.0 (lines_in ts) cut.1 b (in-lines ts j b q there w) in
    omega arith
rise-programs (t ∷ ts) low (suc i) zero a b p q h at there l v w = absurd (omega arith)
rise-programs (t ∷ ts) low (suc i) (suc j) a b p q h at there l v w =
    let cut = rise-cut low (lines_of_program t) (lines_in ts) h in
    rise-programs ts cut.0 i j a b p q cut.1 at there (omega arith) v w

-- The lines of one program of the tape rise.
pub rise-own : (tape : List ControlProgram) (low i : ℕ) (p : ControlProgram) → RiseFrom low (lines_in tape)
    → slice_get tape i ≡ Some p → (m : ℕ) × RiseFrom m (lines_of_program p)
rise-own [] low i p h at = absurd cc
rise-own (t ∷ ts) low zero p h at =
    let same : t ≡ p = cc in (
      low,
      subst (λ (p : ControlProgram). RiseFrom low (lines_of_program p)) same
          (rise-left low (lines_of_program t) (lines_in ts) h),
    )
rise-own (t ∷ ts) low (suc i) p h at =
    let cut = rise-cut low (lines_of_program t) (lines_in ts) h in rise-own ts cut.0 i p cut.1 at

-- If the lines of these blocks rise from a bound, each block's line is above that bound.
pub block-over : (bs : List ControlBlock) (low place : ℕ) (b : ControlBlock) → RiseFrom low (map (λ x. x.line) bs)
    → slice_get bs place ≡ Some b → low < b.line
block-over [] low place b h e = absurd cc
block-over (x ∷ xs) low zero b h e =
    let same : x ≡ b = cc in
    let line : x.line ≡ b.line = ap (λ y. y.line) same in omega (arith, h.0)
block-over (x ∷ xs) low (suc place) b h e =
    let more = block-over xs x.line place b h.1 e in omega (arith, h.0)

-- Of two blocks of a program the later one has the greater line.
pub block-order : (bs : List ControlBlock) (low i j : ℕ) (a b : ControlBlock) → RiseFrom low (map (λ x. x.line) bs)
    → slice_get bs i ≡ Some a → slice_get bs j ≡ Some b → i < j → a.line < b.line
block-order [] low i j a b h at there l = absurd cc
block-order (x ∷ xs) low zero zero a b h at there l = absurd (omega arith)
block-order (x ∷ xs) low zero (suc j) a b h at there l =
    let same : x ≡ a = cc in
    let line : x.line ≡ a.line = ap (λ y. y.line) same in
    let over = block-over xs x.line j b h.1 there in omega arith
block-order (x ∷ xs) low (suc i) zero a b h at there l = absurd (omega arith)
block-order (x ∷ xs) low (suc i) (suc j) a b h at there l = block-order xs x.line i j a b h.1 at there (omega arith)

-- A block's line is one of its program's lines.
pub block-in : (bs : List ControlBlock) (place : ℕ) (b : ControlBlock) → slice_get bs place ≡ Some b
    → In b.line (map (λ x. x.line) bs)
block-in [] place b e = absurd cc
block-in (x ∷ xs) zero b e = let same : x ≡ b = cc in inl (ap (λ y. y.line) same)
block-in (x ∷ xs) (suc place) b e = inr (block-in xs place b e)

-- No program has more blocks than the tape.
pub blocks-few : (tape : List ControlProgram) (i : ℕ) (p : ControlProgram) → slice_get tape i ≡ Some p
    → length p.blocks ≤ length (blocks_in tape)
blocks-few [] i p e = absurd cc
blocks-few (t ∷ ts) zero p e =
    let same : t ≡ p = cc in
    let long : length t.blocks ≡ length p.blocks = ap (λ q. length q.blocks) same in
    omega (arith, length-append t.blocks (blocks_in ts))
blocks-few (t ∷ ts) (suc i) p e =
    let more = blocks-few ts i p e in omega (arith, length-append t.blocks (blocks_in ts))
