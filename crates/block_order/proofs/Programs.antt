-- The program of an O number stands at the number's place on the tape. For the proofs of
-- src/numbers.rt, src/order.rt and src/finding.rt, and for Aimed, Findable and Flags.
use Rattle.std.proofs.Common.{◌≡◌, ℕ, zero, suc, ◌+◌, ◌<◌, Bool, true, false, cond, ◌==◌, List, [], ◌∷◌, length, find, Option, Some, None, slice_get, slice_index_or, refl, ap, sym, ◌∙◌, arith}
use Rattle.nc_number.proofs.Counts.{equal}
use Rattle.block_order.specs.declared.program.ControlBlock.{ControlBlock}
use Rattle.block_order.specs.declared.program.ControlProgram.{ControlProgram}
use Rattle.block_order.specs.Order.{program_of, blocks_of, blocks}
use Rattle.block_order.specs.ProgramPlaces.{place_from, place_of}

-- The program of the number q stands at place i, among programs of which the first stands at a
-- place.
record IsThere (ps : List ControlProgram) (place q i : ℕ) : Type 0 where
  -- How many programs stand before it, from the given place on.
  behind : ℕ
  -- The place is that many places behind the first.
  at : i ≡ place + behind
  -- It is one of these programs.
  within : behind < length ps
  -- The program that the number finds is the one there.
  is : find (λ p. p.number == q) ps ≡ slice_get ps behind
  -- Its O number is q.
  named : (p : ControlProgram) → slice_get ps behind ≡ Some p → p.number ≡ q

-- A number that has a place has its program there.
there : (ps : List ControlProgram) (place q i : ℕ) → place_from ps place q ≡ Some i → IsThere ps place q i
there [] place q i e = absurd cc
there (p ∷ ps) place q i e = go (λ h. there ps (suc place) q i h) (p.number == q) refl
  where
    go : (place_from ps (suc place) q ≡ Some i → IsThere ps (suc place) q i) → (x : Bool) → (p.number == q) ≡ x → IsThere (p ∷ ps) place q i
    go rest true y =
        let both : Some place ≡ Some i = rw y at e in
        let same : place ≡ i = cc in
        record { behind = 0; at = omega arith; within = omega arith; is = rw y refl; named = λ r e'. (let both : Some p ≡ Some r = e' in let same : p ≡ r = cc in sym (ap (λ x. x.number) same) ∙ equal p.number q y) }
    go rest false y =
        let r = rest (rw y at e) in
        record {
          behind = suc r.behind;
          at = (let at = r.at in omega arith);
          within = (let within = r.within in omega arith);
          is = rw y r.is;
          named = r.named;
        }

-- A number that has no place has no program.
not_there : (ps : List ControlProgram) (place q : ℕ) → place_from ps place q ≡ None → find (λ p. p.number == q) ps ≡ None
not_there [] place q e = refl
not_there (p ∷ ps) place q e = go (λ h. not_there ps (suc place) q h) (p.number == q) refl
  where
    go : (place_from ps (suc place) q ≡ None → find (λ r. r.number == q) ps ≡ None) → (x : Bool) → (p.number == q) ≡ x
        → find (λ r. r.number == q) (p ∷ ps) ≡ None
    go rest true y = absurd (let both : ◌≡◌ {A = Option ℕ} (Some place) None = rw y at e in cc)
    go rest false y = rw y (rest (rw y at e))

-- An index below the tape's length has a program.
pub stands : (tape : List ControlProgram) (i : ℕ) (d : ControlProgram) → i < length tape → slice_get tape i ≡ Some (slice_index_or tape i d)
stands [] i d within = absurd (omega arith)
stands (p ∷ ps) zero d within = refl
stands (p ∷ ps) (suc i) d within = stands ps i d (omega arith)

-- The program at a number's place is the one that the number finds.
pub program_there : (tape : List ControlProgram) (q i : ℕ) → Some i ≡ place_of tape q → slice_get tape i ≡ program_of tape q
program_there tape q i e =
    let r = there tape 0 q i (sym e) in
    let at = r.at in
    let same : i ≡ r.behind = omega arith in
    ap (λ k. slice_get tape k) same ∙ sym r.is

-- A number without a place finds no program.
pub no_program_there : (tape : List ControlProgram) (q : ℕ) → None ≡ place_of tape q → program_of tape q ≡ None
no_program_there tape q e = not_there tape 0 q (sym e)

-- The blocks of the program at a number's place are those of the number.
pub blocks_there : (tape : List ControlProgram) (q i : ℕ) (p : ControlProgram) → Some i ≡ place_of tape q → i < length tape
    → p ≡ slice_index_or tape i p → p.blocks ≡ blocks tape q
blocks_there tape q i p e within is =
    let r = there tape 0 q i (sym e) in
    let at = r.at in
    let same : r.behind ≡ i = omega arith in
    let found : program_of tape q ≡ Some p =
    r.is ∙ (ap (λ k. slice_get tape k) same ∙ (stands tape i p within ∙ ap (λ x. Some x) (sym is))) in
    sym (ap (λ o. blocks_of o) found)

-- A number without a place has no blocks.
pub no_blocks_there : (tape : List ControlProgram) (q : ℕ) → None ≡ place_of tape q → ◌≡◌ {A = List ControlBlock} [] (blocks tape q)
no_blocks_there tape q e = sym (ap (λ o. blocks_of o) (not_there tape 0 q (sym e)))

-- The place of a number lies on the tape.
pub place_within : (tape : List ControlProgram) (q i : ℕ) → Some i ≡ place_of tape q → i < length tape
place_within tape q i e = let r = there tape 0 q i (sym e) in let at = r.at in let within = r.within in omega arith

-- A program that a number finds stands at some place of the tape and has this number.
pub found_stands : (tape : List ControlProgram) (q : ℕ) (p : ControlProgram) → program_of tape q ≡ Some p
    → (i : ℕ) × (slice_get tape i ≡ Some p) × (p.number ≡ q)
found_stands [] q p e = absurd cc
found_stands (t ∷ ts) q p e = go (λ f. found_stands ts q p f) (t.number == q) refl e
  where
    go : (program_of ts q ≡ Some p → (i : ℕ) × (slice_get ts i ≡ Some p) × (p.number ≡ q)) → (v : Bool) → (t.number == q) ≡ v
        → cond v (Some t) (program_of ts q) ≡ Some p → (i : ℕ) × (slice_get (t ∷ ts) i ≡ Some p) × (p.number ≡ q)
    go rest true is f = let same : t ≡ p = cc in (0, ap (λ x. Some x) same, ap (λ x. x.number) (sym same) ∙ equal t.number q is)
    go rest false is f = let w = rest f in (suc w.0, w.1, w.2)

-- Two numbers that have one place are the same number.
pub one_place : (tape : List ControlProgram) (q r i : ℕ) → place_of tape q ≡ Some i → place_of tape r ≡ Some i → q ≡ r
one_place tape q r i e f =
    let a = there tape 0 q i e in
    let b = there tape 0 r i f in
    let at = a.at in
    let at' = b.at in
    let same : a.behind ≡ b.behind = omega arith in
    go a b same (slice_get tape a.behind) refl
  where
    go : (a : IsThere tape 0 q i) (b : IsThere tape 0 r i) → a.behind ≡ b.behind → (o : Option ControlProgram) → slice_get tape a.behind ≡ o → q ≡ r
    go a b same (Some p) y = sym (a.named p y) ∙ b.named p (ap (λ k. slice_get tape k) (sym same) ∙ y)
    go a b same None y = absurd (missing tape a.behind a.within y)
      where
        missing : (xs : List ControlProgram) (k : ℕ) → k < length xs → slice_get xs k ≡ None → ⊥
        missing [] k within e = absurd (omega arith)
        missing (x ∷ xs) zero within e = absurd cc
        missing (x ∷ xs) (suc k) within e = missing xs k (omega arith) e
