-- A search for a sequence number finds a block of that number.
use Rattle.std.proofs.Common.{◌≡◌, ℕ, zero, suc, ◌+◌, ◌<◌, Bool, true, false, List, [], ◌∷◌, length, drop, Option, Some, None, refl, ap, ◌∙◌, arith}
use Rattle.std.proofs.lemmas.Bool.Decides.{nat_tests}
use Rattle.block_order.specs.declared.program.ControlBlock.{ControlBlock}
use Rattle.block_order.specs.Order.{has_sequence, first_numbered, or_else, seek}
use Rattle.block_order.specs.Places.{IsNumbered}

-- A sequence number that tests as n is n.
has_sequence-is : (n : ℕ) (o : Option ℕ) → has_sequence n o ≡ true → o ≡ Some n
has_sequence-is n None e = absurd cc
has_sequence-is n (Some own) e = let same : own ≡ n = grind (arith, nat_tests) in ap (λ k. Some k) same

-- If the search finds a place, a block of the number stands there.
first_numbered-stands : (bs : List ControlBlock) (place n t : ℕ) → first_numbered bs place n ≡ Some t
    → (i : ℕ) × (t ≡ place + i) × (i < length bs) × IsNumbered bs i n
first_numbered-stands [] place n t e = absurd cc
first_numbered-stands (b ∷ bs) place n t e = go (λ h. first_numbered-stands bs (suc place) n t h) (has_sequence n b.sequence) refl
  where
    go : (first_numbered bs (suc place) n ≡ Some t → (i : ℕ) × (t ≡ suc place + i) × (i < length bs) × IsNumbered bs i n)
        → (x : Bool) → has_sequence n b.sequence ≡ x → (i : ℕ) × (t ≡ place + i) × (i < length (b ∷ bs)) × IsNumbered (b ∷ bs) i n
    go rest true y =
        let same : Some place ≡ Some t = rw y at e in
        let is : place ≡ t = cc in
        (0, omega arith, omega arith, (b, refl, has_sequence-is n b.sequence y))
    go rest false y =
        let r = rest (rw y at e) in
        let at = r.1 in let within = r.2 in
        (suc r.0, omega arith, omega arith, r.3)

-- A block of the number in the program without its first k blocks is one of the whole program, k
-- places further on.
numbered_behind : (bs : List ControlBlock) (k i n : ℕ) → i < length (drop k bs) → IsNumbered (drop k bs) i n
    → (k + i < length bs) × IsNumbered bs (k + i) n
numbered_behind bs zero i n within is = let e : 0 + i ≡ i = omega arith in rw e (within, is)
numbered_behind [] (suc k) i n within is = absurd (omega arith)
numbered_behind (b ∷ bs) (suc k) i n within is =
    let r = numbered_behind bs k i n within is in
    let below = r.0 in
    let e : suc k + i ≡ suc (k + i) = omega arith in
    rw e (omega arith, r.1)

-- The target of a search is a block of that number.
pub seek_stands : (bs : List ControlBlock) (block n t : ℕ) → seek bs block n ≡ Some t → (t < length bs) × IsNumbered bs t n
seek_stands bs block n t e = go (first_numbered (drop (suc block) bs) (suc block) n) refl e
  where
    go : (o : Option ℕ) → first_numbered (drop (suc block) bs) (suc block) n ≡ o
        → or_else o (first_numbered bs 0 n) ≡ Some t → (t < length bs) × IsNumbered bs t n
    go None y f =
        let r = first_numbered-stands bs 0 n t f in
        let e' : t ≡ r.0 = (let at = r.1 in omega arith) in rw e' (r.2, r.3)
    go (Some found) y f =
        let r = first_numbered-stands (drop (suc block) bs) (suc block) n t (y ∙ f) in
        rw (r.1) (numbered_behind bs (suc block) r.0 n r.2 r.3)
