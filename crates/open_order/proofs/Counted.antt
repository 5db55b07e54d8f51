-- Two counts are the same exactly if no block between them may not stand in a contour: for `is_calm`
-- (src/counts.rt).
use Rattle.std.proofs.Common.{◌≡◌, ℕ, zero, suc, ◌+◌, ◌-◌, ◌<◌, ◌≤◌, Bool, true, false, not, ◌&&◌, ◌||◌, ◌==◌, List, [], ◌∷◌, length, take, drop, get_or, if◌then◌else◌, subst, refl, ap, sym, ◌∙◌, arith}
use Rattle.std.specs.List.{list_any}
use Rattle.std.proofs.lemmas.Bool.{eq-eqb, ne_eqb, le-leb}
use Rattle.block_order.specs.declared.program.ControlBlock.{ControlBlock}
use Rattle.open_order.specs.declared.counts.Counting.{Counting}
use Rattle.open_order.specs.declared.counts.Counting.TheVariants.{Disturbing}
use Rattle.open_order.specs.Contours.{is_calm}
use Rattle.open_order.specs.Counts.{is_counted, count_behind, counts_from}

-- whether one of these blocks is counted
abbrev has_counted : (ℕ → Bool) → Counting → List ControlBlock → Bool
has_counted loud counting bs = list_any (λ b. is_counted loud counting b.control) bs

-- There is a count before each block, and one behind the last.
pub counts_length : (loud : ℕ → Bool) (counting : Counting) (n : ℕ) (bs : List ControlBlock) → length (counts_from loud counting n bs) ≡ suc (length bs)
counts_length loud counting n [] = refl
counts_length loud counting n (b ∷ bs) = ap suc (counts_length loud counting (count_behind loud counting n b.control) bs)

-- The count is above the one before, if one of the blocks may not stand in a contour; else it is the
-- same.
abbrev IsCount : ℕ → Bool → ℕ → Type 0
IsCount n true c = n < c
IsCount n false c = c ≡ n

-- No count is below the one before.
no_less : (n : ℕ) (some : Bool) (c : ℕ) → IsCount n some c → n ≤ c
no_less n true c is = omega (arith, is)
no_less n false c is = omega (arith, is)

-- The count of the first k blocks.
counted : (k : ℕ) (loud : ℕ → Bool) (counting : Counting) (n : ℕ) (bs : List ControlBlock) → k ≤ length bs
    → IsCount n (has_counted loud counting (take k bs)) (get_or (counts_from loud counting n bs) k 0)
counted zero loud counting n [] within = refl
counted zero loud counting n (b ∷ bs) within = refl
counted (suc k) loud counting n [] within = absurd (omega (arith, within))
counted (suc k) loud counting n (b ∷ bs) within =
    go (is_counted loud counting b.control) (λ m. counted k loud counting m bs (omega (arith, within)))
  where
    go : (one : Bool) → ((m : ℕ) → IsCount m (has_counted loud counting (take k bs)) (get_or (counts_from loud counting m bs) k 0))
        → IsCount n (one || has_counted loud counting (take k bs)) (get_or (counts_from loud counting (if one then n + 1 else n) bs) k 0)
    go true later =
        let more = no_less (n + 1) (has_counted loud counting (take k bs)) (get_or (counts_from loud counting (n + 1) bs) k 0) (later (n + 1)) in
        omega (arith, more)
    go false later = later n

-- Two counts are the same exactly if no block is between them that may not stand in a contour.
same_count : (n : ℕ) (some : Bool) (c : ℕ) → IsCount n some c → (n == c) ≡ not some
same_count n true c is = ne_eqb n c (λ e. absurd (omega (arith, is, e)))
same_count n false c is = eq-eqb n c (sym is)

-- So it is of the counts before k blocks and behind them.
same_at : (first last k : ℕ) (loud : ℕ → Bool) (counting : Counting) (n : ℕ) (bs : List ControlBlock) → suc last ≡ first + k → 0 < k → last < length bs
    → (get_or (counts_from loud counting n bs) first 0 == get_or (counts_from loud counting n bs) (suc last) 0)
    ≡ not (has_counted loud counting (take k (drop first bs)))
same_at zero last k loud counting n [] places some within = absurd (omega (arith, within))
same_at zero last k loud counting n (b ∷ bs) places some within =
    let all : suc last ≡ k = omega (arith, places) in
    subst
    (λ (j : ℕ). (n == get_or (counts_from loud counting n (b ∷ bs)) (suc last) 0) ≡ not (has_counted loud counting (take j (b ∷ bs)))) all
    (same_count n (has_counted loud counting (take (suc last) (b ∷ bs))) (get_or (counts_from loud counting n (b ∷ bs)) (suc last) 0)
    (counted (suc last) loud counting n (b ∷ bs) (omega (arith, within))))
same_at (suc first) zero k loud counting n bs places some within = absurd (omega (arith, places, some))
same_at (suc first) (suc last) k loud counting n [] places some within = absurd (omega (arith, within))
same_at (suc first) (suc last) k loud counting n (b ∷ bs) places some within =
    same_at first last k loud counting (count_behind loud counting n b.control) bs (omega (arith, places)) some (omega (arith, within))

-- A contour that does not end before it begins is judged by two counts.
pub calm_by_counts : (loud : ℕ → Bool) (bs : List ControlBlock) (first last : ℕ) → first ≤ last → last < length bs
    → (get_or (counts_from loud Disturbing 0 bs) first 0 == get_or (counts_from loud Disturbing 0 bs) (suc last) 0) ≡ is_calm loud bs first last
calm_by_counts loud bs first last rises within =
    same_at first last (suc (last - first)) loud Disturbing 0 bs (omega (arith, rises)) (omega arith) within
    ∙ ap (λ (b : Bool). b && not (has_counted loud Disturbing (take (suc (last - first)) (drop first bs)))) (sym (le-leb first last rises))
