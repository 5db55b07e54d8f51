-- Flags of programs at their places, asked by O numbers, and when one round more finds no loud
-- program more. A program is loud if it has a wait or an end, or calls one that has (specs/Loud). A
-- round looks at all programs by what the round before it knew. For HeardFirst.
use Rattle.std.proofs.Common.{◌≡◌, ◌≢◌, ◌↔◌, ◌⊎◌, inl, inr, ℕ, zero, suc, ◌+◌, ◌-◌, ◌<◌, ◌≤◌, length, Bool, true, false, ◌==◌, List, [], ◌∷◌, map, drop, find, slice_index_or, slice_set, Option, Some, None, refl, ap, sym, ◌∙◌, arith}
use Rattle.std.proofs.lemmas.Grind.{get_or-set_at}
use Rattle.std.proofs.lemmas.List.{get_or-set_other}
use Rattle.block_order.specs.declared.numbers.ProgramNumbers.{ProgramNumbers}
use Rattle.block_order.specs.declared.program.ControlBlock.{ControlBlock}
use Rattle.block_order.specs.declared.program.ControlProgram.{ControlProgram}
use Rattle.block_order.specs.Order.{blocks_of, blocks}
use Rattle.block_order.specs.Loud.{has_loud_block, known_loud, loud}
use Rattle.block_order.specs.ProgramPlaces.{place_from, place_of, flag_at, is_flagged}
use Rattle.block_order.specs.Numbers.{KnowsPlaces}
use Rattle.block_order.specs.Heard.{flag_known}
use Rattle.block_order.proofs.Programs.{one_place}

-- The entry at index n is the first of the list without its first n entries.
drop_head : {X : Type 0} (n : ℕ) (xs : List X) (x d : X) (rest : List X) → drop n xs ≡ x ∷ rest
    → (slice_index_or xs n d ≡ x) × (drop (suc n) xs ≡ rest)
drop_head zero [] x d rest e = absurd cc
drop_head zero (y ∷ ys) x d rest e = (cc, cc)
drop_head (suc n) [] x d rest e = absurd cc
drop_head (suc n) (y ∷ ys) x d rest e = drop_head n ys x d rest e

-- A list that has f of each program's blocks tells f of the blocks of an O number, among programs
-- from some place on.
flag_from : (f : List ControlBlock → Bool) → f [] ≡ false → (ps : List ControlProgram) (place q : ℕ) (flags : List Bool)
    → drop place flags ≡ map (λ p. f p.blocks) ps
    → flag_at flags (place_from ps place q) ≡ f (blocks_of (find (λ p. p.number == q) ps))
flag_from f none [] place q flags e = sym none
flag_from f none (p ∷ ps) place q flags e = go (flag_from f none ps (suc place) q flags here.1) (p.number == q) refl
  where
    here : (slice_index_or flags place false ≡ f p.blocks) × (drop (suc place) flags ≡ map (λ r. f r.blocks) ps)
    here = drop_head place flags (f p.blocks) false (map (λ r. f r.blocks) ps) e

    go : flag_at flags (place_from ps (suc place) q) ≡ f (blocks_of (find (λ r. r.number == q) ps))
        → (b : Bool) → (p.number == q) ≡ b → flag_at flags (place_from (p ∷ ps) place q) ≡ f (blocks_of (find (λ r. r.number == q) (p ∷ ps)))
    go rest true y = rw y here.0
    go rest false y = rw y rest

-- A list that has f of the blocks of each program tells, by the flag of an O number, f of its
-- blocks.
pub flag_of_blocks : (f : List ControlBlock → Bool) → f [] ≡ false → (tape : List ControlProgram) (q : ℕ)
    → is_flagged tape (map (λ p. f p.blocks) tape) q ≡ f (blocks tape q)
flag_of_blocks f none tape q = flag_from f none tape 0 q (map (λ p. f p.blocks) tape) refl

-- At first no program is known to be loud.
pub none_known : (tape : List ControlProgram) → is_flagged tape (map (λ p. has_loud_block (known_loud tape 0) []) tape) ≡ known_loud tape 0
none_known tape i q = flag_of_blocks (λ bs. false) refl tape q i

-- If the places of the O numbers are known, the flag that is kept of a number is that of its
-- program.
pub known_is_flagged : (tape : List ControlProgram) (numbers : ProgramNumbers) (flags : List Bool) → KnowsPlaces tape numbers
    → flag_known numbers flags ≡ is_flagged tape flags
known_is_flagged tape numbers flags knows i q = flag_at flags (knows q i)

-- If a round finds nothing new, each later round knows the same programs.
stays : (tape : List ControlProgram) (n : ℕ) → known_loud tape n ≡ known_loud tape (suc n) → (k m : ℕ) → m ≡ k + n
    → known_loud tape n ≡ known_loud tape m
stays tape n e zero m h = let same : n ≡ m = omega arith in ap (λ j. known_loud tape j) same
stays tape n e (suc k) m h =
    let same : suc (k + n) ≡ m = omega arith in
    e ∙ ((λ i program. has_loud_block (stays tape n e k (k + n) refl i) (blocks tape program)) ∙ ap (λ j. known_loud tape j) same)

-- If a round finds nothing new, it knows all loud programs.
settled : (tape : List ControlProgram) (n : ℕ) → n ≤ length tape → known_loud tape n ≡ known_loud tape (n + 1)
    → known_loud tape n ≡ loud tape
unfolding loud
settled tape n within e =
    let next : n + 1 ≡ suc n = omega arith in
    stays tape n (e ∙ ap (λ m. known_loud tape m) next) (length tape - n) (length tape) (omega arith)

-- Two numbers are the same or differ.
same_or_not : (m n : ℕ) → (m ≡ n) ⊎ (m ≢ n)
same_or_not m n = grind arith

-- If the flag at a number's place is set, just the programs flagged before and this one are
-- flagged.
pub flag_set : (tape : List ControlProgram) (flags : List Bool) (number place : ℕ) → place_of tape number ≡ Some place
    → place < length flags
    → (q : ℕ) → (is_flagged tape (slice_set flags place true) q ≡ true) ↔ ((is_flagged tape flags q ≡ true) ⊎ (q ≡ number))
flag_set tape flags number place is within q = go (place_of tape q) refl
  where
    at_place : (i : ℕ) → place_of tape q ≡ Some i → (i ≡ place) ⊎ (i ≢ place)
        → (flag_at (slice_set flags place true) (Some i) ≡ true) ↔ ((flag_at flags (Some i) ≡ true) ⊎ (q ≡ number))
    at_place i y (inl e) =
        (λ t. inr (one_place tape q number place (y ∙ ap (λ k. Some k) e) is), λ h. get_or-set_at flags place i true false e within)
    at_place i y (inr n) =
        let other = get_or-set_other flags place i true false n in (
          λ t. inl (sym other ∙ t),
          λ h. elim h [
            | inl t ↦ other ∙ t
            | inr e ↦ absurd (let both : Some i ≡ Some place = sym y ∙ (ap (λ k. place_of tape k) e ∙ is) in let same : i ≡ place = cc in n same)
          ],
        )

    go : (o : Option ℕ) → place_of tape q ≡ o
        → (flag_at (slice_set flags place true) (place_of tape q) ≡ true) ↔ ((flag_at flags (place_of tape q) ≡ true) ⊎ (q ≡ number))
    go None y = rw y (
      λ t. absurd cc,
      λ h. elim h [
        | inl t ↦ absurd cc
        | inr e ↦ absurd (let both : ◌≡◌ {A = Option ℕ} None (Some place) = sym y ∙ (ap (λ k. place_of tape k) e ∙ is) in cc)
      ],
    )
    go (Some i) y = rw y (at_place i y (same_or_not i place))
