-- Loud programs: as many rounds as there are programs find each of them, and each reaches a wait or
-- an end. A round looks at all programs by what the round before it knew: a program with a wait, an
-- end, or a call of one that is known is known from then on. For the law
-- `being_loud_is_reaching_a_wait_or_an_end`, HeardFirst, src/loud.rt and the law of one path
-- (CallChains, KeepsLabels, StepsStay, OnePath).
use Rattle.std.proofs.Common.{◌≡◌, ℕ, zero, suc, ◌≤◌, ◌⊎◌, inl, inr, Bool, true, false, ◌==◌, ◌||◌, List, [], ◌∷◌, length, None, Some, refl, ap, sym, subst, ◌∙◌, arith, eqb-true}
use Rattle.std.proofs.lemmas.Bool.{eqb-false}
use Rattle.block_order.specs.declared.control.Control.{Control}
use Rattle.block_order.specs.declared.control.Control.TheVariants.{Next, Goto, While, Do, EndLoop, Wait, End, Call, Back, BackTo}
use Rattle.block_order.specs.declared.program.ControlBlock.{ControlBlock}
use Rattle.block_order.specs.declared.program.ControlProgram.{ControlProgram}
use Rattle.block_order.specs.Order.{program_of, blocks, control_at}
use Rattle.block_order.specs.Loud.{is_loud_block, has_loud_block, known_loud, loud, Reaches, IsLoudExactly}

-- The second test holds of every number of which the first one holds.
abbrev pub IsWithin : (ℕ → Bool) → (ℕ → Bool) → Type 0
IsWithin known more = (program : ℕ) → known program ≡ true → more program ≡ true

-- A block that is loud by what is known is loud if more is known.
block_within : (known more : ℕ → Bool) → IsWithin known more → (c : Control)
    → is_loud_block known c ≡ true → is_loud_block more c ≡ true
block_within known more within Next e = e
block_within known more within (Goto n) e = e
block_within known more within (While m) e = e
block_within known more within (Do m) e = e
block_within known more within (EndLoop m) e = e
block_within known more within (Wait code) e = e
block_within known more within End e = e
block_within known more within (Call program repeats) e = within program e
block_within known more within Back e = e
block_within known more within (BackTo n) e = e

-- If each of two tests implies another one, the one or the other test implies one of those.
or_true : (a b a' b' : Bool) → (a ≡ true → a' ≡ true) → (b ≡ true → b' ≡ true) → (a || b) ≡ true → (a' || b') ≡ true
or_true true b a' b' f g e = rw (f refl) refl
or_true false true true b' f g e = refl
or_true false true false b' f g e = g refl
or_true false false a' b' f g e = absurd cc

-- Blocks of which one is loud by what is known have a loud one if more is known.
pub has_within : (known more : ℕ → Bool) → IsWithin known more → (bs : List ControlBlock)
    → has_loud_block known bs ≡ true → has_loud_block more bs ≡ true
has_within known more within [] e = e
has_within known more within (b ∷ bs) e =
    or_true (is_loud_block known b.control) (has_loud_block known bs)
    (is_loud_block more b.control) (has_loud_block more bs)
    (block_within known more within b.control) (has_within known more within bs) e

-- Each round finds all that the one before found.
round_within : (tape : List ControlProgram) (n : ℕ) → IsWithin (known_loud tape n) (known_loud tape (suc n))
round_within tape zero program e = absurd cc
round_within tape (suc n) program e =
    has_within (known_loud tape n) (known_loud tape (suc n)) (round_within tape n) (blocks tape program) e

-- n, and one more if the flag is set. The name stands for the number.
abbrev pub counted : Bool → ℕ → ℕ
counted true n = suc n
counted false n = n

-- How many of these programs the test holds of.
abbrev pub holding : (ℕ → Bool) → List ControlProgram → ℕ
holding known [] = 0
holding known (p ∷ ps) = counted (known p.number) (holding known ps)

-- One flag adds one at most.
counted-le : (a : Bool) (n m : ℕ) → n ≤ m → counted a n ≤ suc m
counted-le true n m le = omega arith
counted-le false n m le = omega arith

-- The test holds of no more programs than there are.
holding-le : (known : ℕ → Bool) (ps : List ControlProgram) → holding known ps ≤ length ps
holding-le known [] = omega arith
holding-le known (p ∷ ps) = counted-le (known p.number) (holding known ps) (length ps) (holding-le known ps)

-- A flag that implies another one adds no more than that.
counted_within : (a b : Bool) (n m : ℕ) → (a ≡ true → b ≡ true) → n ≤ m → counted a n ≤ counted b m
counted_within true true n m f le = omega arith
counted_within true false n m f le = absurd (let e : false ≡ true = f refl in cc)
counted_within false true n m f le = omega arith
counted_within false false n m f le = le

-- A test that implies another one holds of no more of these programs.
holding_within : (known more : ℕ → Bool) → IsWithin known more → (ps : List ControlProgram)
    → holding known ps ≤ holding more ps
holding_within known more within [] = omega arith
holding_within known more within (p ∷ ps) =
    counted_within (known p.number) (more p.number) (holding known ps) (holding more ps) (within p.number)
    (holding_within known more within ps)

-- If a flag implies another one and both sums are the same, so are the flags and what they are
-- added to.
counted_same : (a b : Bool) (n m : ℕ) → (a ≡ true → b ≡ true) → n ≤ m → counted a n ≡ counted b m → (a ≡ b) × (n ≡ m)
counted_same true true n m f le e = (refl, omega (arith, e))
counted_same true false n m f le e = absurd (let e : false ≡ true = f refl in cc)
counted_same false true n m f le e = absurd (omega (arith, e))
counted_same false false n m f le e = (refl, e)

-- The two tests say the same of each of these programs.
abbrev pub AgreeOn : (ℕ → Bool) → (ℕ → Bool) → List ControlProgram → Type 0
AgreeOn known more [] = Unit {0}
AgreeOn known more (p ∷ ps) = (known p.number ≡ more p.number) × AgreeOn known more ps

-- If a test implies another one and both hold of equally many of these programs, they agree on
-- them.
same_agree : (known more : ℕ → Bool) → IsWithin known more → (ps : List ControlProgram)
    → holding known ps ≡ holding more ps
    → AgreeOn known more ps
same_agree known more within [] e = tt
same_agree known more within (p ∷ ps) e =
    let same = counted_same (known p.number) (more p.number) (holding known ps) (holding more ps) (within p.number)
    (holding_within known more within ps) e in
    (same.0, same_agree known more within ps same.1)

-- Two tests that agree on these programs, and on numbers that none of them has, agree on each
-- number.
agree_at : (known more : ℕ → Bool) (program : ℕ) (ps : List ControlProgram) → AgreeOn known more ps
    → (program_of ps program ≡ None → known program ≡ more program) → known program ≡ more program
agree_at known more program [] agree lacking = lacking refl
agree_at known more program (p ∷ ps) agree lacking =
    go (p.number == program) refl (agree_at known more program ps agree.1)
  where
    go : (b : Bool) → (p.number == program) ≡ b
        → ((program_of ps program ≡ None → known program ≡ more program) → known program ≡ more program)
        → known program ≡ more program
    go true e rest = subst (λ n. known n ≡ more n) (eqb-true p.number program e) agree.0
    go false e rest = rest (λ none. lacking (rw e none))

-- A number without a program is not known to be loud.
lacking_quiet : (tape : List ControlProgram) (n program : ℕ) → program_of tape program ≡ None
    → known_loud tape n program ≡ false
lacking_quiet tape zero program none = refl
lacking_quiet tape (suc n) program none = rw none refl

-- One round after the first n finds nothing new.
abbrev pub IsSettled : List ControlProgram → ℕ → Type 0
IsSettled tape n = known_loud tape n ≡ known_loud tape (suc n)

-- A round that finds no program more finds nothing new.
no_more_settled : (tape : List ControlProgram) (n : ℕ)
    → holding (known_loud tape n) tape ≡ holding (known_loud tape (suc n)) tape → IsSettled tape n
no_more_settled tape n e =
    let same : (program : ℕ) → known_loud tape n program ≡ known_loud tape (suc n) program =
    λ program. agree_at (known_loud tape n) (known_loud tape (suc n)) program tape
    (same_agree (known_loud tape n) (known_loud tape (suc n)) (round_within tape n) tape e)
    (λ none. lacking_quiet tape n program none ∙ sym (lacking_quiet tape (suc n) program none)) in
    λ i program. same program i

-- Each round finds one program more, or finds nothing new.
settles : (tape : List ControlProgram) (n : ℕ) → IsSettled tape n ⊎ (n ≤ holding (known_loud tape n) tape)
settles tape zero = inr (omega arith)
settles tape (suc n) =
    go (settles tape n) (holding (known_loud tape n) tape == holding (known_loud tape (suc n)) tape) refl
  where
    again : IsSettled tape n → IsSettled tape (suc n)
    again e = ap (λ known program. has_loud_block known (blocks tape program)) e

    go : IsSettled tape n ⊎ (n ≤ holding (known_loud tape n) tape)
        → (b : Bool) → (holding (known_loud tape n) tape == holding (known_loud tape (suc n)) tape) ≡ b
        → IsSettled tape (suc n) ⊎ (suc n ≤ holding (known_loud tape (suc n)) tape)
    go (inl e) b same = inl (again e)
    go (inr le) true same = inl (again (no_more_settled tape n (eqb-true _ _ same)))
    go (inr le) false other =
        let most = holding_within (known_loud tape n) (known_loud tape (suc n)) (round_within tape n) tape in
        let differ = eqb-false (holding (known_loud tape n) tape) (holding (known_loud tape (suc n)) tape) other in
        inr (omega (arith, differ))

-- After as many rounds as there are programs nothing new is found.
settled : (tape : List ControlProgram) → IsSettled tape (length tape)
settled tape = go (settles tape (length tape))
  where
    go : IsSettled tape (length tape) ⊎ (length tape ≤ holding (known_loud tape (length tape)) tape)
        → IsSettled tape (length tape)
    go (inl e) = e
    go (inr le) =
        let n = length tape in
        let most = holding_within (known_loud tape n) (known_loud tape (suc n)) (round_within tape n) tape in
        let all = holding-le (known_loud tape (suc n)) tape in
        no_more_settled tape n (omega arith)

-- A program is loud exactly if one of its blocks is loud by the loud programs.
pub loud-has : (tape : List ControlProgram) (program : ℕ)
    → loud tape program ≡ has_loud_block (loud tape) (blocks tape program)
unfolding loud
loud-has tape program = ap (λ known. known program) (settled tape)

-- If one of these blocks is loud, the list has a loud block.
has_at : (known : ℕ → Bool) (bs : List ControlBlock) (i : ℕ) (c : Control) → control_at bs i ≡ Some c
    → is_loud_block known c ≡ true
    → has_loud_block known bs ≡ true
has_at known [] i c is e = absurd cc
has_at known (b ∷ bs) zero c is e = let same : b.control ≡ c = cc in rw (same, e) refl
has_at known (b ∷ bs) (suc i) c is e =
    or_true false true (is_loud_block known b.control) (has_loud_block known bs) (λ f. absurd cc)
    (λ t. has_at known bs i c is e) refl

-- Which programs are loud: those with a wait or an end, and those that call a loud one.
pub record AreLoud (tape : List ControlProgram) : Type 0 where
  -- A program with a wait is loud.
  pub waits : (program block code : ℕ) → control_at (blocks tape program) block ≡ Some (Wait code)
      → loud tape program ≡ true
  -- A program with an end is loud.
  pub ends : (program block : ℕ) → control_at (blocks tape program) block ≡ Some End → loud tape program ≡ true
  -- A program that calls a loud program is loud.
  pub calls : (program block called repeats : ℕ) → control_at (blocks tape program) block ≡ Some (Call called repeats)
      → loud tape called ≡ true → loud tape program ≡ true

-- A program that has a wait or an end, or calls a loud one, is loud.
pub are_loud : (tape : List ControlProgram) → AreLoud tape
are_loud tape = record {
  waits = λ program block code is.
      loud-has tape program ∙ has_at (loud tape) (blocks tape program) block (Wait code) is refl;
  ends = λ program block is. loud-has tape program ∙ has_at (loud tape) (blocks tape program) block End is refl;
  calls = λ program block called repeats is noisy.
      loud-has tape program ∙ has_at (loud tape) (blocks tape program) block (Call called repeats) is noisy;
}

-- One of these blocks is loud by what is known.
abbrev pub HasLoud : (ℕ → Bool) → List ControlBlock → Type 0
HasLoud known bs = (i : ℕ) × (c : Control) × (control_at bs i ≡ Some c) × (is_loud_block known c ≡ true)

-- If the test finds a loud block among these, there is one at some place.
has_block : (known : ℕ → Bool) (bs : List ControlBlock) → has_loud_block known bs ≡ true → HasLoud known bs
has_block known [] e = absurd cc
has_block known (b ∷ bs) e = go (λ h. has_block known bs h) (is_loud_block known b.control) refl
  where
    go : (has_loud_block known bs ≡ true → HasLoud known bs) → (x : Bool) → is_loud_block known b.control ≡ x
        → HasLoud known (b ∷ bs)
    go rest true is = (0, b.control, refl, is)
    go rest false is = let r = rest (rw is at e) in (suc r.0, r.1, r.2, r.3)

-- A program with a block that is loud by what is known reaches a wait or an end, if all known
-- programs do.
reaches_by : (tape : List ControlProgram) (known : ℕ → Bool) → ((q : ℕ) → known q ≡ true → (m : ℕ) × Reaches tape m q)
    → (p i : ℕ) (c : Control) → control_at (blocks tape p) i ≡ Some c → is_loud_block known c ≡ true
    → (m : ℕ) × Reaches tape m p
reaches_by tape known found p i (Wait code) is e = (0, (i, inr (code, is)))
reaches_by tape known found p i End is e = (0, (i, inl is))
reaches_by tape known found p i (Call q r) is e = let further = found q e in (suc further.0, (i, q, r, is, further.1))
reaches_by tape known found p i Next is e = absurd cc
reaches_by tape known found p i (Goto n) is e = absurd cc
reaches_by tape known found p i (While m) is e = absurd cc
reaches_by tape known found p i (Do m) is e = absurd cc
reaches_by tape known found p i (EndLoop m) is e = absurd cc
reaches_by tape known found p i Back is e = absurd cc
reaches_by tape known found p i (BackTo n) is e = absurd cc

-- A program that some round finds loud reaches a wait or an end.
found_reaches : (tape : List ControlProgram) (n p : ℕ) → known_loud tape n p ≡ true → (m : ℕ) × Reaches tape m p
found_reaches tape zero p e = absurd cc
found_reaches tape (suc n) p e =
    let b = has_block (known_loud tape n) (blocks tape p) e in
    reaches_by tape (known_loud tape n) (found_reaches tape n) p b.0 b.1 b.2 b.3

-- A loud program reaches a wait or an end.
loud_reaches : (tape : List ControlProgram) (p : ℕ) → loud tape p ≡ true → (m : ℕ) × Reaches tape m p
unfolding loud
loud_reaches tape p e = found_reaches tape (length tape) p e

-- A program that reaches a wait or an end is loud.
reaches_loud : (tape : List ControlProgram) (m p : ℕ) → Reaches tape m p → loud tape p ≡ true
reaches_loud tape zero p (i, inl is) = (are_loud tape).ends p i is
reaches_loud tape zero p (i, inr (code, is)) = (are_loud tape).waits p i code is
reaches_loud tape (suc m) p (i, q, r, is, more) = (are_loud tape).calls p i q r is (reaches_loud tape m q more)

-- A program is loud exactly if it reaches a wait or an end.
pub loud_exactly : (tape : List ControlProgram) → IsLoudExactly tape
loud_exactly tape p = (loud_reaches tape p, λ reaches. reaches_loud tape reaches.0 p reaches.1)
