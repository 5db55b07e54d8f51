-- A tape whose blocks stand on rising lines has one answer, its programs or one refusal: the laws
-- of src/tape.rt on that. First come
-- its blocks, then that there is one refusal, then that there is some answer.
use Rattle.std.proofs.Common.{◌≡◌, ℕ, zero, suc, ◌<◌, ◌≤◌, ◌⊎◌, inl, inr, List, [], ◌∷◌, map, Some, None, Result, Ok, Err, Contains, refl, ap, sym, subst, ◌∙◌, arith}
use Rattle.nc_number.specs.Causes.{cause_number}
use Rattle.nc_text.specs.declared.tape.Block.{Block}
use Rattle.nc_text.specs.declared.tape.Program.{Program}
use Rattle.nc_number.specs.Rising.{RiseFrom}
use Rattle.nc_text.specs.Shape.{blocks_in}
use Rattle.block_words.specs.declared.dialect.Dialect.{Dialect}
use Rattle.block_forms.specs.Forms.{BlockForm, block_or_refusal}
use Rattle.block_order.specs.Faults.{IsFirst}
use Rattle.tape_flow.specs.declared.fault.FlowFault.{FlowFault}
use Rattle.tape_flow.specs.Forms.{ProgramForm, at_line, programs_read}
use Rattle.tape_flow.specs.Controls.{controls}
use Rattle.tape_flow.specs.Exact.{HasBlockFault, IsAccepted, IsRefused}
use Rattle.tape_flow.specs.Exact.IsRefused.{block, order}
use Rattle.tape_flow.proofs.FirstRefused.{refusal_or, first_refusal, programs_tell, comes_to}
use Rattle.tape_flow.proofs.Accepted.{nothing_found}
use Rattle.flow_laws.specs.Answers.{CantBothFail, HasOneFirst, HasSomeFirst, HasRisingBlocks}
use Rattle.flow_laws.proofs.Least.{none_at_all}

-- A block of a list is its first one or one of the others.
here_or_later : (x : Block) (xs : List Block) (y : Block) → Contains (x ∷ xs) y → (x ≡ y) ⊎ Contains xs y
here_or_later x xs y (zero, within, is) = inl is
here_or_later x xs y (suc place, within, is) = inr (place, omega (arith, within), is)

-- An empty list has no block.
none_there : (y : Block) → Contains [] y → ⊥
none_there y (place, within, is) = absurd (omega (arith, within))

-- Each block of a list whose lines rise from a bound stands on a line above it.
behind : (xs : List Block) (low : ℕ) (y : Block) → RiseFrom low (map (λ b. b.line) xs) → Contains xs y → low < y.line
behind [] low y rise has = absurd (none_there y has)
behind (x ∷ xs) low y rise has = elim (here_or_later x xs y has) [
  | inl is ↦ subst (λ b. low < b.line) is rise.0
  | inr later ↦ let more : x.line < y.line = behind xs x.line y rise.1 later in omega (arith, rise.0)
]

-- Two blocks of a list with rising lines that stand on one line are the same block.
one_block : (xs : List Block) (low : ℕ) (a b : Block) → RiseFrom low (map (λ x. x.line) xs) → Contains xs a → Contains xs b
    → a.line ≡ b.line → a ≡ b
one_block [] low a b rise has other same = absurd (none_there a has)
one_block (x ∷ xs) low a b rise has other same =
    go (here_or_later x xs a has) (here_or_later x xs b other) (λ p q. one_block xs x.line a b rise.1 p q same)
  where
    go : (x ≡ a) ⊎ Contains xs a → (x ≡ b) ⊎ Contains xs b → (Contains xs a → Contains xs b → a ≡ b) → a ≡ b
    go (inl p) (inl q) rest = sym p ∙ q
    go (inl p) (inr q) rest =
        let more : x.line < b.line = behind xs x.line b rise.1 q in
        let own : x.line ≡ a.line = ap (λ z. z.line) p in absurd (omega arith)
    go (inr p) (inl q) rest =
        let more : x.line < a.line = behind xs x.line a rise.1 p in
        let own : x.line ≡ b.line = ap (λ z. z.line) q in absurd (omega arith)
    go (inr p) (inr q) rest = rest p q

-- If there is no first refusal among a block and those behind it, none of them is refused.
none_refused_at : (dialect : Dialect) (x : Block) (xs : List Block) (read : Result BlockForm ℕ) → block_or_refusal dialect x ≡ read
    → refusal_or (at_line x.line read) (first_refusal dialect xs) ≡ None
    → (first_refusal dialect xs ≡ None → (y : Block) (number : ℕ) → Contains xs y → block_or_refusal dialect y ≡ Err number → ⊥)
    → (y : Block) (number : ℕ) → Contains (x ∷ xs) y → block_or_refusal dialect y ≡ Err number → ⊥
none_refused_at dialect x xs (Err own) is clear rest y number has refused = absurd cc
none_refused_at dialect x xs (Ok form) is clear rest y number has refused = elim (here_or_later x xs y has) [
  | inl same ↦
      let read : block_or_refusal dialect y ≡ Ok form = subst (λ b. block_or_refusal dialect b ≡ Ok form) same is in
      absurd (let clash : ◌≡◌ {A = Result BlockForm ℕ} (Ok form) (Err number) = sym read ∙ refused in cc)
  | inr later ↦ rest clear y number later refused
]

-- If there is no first refusal among these blocks, none of them is refused.
none_refused : (dialect : Dialect) (xs : List Block) → first_refusal dialect xs ≡ None → (y : Block) (number : ℕ) → Contains xs y
    → block_or_refusal dialect y ≡ Err number → ⊥
none_refused dialect [] clear y number has refused = none_there y has
none_refused dialect (x ∷ xs) clear y number has refused =
    none_refused_at dialect x xs (block_or_refusal dialect x) refl clear (λ rest. none_refused dialect xs rest) y number has refused

-- If all blocks read, no line has a fault of a block.
no_block_fault : (dialect : Dialect) (tape : List Program) (programs : List ProgramForm) (line number : ℕ)
    → programs_read dialect tape ≡ Ok programs → HasBlockFault dialect tape line number → ⊥
no_block_fault dialect tape programs line number read has =
    none_refused dialect (blocks_in tape)
    (nothing_found (programs_read dialect tape) programs (first_refusal dialect (blocks_in tape)) (programs_tell dialect tape []) read) has.0
    number has.1 has.3

-- If the blocks of a tape stand on rising lines, two faults of blocks on one line have one number.
one_block_fault : (dialect : Dialect) (tape : List Program) (line other_line number other : ℕ) → HasRisingBlocks tape
    → line ≡ other_line → HasBlockFault dialect tape line number → HasBlockFault dialect tape other_line other → number ≡ other
one_block_fault dialect tape line other_line number other rising same a b =
    let lines : a.0.line ≡ b.0.line = a.2 ∙ same ∙ sym b.2 in
    let blocks : a.0 ≡ b.0 = one_block (blocks_in tape) 0 a.0 b.0 rising a.1 b.1 lines in
    let refused : block_or_refusal dialect b.0 ≡ Err number = subst (λ x. block_or_refusal dialect x ≡ Err number) blocks a.3 in
    let both : ◌≡◌ {A = Result BlockForm ℕ} (Err number) (Err other) = sym refused ∙ b.3 in cc

-- The law: a tape whose blocks stand on rising lines, if it is refused, is refused at one line, by
-- one number.
pub one_refusal : HasOneFirst → (dialect : Dialect) (tape : List Program) (line other_line number other : ℕ) → HasRisingBlocks tape
    → IsRefused dialect tape line number → IsRefused dialect tape other_line other → (line ≡ other_line) × (number ≡ other)
one_refusal law dialect tape line other_line number other rising (block a first) (block b other_first) =
    let le : line ≤ other_line = first other_line other b in
    let ge : other_line ≤ line = other_first line number a in
    let same : line ≡ other_line = omega arith in
    (same, one_block_fault dialect tape line other_line number other rising same a b)
one_refusal law dialect tape line other_line number other rising (block a first) (order programs read fault) =
    absurd (no_block_fault dialect tape programs line number read a)
one_refusal law dialect tape line other_line number other rising (order programs read fault) (block b first) =
    absurd (no_block_fault dialect tape programs other_line other read b)
one_refusal law dialect tape line other_line number other rising (order programs read a) (order others other_read b) =
    let both : ◌≡◌ {A = Result (List ProgramForm) FlowFault} (Ok programs) (Ok others) = sym read ∙ other_read in
    let same : programs ≡ others = cc in
    let own : IsFirst (controls others) line a.0 = subst (λ p. IsFirst (controls p) line a.0) same a.1 in
    let one = law (controls others) line other_line a.0 b.0 own b.1 in
    (one.0, a.2 ∙ ap cause_number one.1 ∙ sym b.2)

-- A block of the list is refused.
abbrev HasRefused : Dialect → List Block → Type 0
HasRefused dialect xs = (y : Block) × (number : ℕ) × Contains xs y × (block_or_refusal dialect y ≡ Err number)

-- If there is a first refusal among a block and those behind it, one of them is refused.
refused_at : (dialect : Dialect) (x : Block) (xs : List Block) (fault : FlowFault) (read : Result BlockForm ℕ)
    → block_or_refusal dialect x ≡ read → refusal_or (at_line x.line read) (first_refusal dialect xs) ≡ Some fault
    → (first_refusal dialect xs ≡ Some fault → HasRefused dialect xs) → HasRefused dialect (x ∷ xs)
refused_at dialect x xs fault (Ok form) is found rest =
    let later = rest found in
    (later.0, later.1, (suc later.2.0, omega (arith, later.2.1), later.2.2), later.3)
refused_at dialect x xs fault (Err number) is found rest = (x, number, (zero, omega arith, refl), is)

-- If there is a first refusal among these blocks, one of them is refused.
some_refused : (dialect : Dialect) (xs : List Block) (fault : FlowFault) → first_refusal dialect xs ≡ Some fault → HasRefused dialect xs
some_refused dialect [] fault found = absurd cc
some_refused dialect (x ∷ xs) fault found =
    refused_at dialect x xs fault (block_or_refusal dialect x) refl found (λ rest. some_refused dialect xs fault rest)

-- The law: no tape is neither accepted nor refused.
pub some_answer : HasSomeFirst → (dialect : Dialect) (tape : List Program)
    → CantBothFail ((programs : List ProgramForm) × IsAccepted dialect tape programs)
    ((line : ℕ) × (number : ℕ) × IsRefused dialect tape line number)
some_answer law dialect tape unaccepted unrefused = go (programs_read dialect tape) refl
  where
    go : (read : Result (List ProgramForm) FlowFault) → programs_read dialect tape ≡ read → ⊥
    go (Ok programs) read =
        law (controls programs) (λ sound. unaccepted (programs, record { reads = read; sound = sound }))
        (λ first. unrefused (first.0, cause_number first.1, order programs read (first.1, first.2, refl)))
    go (Err fault) read =
        let has = some_refused dialect (blocks_in tape) fault
        (comes_to (programs_read dialect tape) fault (first_refusal dialect (blocks_in tape)) (programs_tell dialect tape []) read) in
        none_at_all (λ line. (number : ℕ) × HasBlockFault dialect tape line number)
        (λ line own least. unrefused (line, own.0, block own.1 (λ other_line other other_has. least other_line (other, other_has))))
        has.0.line (has.1, (has.0, has.2, refl, has.3))
