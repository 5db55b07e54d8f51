-- In which program a fault of the first stage lies (programs and loops that don't fit together, 60
-- and 52), and which such fault is the first. For the proofs of src/fitting.rt and src/tables.rt,
-- and for Findable.
use Rattle.std.proofs.Common.{◌≡◌, ◌≢◌, ℕ, zero, suc, ◌+◌, ◌<◌, ◌≤◌, ◌⊎◌, inl, inr, Bool, true, false, ◌||◌, nat_eq, eqb, List, [], ◌∷◌, ◌++◌, length, map, get_or, take, drop, Option, Some, None, refl, sym, ap, ◌∙◌, arith, subst, ⊎_elim}
use Rattle.std.specs.List.{slice_get, Contains, list_any}
use Rattle.std.proofs.lemmas.Bool.{cases_eq, cases_order, eqb-true}
use Rattle.std.proofs.lemmas.Bool.Decides.{nat_tests}
use Rattle.std.proofs.lemmas.Option.{slice_get_within, slice_get-get_or}
use Rattle.nc_number.specs.declared.cause.Cause.{Cause}
use Rattle.nc_number.specs.declared.cause.Cause.TheVariants.{ProgramTwice, LoopMismatch}
use Rattle.block_order.specs.declared.program.ControlBlock.{ControlBlock}
use Rattle.block_order.specs.declared.program.ControlProgram.{ControlProgram}
use Rattle.block_order.specs.Loops.{IsMismatch}
use Rattle.nc_number.specs.Rising.{RiseFrom}
use Rattle.block_order.specs.Shape.{lines_of_program, IsReadTape}
use Rattle.block_order.specs.Faults.{Stage, Fitting, Finding, Waiting, HasFault, IsClear, IsNoLater, twice, mismatch, lost, unknown, strays, deep}
use Rattle.block_order.specs.First.{IsMismatchLine}
use Rattle.block_order.specs.Misplaced.{IsFirstMismatch}
use Rattle.block_order.proofs.Mismatched.{mismatch-within}
use Rattle.block_order.proofs.Lines.{In, rise-programs, rise-own, block-over, block-order, block-in}

-- The program at i has a fault of the first stage.
pub data FitFault (tape : List ControlProgram) (i : ℕ) (p : ControlProgram) : ℕ → Cause → Type 0 where
  -- Its O number was given before.
  again : Contains (map (λ q. q.number) (take i tape)) p.number → FitFault tape i p p.line ProgramTwice
  -- The heads and ends of its loops don't fit together.
  apart : (place : ℕ) (block : ControlBlock) → slice_get p.blocks place ≡ Some block → IsMismatch p.blocks place
      → FitFault tape i p block.line LoopMismatch

-- The fault, if it is of the first stage, is one of a program of the tape; of other stages nothing
-- is said.
abbrev pub Lies : List ControlProgram → Stage → ℕ → Cause → Type 0
Lies tape Fitting line cause =
    (i : ℕ) × (p : ControlProgram) × (slice_get tape i ≡ Some p) × FitFault tape i p line cause
Lies tape Finding line cause = Unit {0}
Lies tape Waiting line cause = Unit {0}

-- Behind the first of two joined lists stands the first entry of the second.
get-seam : (xs ys : List ControlProgram) (p : ControlProgram) → slice_get (xs ++ p ∷ ys) (length xs) ≡ Some p
get-seam [] ys p = refl
get-seam (x ∷ xs) ys p = get-seam xs ys p

-- As many entries of two joined lists as the first one has are the first one.
take-seam : (xs ys : List ControlProgram) → take (length xs) (xs ++ ys) ≡ xs
take-seam [] ys = refl
take-seam (x ∷ xs) ys = ap (λ zs. x ∷ zs) (take-seam xs ys)

-- An entry of the tape that is equal to the program is the program at that index.
contained-at : (tape : List ControlProgram) (p : ControlProgram) (k : ℕ) → k < length tape → get_or tape k p ≡ p
    → slice_get tape k ≡ Some p
contained-at [] p k l e = absurd (omega arith)
contained-at (t ∷ ts) p zero l e = ap (λ q. Some q) e
contained-at (t ∷ ts) p (suc k) l e = contained-at ts p k (omega arith) e

-- An entry of the tape is one that it contains.
at-contained : (tape : List ControlProgram) (p : ControlProgram) (k : ℕ) → slice_get tape k ≡ Some p → Contains tape p
at-contained [] p k e = absurd cc
at-contained (t ∷ ts) p zero e = let same : t ≡ p = cc in (0, omega arith, same)
at-contained (t ∷ ts) p (suc k) e = let w = at-contained ts p k e in (suc w.0, omega (arith, w.1), w.2)

-- Each fault lies where `Lies` says.
lies : (tape : List ControlProgram) (stage : Stage) (line : ℕ) (cause : Cause) → HasFault tape stage line cause
    → Lies tape stage line cause
lies tape _ _ _ (twice before after p e w) = (
  length before,
  p,
  ap (λ t. slice_get t (length before)) e ∙ get-seam before after p,
  again (subst (λ (t : List ControlProgram). Contains (map (λ q. q.number) t) p.number)
      (sym (ap (take (length before)) e ∙ take-seam before (p ∷ after))) w),
)
lies tape _ _ _ (mismatch p place block has at m) =
    (has.0, p, contained-at tape p has.0 has.1 has.2, apart place block at m)
lies tape _ _ _ (lost program place n block cause s f e) = tt
lies tape _ _ _ (unknown program place called repeats block s f e) = tt
lies tape _ _ _ (strays program place block s m) = tt
lies tape _ _ _ (deep program place called repeats block r s f e) = tt

-- The tape is what stands before a program, the program and the rest.
split-at : (tape : List ControlProgram) (i : ℕ) (p : ControlProgram) → slice_get tape i ≡ Some p
    → tape ≡ take i tape ++ p ∷ drop (suc i) tape
split-at [] i p e = absurd cc
split-at (t ∷ ts) zero p e = let same : t ≡ p = cc in ap (λ q. q ∷ ts) same
split-at (t ∷ ts) (suc i) p e = ap (λ zs. t ∷ zs) (split-at ts i p e)

-- A fault of a program is one of the tape.
has-fault : (tape : List ControlProgram) (i : ℕ) (p : ControlProgram) (line : ℕ) (cause : Cause) → slice_get tape i ≡ Some p
    → FitFault tape i p line cause → HasFault tape Fitting line cause
has-fault tape i p _ _ at (again w) = twice (take i tape) (drop (suc i) tape) p (split-at tape i p at) w
has-fault tape i p _ _ at (apart place block b m) = mismatch p place block (at-contained tape p i at) b m

-- The line of a program's fault is one of the program's lines.
fault-line : (tape : List ControlProgram) (i : ℕ) (p : ControlProgram) (line : ℕ) (cause : Cause) → FitFault tape i p line cause
    → In line (lines_of_program p)
fault-line tape i p _ _ (again w) = inl refl
fault-line tape i p _ _ (apart place block b m) = inr (block-in p.blocks place block b)

-- The tape's programs below n have no fault of the first stage.
abbrev pub ClearTo : List ControlProgram → ℕ → Type 0
ClearTo tape n =
    (i : ℕ) (p : ControlProgram) (line : ℕ) (cause : Cause) → i < n → slice_get tape i ≡ Some p
    → FitFault tape i p line cause → ⊥

-- If no program has a fault, the first stage is clear.
pub clear-all : (tape : List ControlProgram) (n : ℕ) → length tape ≤ n → ClearTo tape n → IsClear tape Fitting
clear-all tape n l clear line cause fault =
    let w = lies tape Fitting line cause fault in
    clear w.0 w.1 line cause (omega (arith, slice_get_within tape w.0 w.1 w.2)) w.2 w.3

-- A program whose number is new and whose loops fit has no fault.
none-here : (tape : List ControlProgram) (i : ℕ) (p : ControlProgram) (line : ℕ) (cause : Cause)
    → (Contains (map (λ q. q.number) (take i tape)) p.number → ⊥) → ((place : ℕ) → IsMismatch p.blocks place → ⊥)
    → FitFault tape i p line cause → ⊥
none-here tape i p _ _ new fits (again w) = new w
none-here tape i p _ _ new fits (apart place block b m) = fits place m

-- If the number of the next program is new and its loops fit, one program more has no fault.
pub clear-more : (tape : List ControlProgram) (n : ℕ) (p : ControlProgram) → slice_get tape n ≡ Some p
    → (Contains (map (λ q. q.number) (take n tape)) p.number → ⊥) → ((place : ℕ) → IsMismatch p.blocks place → ⊥)
    → ClearTo tape n → ClearTo tape (n + 1)
clear-more tape n p at new fits clear i q line cause l there fault =
    ⊎_elim
    (λ (same : i ≡ n).
    let e : Some q ≡ Some p = sym there ∙ ap (slice_get tape) same ∙ at in
    let k : q ≡ p = cc in
    none-here tape n p line cause new fits
    (subst (λ (r : ControlProgram). FitFault tape n r line cause) k
    (subst (λ (j : ℕ). FitFault tape j q line cause) same fault)))
    (λ (other : i ≢ n). clear i q line cause (omega arith) there fault)
    (cases_eq i n)

-- If a program is the first with a fault, and this fault of it is no later than its others, then it
-- is no later than any fault of the stage.
first-in : (tape : List ControlProgram) (n : ℕ) (p : ControlProgram) (line : ℕ) (cause : Cause) → IsReadTape tape
    → slice_get tape n ≡ Some p → ClearTo tape n → In line (lines_of_program p)
    → ((l : ℕ) (other : Cause) → FitFault tape n p l other → IsNoLater line cause l other)
    → (l : ℕ) (other : Cause) → HasFault tape Fitting l other → IsNoLater line cause l other
first-in tape n p line cause listed at clear here own l other fault =
    let w = lies tape Fitting l other fault in go w.0 w.1 w.2 w.3 (cases_order n w.0) where
      go : (i : ℕ) (q : ControlProgram) → slice_get tape i ≡ Some q → FitFault tape i q l other → (n ≡ i) ⊎ ((n < i) ⊎ (i < n))
          → IsNoLater line cause l other
      go i q there f (inl same) =
          let e : Some q ≡ Some p = sym there ∙ ap (slice_get tape) (sym same) ∙ at in
          let k : q ≡ p = cc in
          own l other
          (subst (λ (r : ControlProgram). FitFault tape n r l other) k
          (subst (λ (j : ℕ). FitFault tape j q l other) (sym same) f))
      go i q there f (inr (inl before)) =
          inl (rise-programs tape 0 n i line l p q listed.lines at there before here (fault-line tape i q l other f))
      go i q there f (inr (inr behind)) = absurd (clear i q l other behind there f)

-- The lines of a program's blocks rise from that of its O number.
own-lines : (tape : List ControlProgram) (n : ℕ) (p : ControlProgram) → IsReadTape tape → slice_get tape n ≡ Some p
    → RiseFrom p.line (map (λ b. b.line) p.blocks)
own-lines tape n p listed at = (rise-own tape 0 n p listed.lines at).1.1

-- No fault of a program is before that of its own O number, if that was given before.
twice-own : (tape : List ControlProgram) (n : ℕ) (p : ControlProgram) (l : ℕ) (other : Cause) → IsReadTape tape
    → slice_get tape n ≡ Some p → FitFault tape n p l other → IsNoLater p.line ProgramTwice l other
twice-own tape n p _ _ listed at (again w) = inr (refl, omega arith)
twice-own tape n p _ _ listed at (apart place block b m) =
    inl (block-over p.blocks p.line place block (own-lines tape n p listed at) b)

-- The first program with a fault, whose number was given before, has the first fault.
pub twice-first : (tape : List ControlProgram) (n : ℕ) (p : ControlProgram) → IsReadTape tape → slice_get tape n ≡ Some p
    → ClearTo tape n → Contains (map (λ q. q.number) (take n tape)) p.number
    → HasFault tape Fitting p.line ProgramTwice
    × ((l : ℕ) (other : Cause) → HasFault tape Fitting l other → IsNoLater p.line ProgramTwice l other)
twice-first tape n p listed at clear w = (
  has-fault tape n p p.line ProgramTwice at (again w),
  first-in tape n p p.line ProgramTwice listed at clear (inl refl) (λ l other f. twice-own tape n p l other listed at f),
)

-- No fault of a program whose number is new is before its first mismatch.
apart-own : (tape : List ControlProgram) (n : ℕ) (p : ControlProgram) (first : ℕ) (b : ControlBlock) (l : ℕ) (other : Cause)
    → IsReadTape tape → slice_get tape n ≡ Some p → slice_get p.blocks first ≡ Some b
    → (Contains (map (λ q. q.number) (take n tape)) p.number → ⊥)
    → ((place : ℕ) → IsMismatch p.blocks place → first ≤ place)
    → FitFault tape n p l other → IsNoLater b.line LoopMismatch l other
apart-own tape n p first b _ _ listed at here new least (again w) = absurd (new w)
apart-own tape n p first b _ _ listed at here new least (apart place block there m) =
    ⊎_elim
    (λ (same : first ≡ place).
    let e : Some b ≡ Some block = sym here ∙ ap (slice_get p.blocks) same ∙ there in
    let k : b ≡ block = cc in
    inr (ap (λ x. x.line) k, omega arith))
    (λ (other : first ≢ place).
    inl (block-order p.blocks p.line first place b block (own-lines tape n p listed at) here there
    (omega (arith, least place m))))
    (cases_eq first place)

-- The first program with a fault, whose loops don't fit, has the first fault.
pub apart-first : (tape : List ControlProgram) (n : ℕ) (p : ControlProgram) (line : ℕ) → IsReadTape tape
    → slice_get tape n ≡ Some p → ClearTo tape n → (Contains (map (λ q. q.number) (take n tape)) p.number → ⊥)
    → IsMismatchLine p.blocks (Some line)
    → HasFault tape Fitting line LoopMismatch
    × ((l : ℕ) (other : Cause) → HasFault tape Fitting l other → IsNoLater line LoopMismatch l other)
apart-first tape n p line listed at clear new w =
    let b = w.1 in
    let P : ℕ → Type 0 = λ line.
    HasFault tape Fitting line LoopMismatch
    × ((l : ℕ) (other : Cause) → HasFault tape Fitting l other → IsNoLater line LoopMismatch l other) in
    subst P w.3 (
      has-fault tape n p b.line LoopMismatch at (apart w.0 b w.2 w.4),
      first-in tape n p b.line LoopMismatch listed at clear (inr (block-in p.blocks w.0 b w.2))
          (λ l other f. apart-own tape n p w.0 b l other listed at w.2 new w.5 f),
    )

-- If a search finds a number in a list, the list contains it.
pub any-contains : (q : ℕ) (ns : List ℕ) → list_any (nat_eq q) ns ≡ true → Contains ns q
any-contains q [] e = absurd cc
any-contains q (n ∷ ns) e = go (λ more. any-contains q ns more) (eqb q n) refl where
  go : (list_any (nat_eq q) ns ≡ true → Contains ns q) → (v : Bool) → eqb q n ≡ v → Contains (n ∷ ns) q
  go rest true t = (0, omega arith, sym (eqb-true q n t))
  go rest false t =
      let w = rest (sym (ap (λ v. v || list_any (nat_eq q) ns) t) ∙ e) in (suc w.0, omega (arith, w.1), w.2)

-- If a list contains a number, a search for it does not fail.
pub contains-any : (q k : ℕ) (ns : List ℕ) → k < length ns → get_or ns k q ≡ q → list_any (nat_eq q) ns ≡ false → ⊥
contains-any q k [] l e f = absurd (omega arith)
contains-any q zero (n ∷ ns) l e f =
    let t : eqb q n ≡ true = grind (arith, nat_tests) in
    let g : true ≡ false = sym (ap (λ v. v || list_any (nat_eq q) ns) t) ∙ f in absurd cc
contains-any q (suc k) (n ∷ ns) l e f = contains-any q k ns (omega arith) e (or-false (eqb q n) (list_any (nat_eq q) ns) f) where
  or-false : (a b : Bool) → (a || b) ≡ false → b ≡ false
  or-false true b g = absurd cc
  or-false false b g = g

-- The line of the block at the first mismatch is the line of the first mismatch.
pub mismatch-line : (bs : List ControlBlock) (o : Option ℕ) (first : ℕ) (d : ControlBlock) → IsFirstMismatch bs o
    → o ≡ Some first → IsMismatchLine bs (Some (get_or bs first d).line)
mismatch-line bs None first d w e = absurd cc
mismatch-line bs (Some x) first d w e =
    let k : x ≡ first = cc in
    subst (λ (n : ℕ). IsMismatchLine bs (Some (get_or bs n d).line)) k
    (x, get_or bs x d, slice_get-get_or bs x d w.0, refl, w.1, w.2)

-- If no place is told as the first mismatch, no block is a mismatch.
pub no-mismatch : (bs : List ControlBlock) (o : Option ℕ) → IsFirstMismatch bs o → o ≡ None
    → (place : ℕ) → IsMismatch bs place → ⊥
no-mismatch bs None w e = w
no-mismatch bs (Some x) w e = absurd cc

-- If no line is told as that of the first mismatch, no block is a mismatch.
pub no-line : (bs : List ControlBlock) (o : Option ℕ) → IsMismatchLine bs o → o ≡ None → (place : ℕ) → IsMismatch bs place → ⊥
no-line bs None w e = w
no-line bs (Some x) w e = absurd cc

-- If the first stage is clear, no program has a number that was given before.
pub clear-new : (tape : List ControlProgram) (i : ℕ) (p : ControlProgram) → IsClear tape Fitting → slice_get tape i ≡ Some p
    → Contains (map (λ q. q.number) (take i tape)) p.number → ⊥
clear-new tape i p clear at w = clear p.line ProgramTwice (has-fault tape i p p.line ProgramTwice at (again w))

-- If the first stage is clear, no block of a program is a mismatch.
pub clear-fits : (tape : List ControlProgram) (i : ℕ) (p : ControlProgram) → IsClear tape Fitting → slice_get tape i ≡ Some p
    → (place : ℕ) → IsMismatch p.blocks place → ⊥
clear-fits tape i p clear at place m =
    let b = block-at p.blocks place (mismatch-within p.blocks place m) in
    clear b.0.line LoopMismatch (has-fault tape i p b.0.line LoopMismatch at (apart place b.0 b.1 m))
  where
    block-at : (bs : List ControlBlock) (k : ℕ) → k < length bs → (b : ControlBlock) × (slice_get bs k ≡ Some b)
    block-at [] k l = absurd (omega arith)
    block-at (b ∷ bs) zero l = (b, refl)
    block-at (b ∷ bs) (suc k) l = block-at bs k (omega arith)
