-- What a block's jump or call finds, and the first fault of the second stage. For the proofs of
-- src/finding.rt and src/tables.rt.
use Rattle.std.proofs.Common.{◌≡◌, ◌≢◌, ℕ, zero, suc, ◌+◌, ◌<◌, ◌≤◌, ◌⊎◌, ◌↔◌, IsTrue, inl, inr, Bool, true, false, cond, eqb, List, [], ◌∷◌, length, map, drop, take, get_or, Option, Some, None, Result, Err, refl, sym, ap, ◌∙◌, arith, subst, ⊎_elim}
use Rattle.std.specs.List.{slice_get, Contains}
use Rattle.std.specs.Option.{is_some}
use Rattle.std.proofs.lemmas.Bool.{cases_eq, cases_lt, cases_order, eqb-true}
use Rattle.std.proofs.lemmas.Bool.Decides.{nat_tests}
use Rattle.std.proofs.lemmas.List.{length-drop}
use Rattle.std.proofs.lemmas.Option.{slice_get_within}
use Rattle.nc_number.specs.declared.cause.Cause.{Cause}
use Rattle.nc_number.specs.declared.cause.Cause.TheVariants.{NoProgram}
use Rattle.nc_number.specs.Causes.{cause_number}
use Rattle.block_order.specs.declared.control.Control.{Control}
use Rattle.block_order.specs.declared.control.Control.TheVariants.{Call, BackTo}
use Rattle.block_order.specs.declared.program.ControlBlock.{ControlBlock}
use Rattle.block_order.specs.declared.program.ControlProgram.{ControlProgram}
use Rattle.block_order.specs.Order.{has_sequence, first_numbered, or_else, seek, program_of, blocks_of, blocks, main_number, target_of}
use Rattle.block_order.specs.Shape.{IsReadTape}
use Rattle.block_order.specs.Faults.{Stage, Fitting, Finding, Waiting, HasFault, IsClear, IsNoLater, fixed_number, Stands, twice, mismatch, lost, unknown, strays, deep}
use Rattle.block_order.specs.Found.{JumpFault, BlockFault, jumps, calls, IsFaultOf, IsProgramFault}
use Rattle.block_order.specs.ProgramPlaces.{place_from, place_of}
use Rattle.block_order.proofs.Lines.{rise-programs, rise-own, block-order, block-in}
use Rattle.block_order.proofs.Located.{clear-new}
use Rattle.block_order.proofs.Programs.{found_stands}

-- A block that the search finds by its number is one of these blocks.
numbered-within : (bs : List ControlBlock) (p n t : ℕ) → first_numbered bs p n ≡ Some t → (p ≤ t) × (t < p + length bs)
numbered-within [] p n t e = absurd cc
numbered-within (b ∷ bs) p n t e = go (λ f. numbered-within bs (suc p) n t f) (has_sequence n b.sequence) e where
  go : (first_numbered bs (suc p) n ≡ Some t → (suc p ≤ t) × (t < suc p + length bs)) → (v : Bool)
      → cond v (Some p) (first_numbered bs (suc p) n) ≡ Some t → (p ≤ t) × (t < p + suc (length bs))
  go rest true f = let k : p ≡ t = cc in (omega arith, omega arith)
  go rest false f = let w = rest f in (omega (arith, w.0), omega (arith, w.1))

-- A search for a sequence number ends at a block of the program.
pub seek-within : (bs : List ControlBlock) (from n t : ℕ) → seek bs from n ≡ Some t → t < length bs
seek-within bs from n t e = go (first_numbered (drop (suc from) bs) (suc from) n) refl where
  go : (o : Option ℕ) → first_numbered (drop (suc from) bs) (suc from) n ≡ o → t < length bs
  go None f =
      let g : first_numbered bs 0 n ≡ Some t = sym (ap (λ o. or_else o (first_numbered bs 0 n)) f) ∙ e in
      let w = numbered-within bs 0 n t g in omega (arith, w.1)
  go (Some x) f =
      let g : Some x ≡ Some t = sym (ap (λ o. or_else o (first_numbered bs 0 n)) f) ∙ e in
      let k : x ≡ t = cc in
      let w = numbered-within (drop (suc from) bs) (suc from) n x f in
      omega (arith, w.0, w.1, length-drop (suc from) bs)

-- What is so of the jump of a block is so of the block: its one fault is that of the jump, or it
-- has none.
pub lift-jump : (tape : List ControlProgram) (p : ControlProgram) (place n : ℕ) (control : Control) (o : Option Cause)
    → fixed_number tape p.number control ≡ Some n → ((called repeats : ℕ) → control ≢ Call called repeats)
    → IsFaultOf (JumpFault p.blocks place n) o → IsFaultOf (BlockFault tape p place control) o
lift-jump tape p place n control (Some cause) fixed other w = jumps n cause fixed w
lift-jump tape p place n control None fixed other w = λ cause f. go cause f where
  go : (cause : Cause) → BlockFault tape p place control cause → ⊥
  go _ (jumps m cause e j) =
      let same : Some n ≡ Some m = sym fixed ∙ e in
      let k : n ≡ m = cc in
      w cause (subst (λ (x : ℕ). JumpFault p.blocks place x cause) (sym k) j)
  go _ (calls called repeats e none) = other called repeats e

-- An O number that has a place among these programs has a program there.
some-place : (tape : List ControlProgram) (at q i : ℕ) → place_from tape at q ≡ Some i → is_some (program_of tape q) ≡ true
some-place [] at q i e = absurd cc
some-place (t ∷ ts) at q i e = go (λ f. some-place ts (suc at) q i f) (eqb t.number q) e where
  go : (place_from ts (suc at) q ≡ Some i → is_some (program_of ts q) ≡ true) → (v : Bool)
      → cond v (Some at) (place_from ts (suc at) q) ≡ Some i → is_some (cond v (Some t) (program_of ts q)) ≡ true
  go rest true f = refl
  go rest false f = rest f

-- An O number that has a place on the tape has a program.
pub some-program : (tape : List ControlProgram) (q i : ℕ) → place_of tape q ≡ Some i → is_some (program_of tape q) ≡ true
some-program tape q i e = some-place tape 0 q i e

-- What is so of the call of a block is so of the block: its one fault is an O number without a
-- program, or it has none.
pub lift-call : (tape : List ControlProgram) (p : ControlProgram) (place called repeats : ℕ) (control : Control) (o : Option Cause)
    → control ≡ Call called repeats → o ≡ cond (is_some (program_of tape called)) None (Some NoProgram)
    → IsFaultOf (BlockFault tape p place control) o
lift-call tape p place called repeats control o is e = go (program_of tape called) refl where
  clear : (x : ControlProgram) → program_of tape called ≡ Some x → (cause : Cause) → BlockFault tape p place control cause → ⊥
  clear x there _ (jumps m cause f j) =
      let g : None ≡ Some m = sym (ap (fixed_number tape p.number) is) ∙ f in absurd cc
  clear x there _ (calls other more f none) =
      let same : Call called repeats ≡ Call other more = sym is ∙ f in
      let k : called ≡ other = cc in
      let g : Some x ≡ None = sym there ∙ ap (program_of tape) k ∙ none in absurd cc

  go : (r : Option ControlProgram) → program_of tape called ≡ r → IsFaultOf (BlockFault tape p place control) o
  go None f =
      let g : o ≡ Some NoProgram = e ∙ ap (λ r. cond (is_some r) None (Some NoProgram)) f in
      rw g (calls called repeats is f)
  go (Some x) f =
      let g : o ≡ None = e ∙ ap (λ r. cond (is_some r) None (Some NoProgram)) f in rw g (clear x f)

-- M99 P of the main program names a fixed sequence number.
pub main-fixed : (tape : List ControlProgram) (program n : ℕ) → program ≡ main_number tape
    → fixed_number tape program (BackTo n) ≡ Some n
main-fixed tape program n e =
    let t : eqb program (main_number tape) ≡ true = grind (arith, nat_tests) in rw t refl

-- The program's blocks below n have no fault in what they find.
abbrev pub ClearBlocks : List ControlProgram → ControlProgram → ℕ → Type 0
ClearBlocks tape p n =
    (place : ℕ) (b : ControlBlock) (cause : Cause) → place < n → slice_get p.blocks place ≡ Some b
    → BlockFault tape p place b.control cause → ⊥

-- If the next block has no fault either, one block more is clear.
pub blocks-more : (tape : List ControlProgram) (p : ControlProgram) (n : ℕ) (b : ControlBlock) → slice_get p.blocks n ≡ Some b
    → ((cause : Cause) → BlockFault tape p n b.control cause → ⊥) → ClearBlocks tape p n → ClearBlocks tape p (n + 1)
blocks-more tape p n b at here clear place other cause l there fault =
    ⊎_elim
    (λ (same : place ≡ n).
    let e : Some other ≡ Some b = sym there ∙ ap (slice_get p.blocks) same ∙ at in
    let k : other ≡ b = cc in
    here cause
    (subst (λ (x : ControlBlock). BlockFault tape p n x.control cause) k
    (subst (λ (j : ℕ). BlockFault tape p j other.control cause) same fault)))
    (λ (ne : place ≢ n). clear place other cause (omega arith) there fault)
    (cases_eq place n)

-- The fault, if it is of the second stage, lies at a block of a program of the tape, as that
-- block's own fault; of other stages nothing is said.
abbrev pub Found : List ControlProgram → Stage → ℕ → Cause → Type 0
Found tape Fitting line cause = Unit {0}
Found tape Finding line cause =
    (i : ℕ) × (p : ControlProgram) × (place : ℕ) × (b : ControlBlock) × (slice_get tape i ≡ Some p)
    × (slice_get p.blocks place ≡ Some b) × (line ≡ b.line) × BlockFault tape p place b.control cause
Found tape Waiting line cause = Unit {0}

-- A block of an O number stands in a program of the tape that has this number.
stands-in : (tape : List ControlProgram) (program place : ℕ) (b : ControlBlock) → Stands tape program place b
    → (i : ℕ) × (p : ControlProgram) × (slice_get tape i ≡ Some p) × (slice_get p.blocks place ≡ Some b)
    × (p.number ≡ program) × (blocks tape program ≡ p.blocks)
stands-in tape program place b s = go (program_of tape program) refl where
  go : (o : Option ControlProgram) → program_of tape program ≡ o
      → (i : ℕ) × (p : ControlProgram) × (slice_get tape i ≡ Some p) × (slice_get p.blocks place ≡ Some b)
      × (p.number ≡ program) × (blocks tape program ≡ p.blocks)
  go None e =
      let f : slice_get {X = ControlBlock} [] place ≡ Some b = sym (ap (λ o. slice_get (blocks_of o) place) e) ∙ s in absurd cc
  go (Some p) e =
      let w = found_stands tape program p e in
      (w.0, p, w.1, sym (ap (λ o. slice_get (blocks_of o) place) e) ∙ s, w.2, ap blocks_of e)

-- A jump that fails is the fault of its block, in a program of the tape.
found-jump : (tape : List ControlProgram) (program place n : ℕ) (b : ControlBlock) (cause : Cause)
    → Stands tape program place b → fixed_number tape program b.control ≡ Some n
    → JumpFault (blocks tape program) place n cause → Found tape Finding b.line cause
found-jump tape program place n b cause s f j =
    let w = stands-in tape program place b s in (
      w.0,
      w.1,
      place,
      b,
      w.2,
      w.3,
      refl,
      jumps n cause (ap (λ q. fixed_number tape q b.control) w.4 ∙ f)
          (subst (λ (bs : List ControlBlock). JumpFault bs place n cause) w.5 j),
    )

-- Each fault lies where `Found` says.
found : (tape : List ControlProgram) (stage : Stage) (line : ℕ) (cause : Cause) → HasFault tape stage line cause
    → Found tape stage line cause
found tape _ _ _ (twice before after p e w) = tt
found tape _ _ _ (mismatch p place b has at m) = tt
found tape _ _ _ (lost program place n b cause s f e) = found-jump tape program place n b cause s f e
found tape _ _ _ (unknown program place called repeats b s f e) =
    let w = stands-in tape program place b s in
    (w.0, w.1, place, b, w.2, w.3, refl, calls called repeats f e)
found tape _ _ _ (strays program place b s m) = tt
found tape _ _ _ (deep program place called repeats b r s f e) = tt

-- The program that an O number finds is the first of that number.
find-first : (tape : List ControlProgram) (i : ℕ) (p : ControlProgram) → slice_get tape i ≡ Some p
    → (Contains (map (λ q. q.number) (take i tape)) p.number → ⊥) → program_of tape p.number ≡ Some p
find-first [] i p e new = absurd cc
find-first (t ∷ ts) zero p e new =
    let same : t ≡ p = cc in
    let number : t.number ≡ p.number = ap (λ x. x.number) same in
    let test : eqb t.number p.number ≡ true = grind (arith, nat_tests) in
    rw test (ap (λ x. Some x) same)
find-first (t ∷ ts) (suc i) p e new =
    go (find-first ts i p e
    (λ (w : Contains (map (λ q. q.number) (take i ts)) p.number). new (suc w.0, omega (arith, w.1), w.2)))
    (eqb t.number p.number) refl where
      go : program_of ts p.number ≡ Some p → (v : Bool) → eqb t.number p.number ≡ v → program_of (t ∷ ts) p.number ≡ Some p
      go rest true test = absurd (new (0, omega arith, eqb-true t.number p.number test))
      go rest false test = rw test rest

-- A program of a tape whose programs fit together has its own blocks.
pub own_blocks : (tape : List ControlProgram) (i : ℕ) (p : ControlProgram) → IsClear tape Fitting → slice_get tape i ≡ Some p
    → blocks tape p.number ≡ p.blocks
own_blocks tape i p clear at = ap blocks_of (find-first tape i p at (clear-new tape i p clear at))

-- A block's own fault is a fault of the tape.
block-has : (tape : List ControlProgram) (p : ControlProgram) (place : ℕ) (b : ControlBlock) (cause : Cause)
    → blocks tape p.number ≡ p.blocks → slice_get p.blocks place ≡ Some b → BlockFault tape p place b.control cause
    → HasFault tape Finding b.line cause
block-has tape p place b _ same at (jumps n cause f j) =
    lost p.number place n b cause (ap (λ bs. slice_get bs place) same ∙ at) f (ap (λ bs. target_of bs place n) same ∙ j)
block-has tape p place b _ same at (calls called repeats f e) =
    unknown p.number place called repeats b (ap (λ bs. slice_get bs place) same ∙ at) f e

-- A jump fails for one cause only.
jump-same : (bs : List ControlBlock) (place n : ℕ) (a b : Cause) → JumpFault bs place n a → JumpFault bs place n b → a ≡ b
jump-same bs place n a b e f = let both : ◌≡◌ {A = Result ℕ Cause} (Err a) (Err b) = sym e ∙ f in cc

-- A block has one fault at most.
fault-same : (tape : List ControlProgram) (p : ControlProgram) (place : ℕ) (control : Control) (a b : Cause)
    → BlockFault tape p place control a → BlockFault tape p place control b → a ≡ b
fault-same tape p place control _ _ (jumps n a f j) (jumps m b g k) =
    let e : Some n ≡ Some m = sym f ∙ g in
    let same : n ≡ m = cc in
    jump-same p.blocks place n a b j (subst (λ (x : ℕ). JumpFault p.blocks place x b) (sym same) k)
fault-same tape p place control _ _ (jumps n a f j) (calls called repeats g e) =
    let k : None ≡ Some n = sym (ap (fixed_number tape p.number) g) ∙ f in absurd cc
fault-same tape p place control _ _ (calls called repeats g e) (jumps n a f j) =
    let k : None ≡ Some n = sym (ap (fixed_number tape p.number) g) ∙ f in absurd cc
fault-same tape p place control _ _ (calls called repeats g e) (calls other more h f) = refl

-- The tape's programs below n have no fault in what their jumps and calls find.
abbrev pub ClearFinds : List ControlProgram → ℕ → Type 0
ClearFinds tape n =
    (i : ℕ) (p : ControlProgram) (place : ℕ) (b : ControlBlock) (cause : Cause) → i < n → slice_get tape i ≡ Some p
    → slice_get p.blocks place ≡ Some b → BlockFault tape p place b.control cause → ⊥

-- If no program has a fault, the second stage is clear.
pub finds-all : (tape : List ControlProgram) (n : ℕ) → length tape ≤ n → ClearFinds tape n → IsClear tape Finding
finds-all tape n l clear line cause fault =
    let w = found tape Finding line cause fault in
    clear w.0 w.1 w.2 w.3 cause (omega (arith, slice_get_within tape w.0 w.1 w.4)) w.4 w.5 w.7

-- If the next program has no fault either, one program more is clear.
pub finds-more : (tape : List ControlProgram) (n : ℕ) (p : ControlProgram) → slice_get tape n ≡ Some p
    → IsProgramFault tape p None → ClearFinds tape n → ClearFinds tape (n + 1)
finds-more tape n p at here clear i q place b cause l there is fault =
    ⊎_elim
    (λ (same : i ≡ n).
    let e : Some q ≡ Some p = sym there ∙ ap (slice_get tape) same ∙ at in
    let k : q ≡ p = cc in
    here place b cause (subst (λ (r : ControlProgram). slice_get r.blocks place ≡ Some b) k is)
    (subst (λ (r : ControlProgram). BlockFault tape r place b.control cause) k fault))
    (λ (other : i ≢ n). clear i q place b cause (omega arith) there is fault)
    (cases_eq i n)

-- Of two faults of one program that of the earlier block is no later.
later-block : (tape : List ControlProgram) (n : ℕ) (p : ControlProgram) (first place : ℕ) (a b : ControlBlock) (x y : Cause)
    → IsReadTape tape → slice_get tape n ≡ Some p → slice_get p.blocks first ≡ Some a → slice_get p.blocks place ≡ Some b
    → BlockFault tape p first a.control x → BlockFault tape p place b.control y → first ≤ place
    → IsNoLater a.line x b.line y
later-block tape n p first place a b x y listed at here there f g l =
    ⊎_elim
    (λ (same : first ≡ place).
    let e : Some a ≡ Some b = sym here ∙ ap (slice_get p.blocks) same ∙ there in
    let k : a ≡ b = cc in
    let h : BlockFault tape p first a.control y =
    subst (λ (j : ℕ). BlockFault tape p j a.control y) (sym same)
    (subst (λ (z : ControlBlock). BlockFault tape p place z.control y) (sym k) g) in
    let number : cause_number x ≡ cause_number y = ap cause_number (fault-same tape p first a.control x y f h) in
    inr (ap (λ z. z.line) k, omega arith))
    (λ (other : first ≢ place).
    inl (block-order p.blocks p.line first place a b (rise-own tape 0 n p listed.lines at).1.1 here there (omega arith)))
    (cases_eq first place)

-- The first fault of the first program that has one is the first of the stage.
pub found-first : (tape : List ControlProgram) (n : ℕ) (p : ControlProgram) (line : ℕ) (cause : Cause) → IsReadTape tape
    → IsClear tape Fitting → slice_get tape n ≡ Some p → ClearFinds tape n
    → IsProgramFault tape p (Some (record { cause = cause; line = line }))
    → HasFault tape Finding line cause
    × ((l : ℕ) (other : Cause) → HasFault tape Finding l other → IsNoLater line cause l other)
found-first tape n p line cause listed fits at clear w =
    let b = w.1 in
    let P : ℕ → Type 0 = λ line.
    HasFault tape Finding line cause
    × ((l : ℕ) (other : Cause) → HasFault tape Finding l other → IsNoLater line cause l other) in
    subst P w.3 (block-has tape p w.0 b cause (own_blocks tape n p fits at) w.2 w.4, λ l other fault. later l other fault)
  where
    at-place : (l : ℕ) (other : Cause) (i : ℕ) (q : ControlProgram) (place : ℕ) (b : ControlBlock) → slice_get tape i ≡ Some q
        → slice_get q.blocks place ≡ Some b → l ≡ b.line → BlockFault tape q place b.control other
        → (n ≡ i) ⊎ ((n < i) ⊎ (i < n)) → IsNoLater w.1.line cause l other
    at-place l other i q place b there is same f (inl e) =
        let k : Some q ≡ Some p = sym there ∙ ap (slice_get tape) (sym e) ∙ at in
        let m : q ≡ p = cc in
        let is_p : slice_get p.blocks place ≡ Some b = subst (λ (r : ControlProgram). slice_get r.blocks place ≡ Some b) m is in
        let f_p : BlockFault tape p place b.control other =
        subst (λ (r : ControlProgram). BlockFault tape r place b.control other) m f in
        subst (λ (z : ℕ). IsNoLater w.1.line cause z other) (sym same)
        (later-block tape n p w.0 place w.1 b cause other listed at w.2 is_p w.4 f_p (w.5 place b other is_p f_p))
    at-place l other i q place b there is same f (inr (inl before)) =
        let lt = rise-programs tape 0 n i w.1.line b.line p q listed.lines at there before
        (inr (block-in p.blocks w.0 w.1 w.2)) (inr (block-in q.blocks place b is)) in
        inl (omega arith)
    at-place l other i q place b there is same f (inr (inr behind)) = absurd (clear i q place b other behind there is f)

    later : (l : ℕ) (other : Cause) → HasFault tape Finding l other → IsNoLater w.1.line cause l other
    later l other fault =
        let z = found tape Finding l other fault in
        at-place l other z.0 z.1 z.2 z.3 z.4 z.5 z.6 z.7 (cases_order n z.0)

-- The test whether a program is the main one is right.
pub main-test : (number main first : ℕ) → main ≡ first → IsTrue (eqb number main) ↔ (number ≡ first)
main-test number main first e = (λ t. eqb-true number main t ∙ e, λ f. equal-test number main (f ∙ sym e)) where
  equal-test : (a b : ℕ) → a ≡ b → eqb a b ≡ true
  equal-test a b g = grind (arith, nat_tests)

-- A block with a fault is not below the clear ones.
pub first-block : (tape : List ControlProgram) (p : ControlProgram) (i : ℕ) → ClearBlocks tape p i
    → (place : ℕ) (other : ControlBlock) (cause : Cause) → slice_get p.blocks place ≡ Some other
    → BlockFault tape p place other.control cause → i ≤ place
first-block tape p i clear place other cause at fault = go (cases_lt place i) where
  go : (place < i) ⊎ (i ≤ place) → i ≤ place
  go (inl l) = absurd (clear place other cause l at fault)
  go (inr l) = l

-- The first program is the main one.
pub main-is : (tape : List ControlProgram) (p : ControlProgram) → 0 < length tape → p ≡ get_or tape 0 p → p.number ≡ main_number tape
main-is [] p l e = absurd (omega arith)
main-is (t ∷ ts) p l e = ap (λ x. x.number) e
