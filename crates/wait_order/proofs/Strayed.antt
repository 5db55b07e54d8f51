-- A block that may pass a wait does so by one of the tape's searches, or without a search for
-- several numbers (`IsFixedStray`). So the first of both kinds is the first of all. A stretch is
-- the run of blocks up to a mark: a wait, an end, an M99 without a number, or a loud call. A loud
-- program comes to a wait or an end, itself or by its calls; the others are quiet. For the proofs
-- of src/view.rt, and for Called and Deepest.
use Rattle.std.proofs.Common.{◌≡◌, ◌≢◌, IsTrue, ℕ, ◌+◌, ◌<◌, ◌≤◌, ◌⊎◌, inl, inr, false, List, length, Option, Some, None, slice_get, slice_index_or, refl, ap, sym, subst, ◌∙◌, arith}
use Rattle.std.proofs.lemmas.Option.{slice_get_within}
use Rattle.nc_number.proofs.Counts.{last_or_before}
use Rattle.block_order.specs.declared.control.Control.{Control}
use Rattle.block_order.specs.declared.control.Control.TheVariants.{Next, Goto, While, Do, EndLoop, Wait, End, Call, Back, BackTo}
use Rattle.block_order.specs.declared.program.ControlBlock.{ControlBlock}
use Rattle.block_order.specs.declared.program.ControlProgram.{ControlProgram}
use Rattle.wait_order.specs.declared.search.Search.{Search}
use Rattle.wait_order.specs.declared.search.Search.TheVariants.{Computed}
use Rattle.block_order.specs.Order.{blocks, control_of, control_at, Leads}
use Rattle.block_order.specs.Loud.{loud, stretch}
use Rattle.block_order.specs.Labels.{IsTarget, Counts}
use Rattle.block_order.specs.Faults.{Stands, Strays, jump, loop, back}
use Rattle.wait_order.specs.Searchers.{is_searcher, is_sought}
use Rattle.wait_order.specs.Searches.{IsLongQuiet, IsReturnSearch, AreSearches, IsSearchStrayBelow}
use Rattle.wait_order.specs.Waiting.{LeadsElsewhere, IsSearchStray, IsFixedStray, IsFixedStrayAt, IsStray, IsStrayLine, HasRisingLines, IsLeast}
use Rattle.nc_number.specs.Options.{lesser}
use Rattle.block_order.proofs.Faultless.{block_of_control}
use Rattle.block_order.proofs.Searches.{loop_facts}
use Rattle.wait_order.proofs.Counted.{on_tape}
use Rattle.wait_order.proofs.Least.{least_none, least_either}
use Rattle.wait_order.proofs.Leading.{stands_at}
use Rattle.wait_order.proofs.Searching.{computed_is, call_is, same_as_itself, has_back, back_has}
use Rattle.block_order.proofs.Opened.{within_control}

-- The control at a place is that of the block there.
pub control_of_block : (bs : List ControlBlock) (place : ℕ) (b : ControlBlock) → slice_get bs place ≡ Some b
    → control_at bs place ≡ Some b.control
control_of_block bs place b e = ap (λ o. control_of o) e

-- What `IsFixedStray` names, in the main program or a loud one, may pass a wait.
fixed_strays : (tape : List ControlProgram) (program place : ℕ) (b : ControlBlock) (c : Control) → b.control ≡ c → Counts tape program
    → IsFixedStray tape program place c → Strays tape program place b
fixed_strays tape program place b (Goto None) e counts h = absurd h
fixed_strays tape program place b (Goto (Some n)) e counts (target, leads, apart) =
    jump target counts (subst (λ c. IsTarget tape program place c target) (sym e) (n, refl, leads)) apart
fixed_strays tape program place b (EndLoop name) e counts (head, is, apart) = loop head counts is apart
fixed_strays tape program place b (Call called repeats) e counts (short, (quiet, (n, (inner, returns), (target, leads, apart)))) =
    jump target counts (subst (λ c. IsTarget tape program place c target) (sym e) (quiet, inner, n, returns, leads)) apart
fixed_strays tape program place b (BackTo n) e (inl main) (inl other) = absurd (other main)
fixed_strays tape program place b (BackTo n) e (inr is_loud) (inl other) = back n is_loud other e
fixed_strays tape program place b (BackTo n) e counts (inr (main, (target, leads, apart))) =
    jump target counts (subst (λ c. IsTarget tape program place c target) (sym e) (main, leads)) apart
fixed_strays tape program place b Next e counts h = absurd h
fixed_strays tape program place b (While m) e counts h = absurd h
fixed_strays tape program place b (Do m) e counts h = absurd h
fixed_strays tape program place b (Wait code) e counts h = absurd h
fixed_strays tape program place b End e counts h = absurd h
fixed_strays tape program place b Back e counts h = absurd h

-- A number is at most 64, or it is more.
few_or_many : (n : ℕ) → (n ≤ 64) ⊎ (64 < n)
few_or_many n = grind arith

-- What leads to another stretch by a search of the tape may pass a wait.
search_strays : (tape : List ControlProgram) (program place : ℕ) (search : Search) → Counts tape program
    → (search ≡ Computed) ⊎ ((called : ℕ) × IsReturnSearch tape called search)
    → IsSearchStray (loud tape) (is_searcher search) (is_sought search) (blocks tape program) place → IsStray tape program place
search_strays tape program place search counts (inl e) ((c, at, is), n, sought, (target, leads, apart)) =
    let same = computed_is c (ap (λ s. is_searcher s c) (sym e) ∙ is) in
    let b = block_of_control (blocks tape program) place (Goto None) (at ∙ ap (λ x. Some x) same) in
    (b.0, b.1, jump target counts (subst (λ x. IsTarget tape program place x target) (sym b.2) (n, tt, leads)) apart)
search_strays tape program place search counts (inr (called, r)) ((c, at, is), n, sought, (target, leads, apart)) =
    let call = call_is called c (sym (r.serves.calls c) ∙ is) in
    let returns = has_back (blocks tape called) n (sym (r.serves.numbers n) ∙ sought) in
    let b = block_of_control (blocks tape program) place (Call called call.0) (at ∙ ap (λ x. Some x) call.1) in (
      b.0,
      b.1,
      jump target counts
          (subst (λ x. IsTarget tape program place x target) (sym b.2) (r.program.quiet, returns.0, n, returns.1, leads)) apart,
    )

-- A call of a long quiet program that may return to another stretch is found by the search of its
-- calls.
call_searched : (tape : List ControlProgram) (searches : List Search) (program place called repeats : ℕ) → AreSearches tape searches
    → control_at (blocks tape program) place ≡ Some (Call called repeats) → 64 < length (blocks tape called) → loud tape called ≡ false
    → (n inner : ℕ) → control_at (blocks tape called) inner ≡ Some (BackTo n)
    → LeadsElsewhere (loud tape) (blocks tape program) place n
    → IsSearchStrayBelow (loud tape) searches (length searches) (blocks tape program) place
call_searched tape searches program place called repeats are at long quiet n inner returns leads =
    let b = block_of_control (blocks tape called) inner (BackTo n) returns in
    let on = on_tape tape called inner b.0 b.1 in
    let has = are.calls on.place on.program on.within on.at
    (subst (λ k. IsLongQuiet tape k) (sym on.number) (record { long = long; quiet = quiet })) in
    let search = subst (λ k. IsReturnSearch tape k has.1) on.number has.3 in (
      has.0,
      has.1,
      slice_get_within searches has.0 has.1 has.2,
      has.2,
      (
        (Call called repeats, at, search.serves.calls (Call called repeats) ∙ same_as_itself called),
        n,
        search.serves.numbers n ∙ back_has (blocks tape called) n inner returns,
        leads,
      ),
    )

-- A jump to another stretch is by one number or few returns, or by one of the tape's searches.
split_jump : (tape : List ControlProgram) (searches : List Search) (program place target : ℕ) (c : Control) → AreSearches tape searches
    → control_at (blocks tape program) place ≡ Some c → IsTarget tape program place c target
    → stretch (loud tape) (blocks tape program) place ≢ stretch (loud tape) (blocks tape program) target
    → IsFixedStrayAt tape program place ⊎ IsSearchStrayBelow (loud tape) searches (length searches) (blocks tape program) place
split_jump tape searches program place target (Goto None) are at (number, may, leads) apart =
    let is = are.computed in
    inr (is.0, Computed, slice_get_within searches is.0 Computed is.1, is.1, ((Goto None, at, refl), number, refl, (target, leads, apart)))
split_jump tape searches program place target (Goto (Some n)) are at (number, may, leads) apart =
    inl (Goto (Some n), at, (target, subst (λ k. Leads (blocks tape program) place k target) (sym may) leads, apart))
split_jump tape searches program place target (BackTo n) are at (main, leads) apart = inl (BackTo n, at, inr (main, (target, leads, apart)))
split_jump tape searches program place target (Call called repeats) are at (quiet, inner, n, returns, leads) apart =
    elim (few_or_many (length (blocks tape called))) [
      | inl short ↦ inl (Call called repeats, at, (short, (quiet, (n, (inner, returns), (target, leads, apart)))))
      | inr long ↦ inr (call_searched tape searches program place called repeats are at long quiet n inner returns (target, leads, apart))
    ]
split_jump tape searches program place target (EndLoop name) are at is apart = absurd is
split_jump tape searches program place target Next are at is apart = absurd is
split_jump tape searches program place target (While m) are at is apart = absurd is
split_jump tape searches program place target (Do m) are at is apart = absurd is
split_jump tape searches program place target (Wait code) are at is apart = absurd is
split_jump tape searches program place target End are at is apart = absurd is
split_jump tape searches program place target Back are at is apart = absurd is

-- Each block that may pass a wait does so without a search for several numbers, or by one of the
-- tape's searches.
split_strays : (tape : List ControlProgram) (searches : List Search) (program place : ℕ) (b : ControlBlock) → AreSearches tape searches
    → Stands tape program place b → Strays tape program place b
    → IsFixedStrayAt tape program place ⊎ IsSearchStrayBelow (loud tape) searches (length searches) (blocks tape program) place
split_strays tape searches program place b are stands (jump target counts is apart) =
    split_jump tape searches program place target b.control are (control_of_block (blocks tape program) place b stands) is apart
split_strays tape searches program place b are stands (loop head counts is apart) =
    let facts = loop_facts (blocks tape program) head place is in inl (EndLoop facts.name, facts.is_close, (head, is, apart))
split_strays tape searches program place b are stands (back n is_loud other e) =
    inl (BackTo n, control_of_block (blocks tape program) place b stands ∙ ap (λ c. Some c) e, inl other)

-- The lesser of the first blocks of both kinds is the first one that may pass a wait.
pub least_stray : (tape : List ControlProgram) (searches : List Search) (program : ℕ) (fixed searching : Option ℕ) → Counts tape program
    → AreSearches tape searches → IsLeast (IsFixedStrayAt tape program) fixed
    → IsLeast (IsSearchStrayBelow (loud tape) searches (length searches) (blocks tape program)) searching
    → IsLeast (IsStray tape program) (lesser fixed searching)
least_stray tape searches program fixed searching counts are p q =
    least_either {R = IsStray tape program} fixed searching p q left right
    (λ k h. split_strays tape searches program k h.0 are h.1 h.2)
  where
    left : (k : ℕ) → IsFixedStrayAt tape program k → IsStray tape program k
    left k (c, at, h) =
        let b = block_of_control (blocks tape program) k c at in
        (b.0, b.1, fixed_strays tape program k b.0 c b.2 counts h)

    right : (k : ℕ) → IsSearchStrayBelow (loud tape) searches (length searches) (blocks tape program) k → IsStray tape program k
    right k (i, search, below, at, h) = search_strays tape program k search counts (are.each i search at) h

-- The line of the first block that may pass a wait is the first such line, as lines rise.
pub least_line : (tape : List ControlProgram) (program place : ℕ) (bs : List ControlBlock) (b : ControlBlock) → blocks tape program ≡ bs
    → HasRisingLines bs → IsLeast (IsStray tape program) (Some place) → slice_get bs place ≡ Some b
    → IsLeast (IsStrayLine tape program) (Some b.line)
least_line tape program place bs b own rising least at = record {
  holds = λ n e. held n (let both : Some b.line ≡ Some n = e in let same : b.line ≡ n = cc in same) (least.holds place refl);
  least = λ n h. below n h;
}
  where
    held : (n : ℕ) → b.line ≡ n → IsStray tape program place → IsStrayLine tape program n
    held n e (other, stands, strays) =
        let both : Some other ≡ Some b = sym stands ∙ (ap (λ xs. slice_get xs place) own ∙ at) in
        let same : other ≡ b = cc in
        (place, other, stands, strays, ap (λ x. x.line) same ∙ e)

    below : (n : ℕ) → IsStrayLine tape program n → b.line ≤ n
    below n (k, other, stands, strays, e) =
        subst (λ m. b.line ≤ m) e
        (rising place k b other (least.least k (other, stands, strays)) at (sym (ap (λ xs. slice_get xs k) own) ∙ stands))

-- If no block may pass a wait, there is no such line.
pub least_no_line : (tape : List ControlProgram) (program : ℕ) → IsLeast (IsStray tape program) None
    → IsLeast (IsStrayLine tape program) None
least_no_line tape program least = least_none {P = IsStrayLine tape program} none
  where
    none : (n : ℕ) → IsStrayLine tape program n → ⊥
    none n (k, other, stands, strays, e) = least.least k (other, stands, strays)

-- If P holds of no block before this one and not of this one, it holds of none up to this one.
pub none_more : (P : ℕ → Control → Type 0) (bs : List ControlBlock) (i place : ℕ) (d : ControlBlock) → place ≡ i → i < length bs
    → (P place (slice_index_or bs i d).control → IsTrue false)
    → ((k : ℕ) (c : Control) → k < i → control_at bs k ≡ Some c → P k c → ⊥)
    → (k : ℕ) (c : Control) → k < i + 1 → control_at bs k ≡ Some c → P k c → ⊥
none_more P bs i place d same within here before k c l at p = elim (last_or_before k i l) [
  | inl e ↦
      let there : control_at bs i ≡ Some (slice_index_or bs i d).control = ap control_of (stands_at bs i d within) in
      let both : Some c ≡ Some (slice_index_or bs i d).control = sym at ∙ (ap (control_at bs) e ∙ there) in
      let own : c ≡ (slice_index_or bs i d).control = cc in
      let test = here (subst (λ j. P j (slice_index_or bs i d).control) (e ∙ sym same) (subst (P k) own p)) in cc
  | inr less ↦ before k c less at p
]

-- The first block that may pass a wait stands in the program.
pub stray_within : (tape : List ControlProgram) (program place : ℕ) (bs : List ControlBlock) → blocks tape program ≡ bs
    → IsLeast (IsStray tape program) (Some place) → place < length bs
stray_within tape program place bs own least = go (least.holds place refl)
  where
    go : IsStray tape program place → place < length bs
    go (b, stands, strays) =
        subst (λ xs. place < length xs) own
        (within_control (blocks tape program) place b.control (control_of_block (blocks tape program) place b stands))

-- A block that is read at a place within the blocks stands there.
pub stands_there : (bs : List ControlBlock) (place : ℕ) (b : ControlBlock) → place < length bs → b ≡ slice_index_or bs place b
    → slice_get bs place ≡ Some b
stands_there bs place b within e = stands_at bs place b within ∙ ap (λ x. Some x) (sym e)
