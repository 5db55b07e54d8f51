-- The lines of a path as its blocks come are those of the stretches in its list. An item of the
-- list is a stretch, a wait or the new beginning. A stretch is the run of blocks up to a mark: a
-- wait, an end, an M99 without a number or a call of a loud program, one that comes to a wait or an
-- end itself or by its calls. For PartsLeast.
use Rattle.std.proofs.Common.{◌≡◌, ◌==◌, ℕ, zero, suc, ◌<◌, ◌+◌, Bool, true, false, List, [], ◌∷◌, ◌++◌, length, Option, None, refl, ap, sym, ◌∙◌, arith, if◌then◌else◌}
use Rattle.std.proofs.lemmas.Bool.{eq-eqb, ne_eqb}
use Rattle.block_order.specs.declared.control.Control.{Control}
use Rattle.block_order.specs.declared.control.Control.TheVariants.{Next, Goto, While, Do, EndLoop, Wait, End, Call, Back, BackTo}
use Rattle.block_order.specs.declared.label.Mark.{Mark}
use Rattle.block_order.specs.declared.label.Mark.TheVariants as mark
use Rattle.block_order.specs.declared.program.ControlBlock.{ControlBlock}
use Rattle.block_order.specs.declared.program.ControlProgram.{ControlProgram}
use Rattle.block_order.specs.Order.{blocks, main_number}
use Rattle.block_order.specs.Loud.{loud, mark_of, marks}
use Rattle.part_order.specs.Parts.{Item, Stretch, Meets, Anew, items, path_items, waits_in}
use Rattle.part_order.specs.Parts as parts
use Rattle.nc_number.specs.Options.{lesser}
use Rattle.part_lines.specs.Lines.{Lines, with_first, times, seen_line, block_lines, blocks_lines, lines_of_run}
use Rattle.part_lines.proofs.Lesser.{lesser_none, with_both}
use Rattle.part_lines.proofs.StretchLines.{next_number, stretch_line, none_behind}
use Rattle.part_lines.proofs.Segments.{ends_anew}

-- The lines of these items, if each stretch has its own line. `end` is what comes once the items
-- begin anew.
abbrev pub item_lines : (ℕ → ℕ → Option ℕ) → Lines → List Item → Lines
item_lines own end [] = None ∷ []
item_lines own end (Stretch p s ∷ xs) = with_first (own p s) (item_lines own end xs)
item_lines own end (Meets ∷ xs) = None ∷ item_lines own end xs
item_lines own end (Anew ∷ xs) = end

-- The items behind the stretch that these marks end.
abbrev pub after : (ℕ → List Item → List Item) → ℕ → ℕ → List Mark → List Item → List Item
after called p t [] rest = []
after called p t (mark.Wait code ∷ ms) rest = Meets ∷ items called p (suc t) ms rest
after called p t (mark.End ∷ ms) rest = []
after called p t (mark.Call q r ∷ ms) rest = parts.times r (called q) (items called p (suc t) ms rest)
after called p t (mark.Back ∷ ms) rest = rest
after called p t (mark.Past ∷ ms) rest = []

-- The items of a program from a stretch on are that stretch and what is behind it.
items_are : (called : ℕ → List Item → List Item) (p t : ℕ) (ms : List Mark) (rest : List Item)
    → items called p t ms rest ≡ Stretch p t ∷ after called p t ms rest
items_are called p t [] rest = refl
items_are called p t (mark.Wait code ∷ ms) rest = refl
items_are called p t (mark.End ∷ ms) rest = refl
items_are called p t (mark.Call q r ∷ ms) rest = refl
items_are called p t (mark.Back ∷ ms) rest = refl
items_are called p t (mark.Past ∷ ms) rest = refl

-- If a function on items adds what one on lines does, it does so n times over.
times_lines : (own : ℕ → ℕ → Option ℕ) (end : Lines) (f : List Item → List Item) (g : Lines → Lines)
    → ((xs : List Item) → item_lines own end (f xs) ≡ g (item_lines own end xs))
    → (n : ℕ) (xs : List Item) → item_lines own end (parts.times n f xs) ≡ times n g (item_lines own end xs)
times_lines own end f g same zero xs = refl
times_lines own end f g same (suc n) xs = same (parts.times n f xs) ∙ ap g (times_lines own end f g same n xs)

-- One program, of O number p: `ld` says which programs are loud, `line` gives the line of each of
-- its blocks that is looked for, `quiet` that of a quiet program, `own` that of a stretch. `called`
-- and `given` give the items and the lines of a call, of which `same` says that they agree; `rest`
-- and `back` are the items and the lines behind the program's return, of which `returns` says it.
-- `end` is what comes once the items begin anew.
module _ (ld : ℕ → Bool) (quiet : ℕ → Option ℕ) (line : ℕ → Option ℕ) (own : ℕ → ℕ → Option ℕ) (end : Lines)
    (called : ℕ → List Item → List Item) (given : ℕ → Lines → Lines)
    (same : (q : ℕ) (xs : List Item) → item_lines own end (called q xs) ≡ given q (item_lines own end xs))
    (p : ℕ) (rest : List Item) (back : Lines) (returns : item_lines own end rest ≡ back) where
  -- The line that is seen at block i, of this control. The name stands for that line.
  abbrev seen : ℕ → Control → Option ℕ
  seen i c = seen_line ld quiet (line i) c

  -- Each stretch after t has as its own line that of the blocks from i on: all its blocks are among
  -- them.
  abbrev AreAhead : List ControlBlock → ℕ → ℕ → Type 0
  AreAhead bs i t = (s : ℕ) → t < s → own p s ≡ stretch_line ld seen bs i t s

  -- The lines of the blocks from i on, of which the first lies in stretch t, are those of the items
  -- from t on.
  abbrev IsSame : List ControlBlock → ℕ → ℕ → Type 0
  IsSame bs i t =
      blocks_lines ld quiet given line back i bs
      ≡ with_first (stretch_line ld seen bs i t t) (item_lines own end (after called p t (marks ld bs) rest))

  -- The lines of the blocks behind block i.
  abbrev lines_behind : List ControlBlock → ℕ → Lines
  lines_behind bs i = blocks_lines ld quiet given line back (suc i) bs

  -- The items behind stretch t, if these marks come before those of the blocks.
  abbrev items_behind : List Mark → List ControlBlock → ℕ → List Item
  items_behind ms bs t = after called p t (ms ++ marks ld bs) rest

  -- What `IsSame` says, of blocks of which the first, at i, has this control.
  abbrev IsSameFrom : Control → List ControlBlock → ℕ → ℕ → Type 0
  IsSameFrom c bs i t =
      with_first (seen i c) (block_lines ld given back c (lines_behind bs i))
      ≡ with_first (lesser (if t == t then seen i c else None) (stretch_line ld seen bs (suc i) (next_number (mark_of ld c) t) t))
      (item_lines own end (items_behind (mark_of ld c) bs t))

  -- What `AreAhead` says, of blocks of which the first, at i, has this control.
  abbrev AreAheadFrom : Control → List ControlBlock → ℕ → ℕ → Type 0
  AreAheadFrom c bs i t = (s : ℕ) → t < s
      → own p s ≡ lesser (if t == s then seen i c else None) (stretch_line ld seen bs (suc i) (next_number (mark_of ld c) t) s)

  -- Each stretch after t has as its own line that of the blocks behind the first one.
  ahead_after : (c : Control) (bs : List ControlBlock) (i t u : ℕ) → AreAheadFrom c bs i t → next_number (mark_of ld c) t ≡ u
      → (s : ℕ) → t < s → own p s ≡ stretch_line ld seen bs (suc i) u s
  ahead_after c bs i t u ahead next s less =
      let apart : (t == s) ≡ false = ne_eqb t s (λ e. omega arith) in
      ahead s less ∙ rw (apart, next) refl

  -- A number tests as equal to itself.
  same_first : (t : ℕ) → (t == t) ≡ true
  same_first t = eq-eqb t t refl

  -- A block that is no mark and adds nothing behind it: if the lines are those of the items behind
  -- it, they are so from it on.
  unmarked : (c : Control) (bs : List ControlBlock) (i t : ℕ) → mark_of ld c ≡ []
      → block_lines ld given back c (lines_behind bs i) ≡ lines_behind bs i → IsSame bs (suc i) t → IsSameFrom c bs i t
  unmarked c bs i t none on more =
      let line_here = stretch_line ld seen bs (suc i) t t in
      let there = item_lines own end (after called p t (marks ld bs) rest) in
      rw (same_first t, none)
      (ap (with_first (seen i c)) (on ∙ more) ∙ sym (with_both (seen i c) line_here there))

  -- A block that is a mark: if what comes behind it are the lines of the items behind its stretch,
  -- they are so from it on.
  marked : (c : Control) (bs : List ControlBlock) (i t : ℕ) (m : Mark) → mark_of ld c ≡ m ∷ []
      → block_lines ld given back c (lines_behind bs i) ≡ item_lines own end (items_behind (m ∷ []) bs t) → IsSameFrom c bs i t
  marked c bs i t m one on =
      rw (same_first t, one, none_behind ld seen bs (suc i) (suc t) t (omega arith))
      (ap (with_first (seen i c)) on ∙ ap (λ o. with_first o (item_lines own end (items_behind (m ∷ []) bs t))) (sym (lesser_none (seen i c))))

  -- Behind a mark the lines of the blocks are those of the items from the next stretch on.
  next_lines : (c : Control) (bs : List ControlBlock) (i t : ℕ) → next_number (mark_of ld c) t ≡ suc t → AreAheadFrom c bs i t
      → ((u : ℕ) → AreAhead bs (suc i) u → IsSame bs (suc i) u)
      → lines_behind bs i ≡ item_lines own end (items called p (suc t) (marks ld bs) rest)
  next_lines c bs i t next ahead more =
      let on = ahead_after c bs i t (suc t) ahead next in
      let there : own p (suc t) ≡ stretch_line ld seen bs (suc i) (suc t) (suc t) = on (suc t) (omega arith) in
      more (suc t) (λ s less. on s (omega arith))
      ∙ (ap (λ o. with_first o (item_lines own end (after called p (suc t) (marks ld bs) rest))) (sym there)
      ∙ ap (item_lines own end) (sym (items_are called p (suc t) (marks ld bs) rest)))

  -- A block that is no mark and adds nothing behind it keeps the lines those of the items, if they
  -- are so behind it.
  plain : (c : Control) (bs : List ControlBlock) (i t : ℕ) → mark_of ld c ≡ []
      → block_lines ld given back c (lines_behind bs i) ≡ lines_behind bs i → AreAheadFrom c bs i t
      → ((u : ℕ) → AreAhead bs (suc i) u → IsSame bs (suc i) u) → IsSameFrom c bs i t
  plain c bs i t none on ahead more =
      let next : next_number (mark_of ld c) t ≡ t = rw none refl in
      unmarked c bs i t none on (more t (ahead_after c bs i t t ahead next))

  -- From a block of any control on the lines are those of the items, if they are so behind it.
  block_same : (c : Control) (bs : List ControlBlock) (i t : ℕ) → AreAheadFrom c bs i t
      → ((u : ℕ) → AreAhead bs (suc i) u → IsSame bs (suc i) u) → IsSameFrom c bs i t
  block_same Next bs i t ahead more = plain Next bs i t refl refl ahead more
  block_same (Goto n) bs i t ahead more = plain (Goto n) bs i t refl refl ahead more
  block_same (While m) bs i t ahead more = plain (While m) bs i t refl refl ahead more
  block_same (Do m) bs i t ahead more = plain (Do m) bs i t refl refl ahead more
  block_same (EndLoop m) bs i t ahead more = plain (EndLoop m) bs i t refl refl ahead more
  block_same (BackTo n) bs i t ahead more = plain (BackTo n) bs i t refl refl ahead more
  block_same End bs i t ahead more = marked End bs i t mark.End refl refl
  block_same Back bs i t ahead more = marked Back bs i t mark.Back refl (sym returns)
  block_same (Wait code) bs i t ahead more =
      marked (Wait code) bs i t (mark.Wait code) refl
      (ap (λ xs. None ∷ xs) (next_lines (Wait code) bs i t refl ahead more))
  block_same (Call q r) bs i t ahead more = go (ld q) refl
    where
      go : (noisy : Bool) → ld q ≡ noisy → IsSameFrom (Call q r) bs i t
      go false n = plain (Call q r) bs i t (rw n refl) (rw n refl) ahead more
      go true n =
          let one : mark_of ld (Call q r) ≡ mark.Call q r ∷ [] = rw n refl in
          let next : next_number (mark_of ld (Call q r)) t ≡ suc t = rw one refl in
          let on : block_lines ld given back (Call q r) (lines_behind bs i) ≡ times r (given q) (lines_behind bs i) = rw n refl in
          marked (Call q r) bs i t (mark.Call q r) one
          (on ∙ (ap (times r (given q)) (next_lines (Call q r) bs i t next ahead more)
          ∙ sym (times_lines own end (called q) (given q) (same q) r (items called p (suc t) (marks ld bs) rest))))

  -- The lines of these blocks are those of the items from their first stretch on.
  blocks_same : (bs : List ControlBlock) (i t : ℕ) → AreAhead bs i t → IsSame bs i t
  blocks_same [] i t ahead = refl
  blocks_same (b ∷ bs) i t ahead = block_same b.control bs i t ahead (λ u on. blocks_same bs (suc i) u on)

-- The least line of a stretch of a program, by what is seen at its blocks.
abbrev pub own_line : List ControlProgram → (ℕ → ℕ → Option ℕ) → (ℕ → Option ℕ) → ℕ → ℕ → Option ℕ
own_line tape line quiet p s =
    stretch_line (loud tape) (λ b c. seen_line (loud tape) quiet (line p b) c) (blocks tape p) 0 0 s

-- The lines of a program with all its calls are those of its items.
whole_same : (tape : List ControlProgram) (line : ℕ → ℕ → Option ℕ) (quiet : ℕ → Option ℕ) (end : Lines) (n p : ℕ)
    (rest : List Item) (back : Lines) → item_lines (own_line tape line quiet) end rest ≡ back
    → item_lines (own_line tape line quiet) end (parts.items_of_call tape n p rest) ≡ lines_of_run tape line quiet n p back
unfolding lines_of_run parts.items_of_call
whole_same tape line quiet end zero p rest back returns = returns
whole_same tape line quiet end (suc n) p rest back returns =
    let called = λ (q : ℕ) (k : List Item). parts.items_of_call tape n q k in
    let given = λ (q : ℕ) (k : Lines). lines_of_run tape line quiet n q k in
    let own = own_line tape line quiet in
    ap (item_lines own end) (items_are called p 0 (marks (loud tape) (blocks tape p)) rest)
    ∙ sym (blocks_same (loud tape) quiet (line p) own end called given
    (λ q xs. whole_same tape line quiet end n q xs (item_lines own end xs) refl) p rest back returns (blocks tape p) 0 0 (λ s less. refl))

-- The items of a path are those of its main program, and that it begins anew.
list_whole : (tape : List ControlProgram) → path_items tape ≡ parts.items_of_call tape 9 (main_number tape) (Anew ∷ [])
unfolding parts.items_of_call
list_whole tape = refl

-- The lines of a path are those of its list.
pub path_same : (tape : List ControlProgram) (line : ℕ → ℕ → Option ℕ) (quiet : ℕ → Option ℕ) (end : Lines)
    → item_lines (own_line tape line quiet) end (path_items tape) ≡ lines_of_run tape line quiet 9 (main_number tape) end
path_same tape line quiet end =
    ap (item_lines (own_line tape line quiet) end) (list_whole tape)
    ∙ whole_same tape line quiet end 9 (main_number tape) (Anew ∷ []) end refl

-- A line more in the first part adds no part.
with_length : (o : Option ℕ) (lines : Lines) → length (with_first o lines) ≡ length lines
with_length o [] = refl
with_length o (x ∷ lines) = refl

-- There is one line more than the items have waits; if they begin anew, as many as waits and the
-- lines that come then.
pub lines_length : (own : ℕ → ℕ → Option ℕ) (end : Lines) (xs : List Item)
    → length (item_lines own end xs) ≡ waits_in xs + (if ends_anew xs then length end else 1)
lines_length own end [] = refl
lines_length own end (Stretch p s ∷ xs) = with_length (own p s) (item_lines own end xs) ∙ lines_length own end xs
lines_length own end (Meets ∷ xs) = let rest = lines_length own end xs in omega arith
lines_length own end (Anew ∷ xs) = omega arith
