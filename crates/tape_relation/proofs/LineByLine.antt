-- Two texts of tapes whose lines say the same, but for lines of the second that say nothing, have
-- the same answer, as far as it is looked at: line numbers and words may be changed by maps f, g
-- and w. For OneLine, WholeLines, Removed, Blanked and Placeless, which show the laws of edits
-- (src/edits.rt).
use Rattle.std.proofs.Common.{◌≡◌, ℕ, ◌+◌, ◌≤◌, Bool, true, false, cond, ltb, List, [], ◌∷◌, ◌++◌, length, map, Option, Some, None, Result, Ok, Err, refl, sym, ap, ◌∙◌, arith}
use Rattle.std.specs.Option.{option_map, option_to_list, is_none}
use Rattle.std.proofs.lemmas.Bool.{le-ltb}
use Rattle.std.proofs.lemmas.List.{map-append}
use Rattle.nc_text.specs.declared.tape.Block.{Block}
use Rattle.nc_text.specs.declared.tape.Program.{Program}
use Rattle.line_text.specs.declared.body.Word.{Word}
use Rattle.line_text.specs.declared.refusal.Refusal.{Refusal}
use Rattle.line_text.specs.declared.refusal.Refusal.TheVariants.{NoProgramNumber, NoEnd}
use Rattle.line_text.specs.declared.said.Said.{Said}
use Rattle.line_text.specs.declared.said.Said.TheVariants as said
use Rattle.line_text.specs.declared.said.SaidBlock.{SaidBlock}
use Rattle.line_text.specs.Refusals.{refusal_number}
use Rattle.nc_text.specs.Lines.{Line, is_percent, size_of}
use Rattle.line_text.specs.Said.{line_says}
use Rattle.tape_relation.specs.Changed.{changed_answer, changed_body, changed_block, changed_program}
use Rattle.nc_text.specs.Tape.{Before, Answer, next, programs_of, is_past_end, is_block, is_said_in_range, said_refusal, block_at, program_at, with_block, with_said, unless_refused, after_said, answer_at_end, answer_without_end, goes_on, in_rest, in_body, in_leader, tape_begun, nothing_read}

-- a line of both texts, or a line of the second text alone
pub data Row : Type 0 where
  -- a line of the first text, and the line of the second that says the same
  Both : Line → Line → Row
  -- a line of the second text that says nothing
  Alone : Line → Row

-- the lines of the first text
abbrev pub firsts : List Row → List Line
firsts [] = []
firsts (Both x y ∷ rows) = x ∷ firsts rows
firsts (Alone y ∷ rows) = firsts rows

-- the lines of the second text
abbrev pub seconds : List Row → List Line
seconds [] = []
seconds (Both x y ∷ rows) = y ∷ seconds rows
seconds (Alone y ∷ rows) = y ∷ seconds rows

-- the bytes of a line with its line feed
abbrev pub line_size : Line → ℕ
line_size line = size_of (length line.bytes) line.ended

-- the bytes of these lines
abbrev pub size_all : List Line → ℕ
size_all [] = 0
size_all (line ∷ lines) = line_size line + size_all lines

-- what a line says with its words changed
abbrev pub changed_said : (Word → Word) → Said → Said
changed_said w said.Nothing = said.Nothing
changed_said w (said.Program number) = said.Program number
changed_said w (said.Block block) = said.Block (record block { body = changed_body w block.body })

-- what a line says or its refusal, with the words changed
abbrev pub changed_says : (Word → Word) → Result Said Refusal → Result Said Refusal
changed_says w (Ok says) = Ok (changed_said w says)
changed_says w (Err refusal) = Err refusal

-- the two lines say the same, if words are changed by w; both begin with `%` or neither does; both
-- are too long or neither is
pub record SayAlike (skips : ℕ) (w : Word → Word) (a b : Line) : Type 0 where
  -- a line that does not begin with `%` says the same, words changed by w
  pub says : is_percent a.bytes ≡ false → changed_says w (line_says skips a.bytes a.ended) ≡ changed_says w (line_says skips b.bytes b.ended)
  -- both begin with `%`, or neither does
  pub percent : is_percent a.bytes ≡ is_percent b.bytes
  -- both are longer than 512 bytes, or neither is
  pub long : ltb 512 (length a.bytes) ≡ ltb 512 (length b.bytes)

-- the line says nothing, does not begin with `%` and is not too long
pub record SaysNothing (skips : ℕ) (b : Line) : Type 0 where
  -- it can be read, and says nothing
  pub says : line_says skips b.bytes b.ended ≡ Ok said.Nothing
  -- it does not begin with `%`
  pub percent : is_percent b.bytes ≡ false
  -- it has at most 512 bytes
  pub long : ltb 512 (length b.bytes) ≡ false

-- These three are small facts on maps of options and on sizes.
none_same : {A B : Type 0} (h : A → B) (o : Option A) → is_none (option_map h o) ≡ is_none o
none_same h None = refl
none_same h (Some x) = refl

list_same : {A B : Type 0} (h : A → B) (o : Option A) → map h (option_to_list o) ≡ option_to_list (option_map h o)
list_same h None = refl
list_same h (Some x) = refl

within : (n m more : ℕ) → n + (m + more) ≤ 4194304 → ltb 4194304 (n + m) ≡ false
within n m more fits = le-ltb 4194304 (n + m) (omega arith)

-- a block more in the program that is being read, with all changed, is the changed block more
block_put : (f : ℕ → ℕ) (w : Word → Word) (block : Block) (o : Option Program) → option_map (changed_program f w) (with_block block o) ≡ with_block (changed_block f w block) (option_map (changed_program f w) o)
block_put f w block None = refl
block_put f w block (Some p) = ap (λ (blocks : List Block). Some (record (changed_program f w p) { blocks = blocks })) (map-append (changed_block f w) p.blocks (block ∷ []))

-- The next two: changing the words of what a line says keeps whether it is a block, and whether its
-- numbers are in range.
block_same : (w : Word → Word) (s : Said) → is_block (changed_said w s) ≡ is_block s
block_same w said.Nothing = refl
block_same w (said.Program number) = refl
block_same w (said.Block block) = refl

range_same : (w : Word → Word) (s : Said) → is_said_in_range (changed_said w s) ≡ is_said_in_range s
range_same w said.Nothing = refl
range_same w (said.Program number) = refl
range_same w (said.Block block) = refl

-- an answer with this number, at this line
abbrev refused : ℕ → ℕ → Answer
refused number line = Err (record { number = number; line = line })

-- an answer with these programs
abbrev taped : List Program → Answer
taped programs = Ok programs

-- within a text that fits, no line is past the longest tape
not_past : (b : Before) (d : ℕ) (y : Line) (ys : List Line) → b.bytes ≡ d → d + (line_size y + size_all ys) ≤ 4194304 → is_past_end b (length y.bytes) y.ended ≡ false
not_past b d y ys e fits = ap (λ (k : ℕ). ltb 4194304 (k + line_size y)) e ∙ within d (line_size y) (size_all ys) fits

-- a line that says nothing leaves the answer after the second `%` line
rest_alone : (b : Before) (y : Line) (ys : List Line) → is_past_end b (length y.bytes) y.ended ≡ false → in_rest (y ∷ ys) b ≡ in_rest ys (next b (length y.bytes) y.ended)
rest_alone b y ys past = rw past refl

-- a line of the second text that says nothing leaves the answer between the `%` lines
body_alone : (skips : ℕ) (b : Before) (y : Line) (ys : List Line) → SaysNothing skips y → is_past_end b (length y.bytes) y.ended ≡ false → in_body skips (y ∷ ys) b ≡ in_body skips ys (next b (length y.bytes) y.ended)
body_alone skips b y ys nothing past = rw (nothing.percent, nothing.says, nothing.long, past) refl

-- a line of the second text that says nothing leaves the answer before the first `%` line
leader_alone : (skips : ℕ) (b : Before) (y : Line) (ys : List Line) → SaysNothing skips y → is_past_end b (length y.bytes) y.ended ≡ false → in_leader skips (y ∷ ys) b ≡ in_leader skips ys (next b (length y.bytes) y.ended)
leader_alone skips b y ys nothing past = rw (nothing.percent, past) refl

-- Bit n of `skips` is switch n. `f` maps the line numbers of the first text, `g` those of the
-- second, and `w` the words of both.
module _ (skips : ℕ) (f g : ℕ → ℕ) (w : Word → Word) where
  -- the rows say the same, if m lines of the first text and n of the second stand before them; the
  -- maps of line numbers agree
  abbrev pub Rows : ℕ → ℕ → List Row → Type 0
  Rows m n [] = f m ≡ g n
  Rows m n (Both x y ∷ rows) = (f (m + 1) ≡ g (n + 1)) × SayAlike skips w x y × Rows (m + 1) (n + 1) rows
  Rows m n (Alone y ∷ rows) = SaysNothing skips y × Rows m (n + 1) rows

  -- what is looked at of what was read: not its lines and bytes, and the rest with its changes
  abbrev seen : (ℕ → ℕ) → Before → Before
  seen h b = record { lines = 0; bytes = 0; percent = h b.percent; blocks = b.blocks; done = map (changed_program h w) b.done; current = option_map (changed_program h w) b.current }

  -- after m lines of c bytes of the first text, and n lines of d bytes of the second, the same has
  -- been read
  record Agree (m n c d : ℕ) (a b : Before) : Type 0 where
    -- m lines of the first text were read
    lines_a : a.lines ≡ m
    -- n lines of the second text were read
    lines_b : b.lines ≡ n
    -- the lines of the first text have c bytes
    bytes_a : a.bytes ≡ c
    -- the lines of the second text have d bytes
    bytes_b : b.bytes ≡ d
    -- all else that was read is the same, with its changes
    same : seen f a ≡ seen g b

  -- both answers look the same with their changes
  abbrev pub Looks : Answer → Answer → Type 0
  Looks p q = changed_answer f w p ≡ changed_answer g w q

  -- a program of the first text with its changes
  abbrev F : Program → Program
  F program = changed_program f w program

  -- a program of the second text with its changes
  abbrev G : Program → Program
  G program = changed_program g w program

  -- The next three: answers look the same if their parts do: a choice, a refusal, programs.
  chosen : (t u : Bool) (p q r s : Answer) → t ≡ u → Looks p q → (t ≡ false → Looks r s) → Looks (cond t p r) (cond u q s)
  chosen true true p q r s e begins other = begins
  chosen true false p q r s e begins other = absurd cc
  chosen false true p q r s e begins other = absurd cc
  chosen false false p q r s e begins other = other refl

  refused_same : (number i j : ℕ) → f i ≡ g j → Looks (Err (record { number = number; line = i })) (Err (record { number = number; line = j }))
  refused_same number i j e = ap (refused number) e

  taped_same : (ps qs : List Program) → map F ps ≡ map G qs → Looks (Ok ps) (Ok qs)
  taped_same ps qs e = ap taped e

  -- The next three: what was read still agrees after a row of both, a row of the second alone, and
  -- the first `%` line.
  next_agree : (m n c d : ℕ) (a b : Before) (agree : Agree m n c d a b) (x y : Line) → Agree (m + 1) (n + 1) (c + line_size x) (d + line_size y) (next a (length x.bytes) x.ended) (next b (length y.bytes) y.ended)
  next_agree m n c d a b agree x y = record {
    lines_a = λ i. agree.lines_a i + 1;
    lines_b = λ i. agree.lines_b i + 1;
    bytes_a = λ i. agree.bytes_a i + line_size x;
    bytes_b = λ i. agree.bytes_b i + line_size y;
    same = agree.same;
  }

  alone_agree : (m n c d : ℕ) (a b : Before) (agree : Agree m n c d a b) (y : Line) → Agree m (n + 1) c (d + line_size y) a (next b (length y.bytes) y.ended)
  alone_agree m n c d a b agree y = record { lines_a = agree.lines_a; lines_b = λ i. agree.lines_b i + 1; bytes_a = agree.bytes_a; bytes_b = λ i. agree.bytes_b i + line_size y; same = agree.same }

  begun_agree : (m n c d : ℕ) (a b : Before) (agree : Agree m n c d a b) → f m ≡ g n → Agree m n c d (tape_begun a) (tape_begun b)
  begun_agree m n c d a b agree last =
      let percent : f a.lines ≡ g b.lines = ap f agree.lines_a ∙ last ∙ sym (ap g agree.lines_b) in
      record { lines_a = agree.lines_a; lines_b = agree.lines_b; bytes_a = agree.bytes_a; bytes_b = agree.bytes_b; same = λ i. record (agree.same i) { percent = percent i } }

  -- after these lines and bytes of both texts the same has been read, as `Agree` says
  module _ (m n c d : ℕ) (a b : Before) (agree : Agree m n c d a b) where
    none_agree : is_none a.current ≡ is_none b.current
    none_agree = sym (none_same F a.current) ∙ (λ i. is_none (agree.same i).current) ∙ none_same G b.current

    programs_agree : map F (programs_of a) ≡ map G (programs_of b)
    programs_agree =
        map-append F a.done (option_to_list a.current)
        ∙ (λ i. (agree.same i).done ++ (list_same F a.current ∙ (λ j. option_to_list (agree.same j).current) ∙ sym (list_same G b.current)) i)
        ∙ sym (map-append G b.done (option_to_list b.current))

    finished_agree : Looks (answer_at_end a) (answer_at_end b)
    finished_agree = chosen (is_none a.current) (is_none b.current) _ _ _ _ none_agree (refused_same (refusal_number NoProgramNumber) a.percent b.percent (λ i. (agree.same i).percent)) (λ some. taped_same (programs_of a) (programs_of b) programs_agree)

    unfinished_agree : f m ≡ g n → Looks (answer_without_end a) (answer_without_end b)
    unfinished_agree last =
        chosen (is_none a.current) (is_none b.current) _ _ _ _ none_agree (refused_same (refusal_number NoProgramNumber) a.percent b.percent (λ i. (agree.same i).percent))
        (λ some. refused_same (refusal_number NoEnd) a.lines b.lines (ap f agree.lines_a ∙ last ∙ sym (ap g agree.lines_b)))

    -- the maps give the next line of both texts the same number
    module _ (here : f (m + 1) ≡ g (n + 1)) where
      number_here : f (a.lines + 1) ≡ g (b.lines + 1)
      number_here = ap (λ (k : ℕ). f (k + 1)) agree.lines_a ∙ here ∙ sym (ap (λ (k : ℕ). g (k + 1)) agree.lines_b)

      unless_agree : (r s : Option Refusal) (x y : Before) (k l : Before → Answer) → r ≡ s → Looks (k x) (l y) → Looks (goes_on a (unless_refused r x) k) (goes_on b (unless_refused s y) l)
      unless_agree None None x y k l e later = later
      unless_agree None (Some s) x y k l e later = absurd cc
      unless_agree (Some r) None x y k l e later = absurd cc
      unless_agree (Some r) (Some s) x y k l e later =
          let same : r ≡ s = cc in
          λ i. refused (refusal_number (same i)) (number_here i)

      program_agree : (i j : Option ℕ) → i ≡ j → Agree m n c d (with_said a (said.Program i)) (with_said b (said.Program j))
      program_agree None None e = agree
      program_agree None (Some j) e = absurd cc
      program_agree (Some i) None e = absurd cc
      program_agree (Some i) (Some j) e =
          let number : i ≡ j = cc in
          record {
            lines_a = agree.lines_a;
            lines_b = agree.lines_b;
            bytes_a = agree.bytes_a;
            bytes_b = agree.bytes_b;
            same = λ i. record (agree.same i) { done = programs_agree i; current = Some (program_at (number_here i) (number i)) };
          }

      block_agree : (x y : SaidBlock) → changed_said w (said.Block x) ≡ changed_said w (said.Block y) → Agree m n c d (with_said a (said.Block x)) (with_said b (said.Block y))
      block_agree x y e =
          let block : ◌≡◌ {A = SaidBlock} (record x { body = changed_body w x.body }) (record y { body = changed_body w y.body }) = cc in
          let current =
          block_put f w (block_at (a.lines + 1) x) a.current ∙ (λ i. with_block (block_at (number_here i) (block i)) (agree.same i).current) ∙ sym (block_put g w (block_at (b.lines + 1) y) b.current)
          in record {
            lines_a = agree.lines_a;
            lines_b = agree.lines_b;
            bytes_a = agree.bytes_a;
            bytes_b = agree.bytes_b;
            same = λ i. record (agree.same i) { blocks = (agree.same i).blocks + 1; current = current i };
          }

      said_agree : (s t : Said) → changed_said w s ≡ changed_said w t → Agree m n c d (with_said a s) (with_said b t)
      said_agree said.Nothing said.Nothing e = agree
      said_agree said.Nothing (said.Program j) e = absurd cc
      said_agree said.Nothing (said.Block y) e = absurd cc
      said_agree (said.Program i) said.Nothing e = absurd cc
      said_agree (said.Program i) (said.Program j) e = program_agree i j cc
      said_agree (said.Program i) (said.Block y) e = absurd cc
      said_agree (said.Block x) said.Nothing e = absurd cc
      said_agree (said.Block x) (said.Program j) e = absurd cc
      said_agree (said.Block x) (said.Block y) e = block_agree x y e

      refusal_agree : (x y : Line) (s t : Said) → ltb 512 (length x.bytes) ≡ ltb 512 (length y.bytes) → (is_past_end a (length x.bytes) x.ended ≡ false) × (is_past_end b (length y.bytes) y.ended ≡ false)
          → changed_said w s ≡ changed_said w t → said_refusal a (length x.bytes) x.ended s ≡ said_refusal b (length y.bytes) y.ended t
      refusal_agree x y s t long reach e =
          let block : is_block s ≡ is_block t = sym (block_same w s) ∙ ap is_block e ∙ block_same w t in
          let range : is_said_in_range s ≡ is_said_in_range t = sym (range_same w s) ∙ ap is_said_in_range e ∙ range_same w t in
          let blocks : a.blocks ≡ b.blocks = λ i. (agree.same i).blocks in
          rw (block, none_agree, long, blocks, reach.0, reach.1, range) refl

      says_agree : (x y : Line) (p q : Result Said Refusal) (k l : Before → Answer) → changed_says w p ≡ changed_says w q → ltb 512 (length x.bytes) ≡ ltb 512 (length y.bytes)
          → (is_past_end a (length x.bytes) x.ended ≡ false) × (is_past_end b (length y.bytes) y.ended ≡ false)
          → ((u v : Before) → Agree (m + 1) (n + 1) (c + line_size x) (d + line_size y) u v → Looks (k u) (l v))
          → Looks (goes_on a (after_said a (length x.bytes) x.ended p) k) (goes_on b (after_said b (length y.bytes) y.ended q) l)
      says_agree x y (Ok s) (Ok t) k l e long reach later =
          let same : changed_said w s ≡ changed_said w t = cc in
          unless_agree _ _ _ _ k l (refusal_agree x y s t long reach same) (later _ _ (next_agree m n c d (with_said a s) (with_said b t) (said_agree s t same) x y))
      says_agree x y (Ok s) (Err q) k l e long reach later = absurd cc
      says_agree x y (Err p) (Ok t) k l e long reach later = absurd cc
      says_agree x y (Err p) (Err q) k l e long reach later =
          let same : p ≡ q = cc in
          λ i. refused (refusal_number (same i)) (number_here i)

  -- The next three: rows that say the same give answers that look the same, after the second `%`
  -- line, between both, and before the first.
  rests_look_same : (rows : List Row) (m n c d : ℕ) (a b : Before) → Agree m n c d a b → Rows m n rows → c + size_all (firsts rows) ≤ 4194304 → d + size_all (seconds rows) ≤ 4194304 → Looks (in_rest (firsts rows) a) (in_rest (seconds rows) b)
  rests_look_same [] m n c d a b agree alike_rows p q = finished_agree m n c d a b agree
  rests_look_same (Both x y ∷ rows) m n c d a b agree alike_rows p q =
      let past_a = not_past a c x (firsts rows) agree.bytes_a p in
      let past_b = not_past b d y (seconds rows) agree.bytes_b q in
      unless_agree m n c d a b agree alike_rows.0 _ _ _ _ (in_rest (firsts rows)) (in_rest (seconds rows)) (rw (past_a, past_b) refl)
      (rests_look_same rows (m + 1) (n + 1) (c + line_size x) (d + line_size y) _ _ (next_agree m n c d a b agree x y) alike_rows.2 (omega arith) (omega arith))
  rests_look_same (Alone y ∷ rows) m n c d a b agree alike_rows p q =
      let past_b = not_past b d y (seconds rows) agree.bytes_b q in
      rests_look_same rows m (n + 1) c (d + line_size y) a _ (alone_agree m n c d a b agree y) alike_rows.1 p (omega arith) ∙ sym (ap (changed_answer g w) (rest_alone b y (seconds rows) past_b))

  bodies_look_same : (rows : List Row) (m n c d : ℕ) (a b : Before) → Agree m n c d a b → Rows m n rows → c + size_all (firsts rows) ≤ 4194304 → d + size_all (seconds rows) ≤ 4194304 → Looks (in_body skips (firsts rows) a) (in_body skips (seconds rows) b)
  bodies_look_same [] m n c d a b agree alike_rows p q = unfinished_agree m n c d a b agree alike_rows
  bodies_look_same (Both x y ∷ rows) m n c d a b agree alike_rows p q =
      let past_a = not_past a c x (firsts rows) agree.bytes_a p in
      let past_b = not_past b d y (seconds rows) agree.bytes_b q in
      let alike = alike_rows.1 in
      chosen (is_percent x.bytes) (is_percent y.bytes) _ _ _ _ alike.percent
      (unless_agree m n c d a b agree alike_rows.0 _ _ _ _ (in_rest (firsts rows)) (in_rest (seconds rows)) (rw (past_a, past_b, alike.long) refl)
      (rests_look_same rows (m + 1) (n + 1) (c + line_size x) (d + line_size y) _ _ (next_agree m n c d a b agree x y) alike_rows.2 (omega arith) (omega arith)))
      (λ other. says_agree m n c d a b agree alike_rows.0 x y _ _ (in_body skips (firsts rows)) (in_body skips (seconds rows)) (alike.says other) alike.long (past_a, past_b)
      (λ u v later. bodies_look_same rows (m + 1) (n + 1) (c + line_size x) (d + line_size y) u v later alike_rows.2 (omega arith) (omega arith)))
  bodies_look_same (Alone y ∷ rows) m n c d a b agree alike_rows p q =
      let past_b = not_past b d y (seconds rows) agree.bytes_b q in
      bodies_look_same rows m (n + 1) c (d + line_size y) a _ (alone_agree m n c d a b agree y) alike_rows.1 p (omega arith) ∙ sym (ap (changed_answer g w) (body_alone skips b y (seconds rows) alike_rows.0 past_b))

  leaders_look_same : f 1 ≡ g 1 → (rows : List Row) (m n c d : ℕ) (a b : Before) → Agree m n c d a b → Rows m n rows → c + size_all (firsts rows) ≤ 4194304 → d + size_all (seconds rows) ≤ 4194304 → Looks (in_leader skips (firsts rows) a) (in_leader skips (seconds rows) b)
  leaders_look_same first_line [] m n c d a b agree alike_rows p q = refused_same (refusal_number NoProgramNumber) 1 1 first_line
  leaders_look_same first_line (Both x y ∷ rows) m n c d a b agree alike_rows p q =
      let past_a = not_past a c x (firsts rows) agree.bytes_a p in
      let past_b = not_past b d y (seconds rows) agree.bytes_b q in
      let alike = alike_rows.1 in
      let behind = next_agree m n c d a b agree x y in
      chosen (is_percent x.bytes) (is_percent y.bytes) _ _ _ _ alike.percent
      (unless_agree m n c d a b agree alike_rows.0 _ _ _ _ (λ after. in_body skips (firsts rows) (tape_begun after)) (λ after. in_body skips (seconds rows) (tape_begun after)) (rw (past_a, past_b, alike.long) refl)
      (bodies_look_same rows (m + 1) (n + 1) (c + line_size x) (d + line_size y) _ _ (begun_agree (m + 1) (n + 1) (c + line_size x) (d + line_size y) _ _ behind alike_rows.0) alike_rows.2 (omega arith) (omega arith)))
      (λ other. unless_agree m n c d a b agree alike_rows.0 _ _ _ _ (in_leader skips (firsts rows)) (in_leader skips (seconds rows)) (rw (past_a, past_b) refl)
      (leaders_look_same first_line rows (m + 1) (n + 1) (c + line_size x) (d + line_size y) _ _ behind alike_rows.2 (omega arith) (omega arith)))
  leaders_look_same first_line (Alone y ∷ rows) m n c d a b agree alike_rows p q =
      let past_b = not_past b d y (seconds rows) agree.bytes_b q in
      leaders_look_same first_line rows m (n + 1) c (d + line_size y) a _ (alone_agree m n c d a b agree y) alike_rows.1 p (omega arith) ∙ sym (ap (changed_answer g w) (leader_alone skips b y (seconds rows) alike_rows.0 past_b))

  -- two texts whose rows say the same have answers that look the same, if both have at most 4 MiB
  pub same_answer : (rows : List Row) → f 0 ≡ g 0 → f 1 ≡ g 1 → Rows 0 0 rows → size_all (firsts rows) ≤ 4194304 → size_all (seconds rows) ≤ 4194304 → Looks (in_leader skips (firsts rows) nothing_read) (in_leader skips (seconds rows) nothing_read)
  same_answer rows start first_line alike_rows p q =
      leaders_look_same first_line rows 0 0 0 0 nothing_read nothing_read (record { lines_a = refl; lines_b = refl; bytes_a = refl; bytes_b = refl; same = λ i. record nothing_read { percent = start i } }) alike_rows (omega arith) (omega arith)
