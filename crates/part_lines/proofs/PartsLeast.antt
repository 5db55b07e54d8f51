-- The lines of a path, closed where it begins anew, are the least lines of its parts. `line` gives,
-- by O number and place, the line of a block that is looked for, `quiet` the least line of a quiet
-- program (one that comes to no wait and no end). A stretch is a run of blocks up to a wait, an
-- end, an M99 without a number or a call that leads to a wait or an end. For the proof of
-- `least_lines` (src/listing.rt).
use Rattle.std.proofs.Common.{◌≡◌, ℕ, zero, suc, ◌+◌, ◌<◌, ◌≤◌, min, ◌⊎◌, inl, inr, Bool, true, false, List, [], ◌∷◌, ◌++◌, length, Option, Some, None, slice_get, refl, ap, sym, subst, ◌∙◌, arith, if◌then◌else◌}
use Rattle.std.proofs.lemmas.List.{length-append}
use Rattle.block_order.specs.declared.program.ControlProgram.{ControlProgram}
use Rattle.block_order.specs.Order.{main_number}
use Rattle.part_order.specs.Parts.{Item, Stretch, Meets, Anew, path_items, path_waits}
use Rattle.part_lines.specs.declared.piece.Ending.{Ending}
use Rattle.part_lines.specs.declared.piece.Ending.TheVariants.{Stops, Returns}
use Rattle.part_lines.specs.declared.piece.PieceLines.{PieceLines}
use Rattle.nc_number.specs.Options.{lesser}
use Rattle.part_lines.specs.Least.{IsLeast}
use Rattle.part_lines.specs.PartLines.{LineInPart, AreLeastLines}
use Rattle.part_lines.specs.Lines.{Lines, with_first}
use Rattle.loud_calls.specs.Calls.{IsShort}
use Rattle.part_lines.specs.Pieces.{lines_to_come, first_of, lines_of_path, IsPiece, AreQuietLines}
use Rattle.part_lines.proofs.Lesser.{lesser_none, least_either, least_same}
use Rattle.part_lines.proofs.Segments.{Seg, ends_anew, stands, seg_listed, anew_listed}
use Rattle.part_lines.proofs.InParts.{StretchLine, ListedLine, part_listed, listed_part}
use Rattle.part_lines.proofs.StretchLines.{stretch_least}
use Rattle.part_lines.proofs.ItemLines.{item_lines, own_line, path_same, lines_length}

-- A stretch that stands behind n waits of the items has this line.
abbrev SegLine : List ControlProgram → (ℕ → ℕ → Option ℕ) → List Item → ℕ → ℕ → Type 0
SegLine tape line xs n k = (p s : ℕ) × Seg xs n p s × StretchLine tape line p s k

module _ (tape : List ControlProgram) (line : ℕ → ℕ → Option ℕ) (quiet : ℕ → Option ℕ) (are : AreQuietLines tape line quiet) where
  -- The least line of stretch s of program p.
  abbrev own : ℕ → ℕ → Option ℕ
  own p s = own_line tape line quiet p s

  -- If no stretch behind n waits has a line, none is the least there.
  none_there : (xs : List Item) (n : ℕ) (o : Option ℕ) → ((k : ℕ) → SegLine tape line xs n k → ⊥) → o ≡ None → IsLeast (SegLine tape line xs n) o
  none_there xs n o never e = rw e never

  -- The lines of these items are, behind each number of waits, the least of the stretches that
  -- stand there.
  abbrev HaveLeast : List Item → Type 0
  HaveLeast xs = (n : ℕ) (o : Option ℕ) → slice_get (item_lines own (None ∷ []) xs) n ≡ Some o → IsLeast (SegLine tape line xs n) o

  -- The lines of items with a stretch in front are the least ones, if those without it are.
  stretch_have : (p s : ℕ) (xs : List Item) (lines : Lines) → item_lines own (None ∷ []) xs ≡ lines → HaveLeast xs
      → (n : ℕ) (o : Option ℕ) → slice_get (with_first (own p s) lines) n ≡ Some o → IsLeast (SegLine tape line (Stretch p s ∷ xs) n) o
  stretch_have p s xs [] e have n o is = absurd cc
  stretch_have p s xs (first ∷ lines) e have zero o is =
      let same : lesser (own p s) first ≡ o = cc in
      subst (IsLeast (SegLine tape line (Stretch p s ∷ xs) 0)) same
      (least_same (λ k. StretchLine tape line p s k ⊎ SegLine tape line xs 0 k) (SegLine tape line (Stretch p s ∷ xs) 0) (lesser (own p s) first)
      to from
      (least_either (StretchLine tape line p s) (SegLine tape line xs 0) (own p s) first (stretch_least tape line quiet are p s)
      (have 0 first (rw e refl))))
    where
      to : (k : ℕ) → StretchLine tape line p s k ⊎ SegLine tape line xs 0 k → SegLine tape line (Stretch p s ∷ xs) 0 k
      to k (inl there) = (p, s, inl (refl, refl, refl), there)
      to k (inr (q, t, seg, there)) = (q, t, inr seg, there)

      from : (k : ℕ) → SegLine tape line (Stretch p s ∷ xs) 0 k → StretchLine tape line p s k ⊎ SegLine tape line xs 0 k
      from k (q, t, inl (none, one, two), there) =
          inl (subst (λ a. StretchLine tape line a s k) (sym one) (subst (λ b. StretchLine tape line q b k) (sym two) there))
      from k (q, t, inr seg, there) = inr (q, t, seg, there)
  stretch_have p s xs (first ∷ lines) e have (suc n) o is =
      least_same (SegLine tape line xs (suc n)) (SegLine tape line (Stretch p s ∷ xs) (suc n)) o
      (λ k there. (there.0, there.1, inr there.2, there.3)) from
      (have (suc n) o (rw e is))
    where
      from : (k : ℕ) → SegLine tape line (Stretch p s ∷ xs) (suc n) k → SegLine tape line xs (suc n) k
      from k (q, t, inl (none, one, two), there) = absurd cc
      from k (q, t, inr seg, there) = (q, t, seg, there)

  -- The lines of any items are the least of the stretches that stand there.
  items_have : (xs : List Item) → HaveLeast xs
  items_have [] zero o is = none_there [] 0 o (λ k there. there.2) (cc)
  items_have [] (suc n) o is = absurd cc
  items_have (Stretch p s ∷ xs) n o is = stretch_have p s xs (item_lines own (None ∷ []) xs) refl (items_have xs) n o is
  items_have (Meets ∷ xs) zero o is = none_there (Meets ∷ xs) 0 o (λ k there. there.2) (cc)
  items_have (Meets ∷ xs) (suc n) o is = items_have xs n o is
  items_have (Anew ∷ xs) zero o is = none_there (Anew ∷ xs) 0 o (λ k there. there.2) (cc)
  items_have (Anew ∷ xs) (suc n) o is = absurd cc

  -- Before the last wait, and behind it if the path does not begin anew, the line of the items is
  -- the least of the part.
  middle_least : (n : ℕ) (o : Option ℕ) → n ≤ path_waits tape → ((n ≡ path_waits tape) → ends_anew (path_items tape) ≡ true → ⊥)
      → slice_get (item_lines own (None ∷ []) (path_items tape)) n ≡ Some o → IsLeast (LineInPart tape line n) o
  middle_least n o few apart is =
      least_same (SegLine tape line (path_items tape) n) (LineInPart tape line n) o
      (λ k there. listed_part tape line n k (there.0, there.1, seg_listed (path_items tape) n there.0 there.1 there.2, there.3))
      (λ k inside. from k (part_listed tape line n k inside))
      (items_have (path_items tape) n o is)
    where
      from : (k : ℕ) → ListedLine tape line n k → SegLine tape line (path_items tape) n k
      from k (p, s, (rest, f), there) = go (stands (path_items tape) n p s rest few f)
        where
          go : Seg (path_items tape) n p s ⊎ ((n ≡ path_waits tape) × (ends_anew (path_items tape) ≡ true) × Seg (path_items tape) 0 p s)
              → SegLine tape line (path_items tape) n k
          go (inl seg) = (p, s, seg, there)
          go (inr (e, anew, seg)) = absurd (apart e anew)

  -- Behind the last wait of a path that begins anew, the lesser of the last and the first line is
  -- the least of the part.
  last_least : (first last : Option ℕ) → ends_anew (path_items tape) ≡ true
      → slice_get (item_lines own (None ∷ []) (path_items tape)) 0 ≡ Some first
      → slice_get (item_lines own (None ∷ []) (path_items tape)) (path_waits tape) ≡ Some last
      → IsLeast (LineInPart tape line (path_waits tape)) (lesser last first)
  last_least first last anew is_first is_last =
      least_same (λ k. SegLine tape line (path_items tape) (path_waits tape) k ⊎ SegLine tape line (path_items tape) 0 k)
      (LineInPart tape line (path_waits tape)) (lesser last first) to
      (λ k inside. from k (part_listed tape line (path_waits tape) k inside))
      (least_either (SegLine tape line (path_items tape) (path_waits tape)) (SegLine tape line (path_items tape) 0) last first
      (items_have (path_items tape) (path_waits tape) last is_last) (items_have (path_items tape) 0 first is_first))
    where
      to : (k : ℕ) → SegLine tape line (path_items tape) (path_waits tape) k ⊎ SegLine tape line (path_items tape) 0 k
          → LineInPart tape line (path_waits tape) k
      to k (inl (p, s, seg, there)) =
          listed_part tape line (path_waits tape) k (p, s, seg_listed (path_items tape) (path_waits tape) p s seg, there)
      to k (inr (p, s, seg, there)) =
          listed_part tape line (path_waits tape) k (p, s, anew_listed (path_items tape) p s anew seg, there)

      from : (k : ℕ) → ListedLine tape line (path_waits tape) k
          → SegLine tape line (path_items tape) (path_waits tape) k ⊎ SegLine tape line (path_items tape) 0 k
      from k (p, s, (rest, f), there) = go (stands (path_items tape) (path_waits tape) p s rest (omega arith) f)
        where
          go : Seg (path_items tape) (path_waits tape) p s
              ⊎ ((path_waits tape ≡ path_waits tape) × (ends_anew (path_items tape) ≡ true) × Seg (path_items tape) 0 p s)
              → SegLine tape line (path_items tape) (path_waits tape) k ⊎ SegLine tape line (path_items tape) 0 k
          go (inl seg) = inl (p, s, seg, there)
          go (inr (e, is, seg)) = inr (p, s, seg, there)

  -- What the piece of the main program, which has these lines and ends so, says of the list.
  module _ (lines : PieceLines) (ending : Ending) (short : IsShort tape 9 (main_number tape))
      (piece : IsPiece tape line quiet (main_number tape) lines ending) where
    -- The lines of the path's items are those of the piece of the main program.
    path_is : (end : Lines) → item_lines own end (path_items tape) ≡ lines_to_come lines (Some ending) end []
    path_is end = path_same tape line quiet end ∙ piece 9 end short

    -- The lines of the path's items, without what comes once they begin anew, are those of the
    -- piece: the parts that are done, and then the last one.
    path_closed : item_lines own (None ∷ []) (path_items tape) ≡ lines.done.items ++ lines.last ∷ []
    path_closed = path_is (None ∷ []) ∙ go ending
      where
        go : (e : Ending) → lines_to_come lines (Some e) (None ∷ []) [] ≡ lines.done.items ++ lines.last ∷ []
        go Stops = ap (λ o. lines.done.items ++ o ∷ []) (lesser_none lines.last)
        go Returns = ap (λ o. lines.done.items ++ o ∷ []) (lesser_none lines.last)

    -- As many parts are done in the piece as the list has waits.
    waits_are : length lines.done.items ≡ path_waits tape
    waits_are =
        let one = lines_length own (None ∷ []) (path_items tape) in
        let here = ap length path_closed in
        let long = length-append lines.done.items (lines.last ∷ []) in
        go (ends_anew (path_items tape)) refl one here long
      where
        go : (b : Bool) → ends_anew (path_items tape) ≡ b
            → length (item_lines own (None ∷ []) (path_items tape)) ≡ path_waits tape + (if ends_anew (path_items tape) then 1 else 1)
            → length (item_lines own (None ∷ []) (path_items tape)) ≡ length (lines.done.items ++ lines.last ∷ [])
            → length (lines.done.items ++ lines.last ∷ []) ≡ length lines.done.items + 1 → length lines.done.items ≡ path_waits tape
        go true is one here long = let e : path_waits tape + (if ends_anew (path_items tape) then 1 else 1) ≡ path_waits tape + 1 = rw is refl in omega arith
        go false is one here long = let e : path_waits tape + (if ends_anew (path_items tape) then 1 else 1) ≡ path_waits tape + 1 = rw is refl in omega arith

    -- A line more in the first part adds no part.
    with_length : (o : Option ℕ) (xs : Lines) → length (with_first o xs) ≡ length xs
    with_length o [] = refl
    with_length o (x ∷ xs) = refl

    -- The list begins anew exactly if the main program returns.
    anew_is : (e : Ending) → ending ≡ e → (ends_anew (path_items tape) ≡ true → e ≡ Returns) × (e ≡ Returns → ends_anew (path_items tape) ≡ true)
    anew_is e is = go e is (ends_anew (path_items tape)) refl
      where
        two : Lines
        two = None ∷ None ∷ []

        go : (e : Ending) → ending ≡ e → (b : Bool) → ends_anew (path_items tape) ≡ b
            → (ends_anew (path_items tape) ≡ true → e ≡ Returns) × (e ≡ Returns → ends_anew (path_items tape) ≡ true)
        go Returns is true anew = (λ _. refl, λ _. anew)
        go Stops is false anew = (λ yes. absurd cc, λ yes. absurd cc)
        go Stops is true anew =
            let all = lines_length own two (path_items tape) in
            let size : path_waits tape + (if ends_anew (path_items tape) then 2 else 1) ≡ path_waits tape + 2 = rw anew refl in
            let here = ap length (path_is two ∙ ap (λ x. lines_to_come lines (Some x) two []) is) in
            let long = length-append lines.done.items (with_first lines.last (None ∷ [])) in
            let waits = waits_are in
            absurd (omega arith)
        go Returns is false anew =
            let all = lines_length own two (path_items tape) in
            let size : path_waits tape + (if ends_anew (path_items tape) then 2 else 1) ≡ path_waits tape + 1 = rw anew refl in
            let here = ap length (path_is two ∙ ap (λ x. lines_to_come lines (Some x) two []) is) in
            let long = length-append lines.done.items (with_first lines.last two) in
            let waits = waits_are in
            absurd (omega arith)

-- A list with one entry more has its old entries at their places.
get_front : (xs : Lines) (x : Option ℕ) (n : ℕ) → n < length xs → slice_get (xs ++ x ∷ []) n ≡ slice_get xs n
get_front [] x n less = absurd (omega arith)
get_front (y ∷ xs) x zero less = refl
get_front (y ∷ xs) x (suc n) less = get_front xs x n (omega arith)

-- The last entry of a list with one entry more is the new one.
get_end : (xs : Lines) (x : Option ℕ) → slice_get (xs ++ x ∷ []) (length xs) ≡ Some x
get_end [] x = refl
get_end (y ∷ xs) x = get_end xs x

-- A place that has an entry lies within the list.
get_past : (xs : Lines) (n : ℕ) (o : Option ℕ) → slice_get xs n ≡ Some o → n < length xs
get_past [] n o is = absurd cc
get_past (y ∷ xs) zero o is = omega arith
get_past (y ∷ xs) (suc n) o is = let rest = get_past xs n o is in omega arith

-- The first entry of a list with one entry more is the first of the old ones, if there is one.
get_first : (xs : Lines) (x : Option ℕ) → 0 < length xs → slice_get (xs ++ x ∷ []) 0 ≡ Some (first_of xs)
get_first [] x some = absurd (omega arith)
get_first (y ∷ xs) x some = refl

-- The lines of the main program's piece, closed, are the least line of each part.
pub closed_least : (tape : List ControlProgram) (line : ℕ → ℕ → Option ℕ) (quiet : ℕ → Option ℕ) → AreQuietLines tape line quiet
    → (lines : PieceLines) (ending : Ending) → IsShort tape 9 (main_number tape)
    → IsPiece tape line quiet (main_number tape) lines ending → AreLeastLines tape line (lines_of_path lines ending)
closed_least tape line quiet are lines ending short piece = record {
  many = many ending;
  least = λ n o is. go ending refl n o is (less_or_same n (length lines.done.items));
}
  where
    same : item_lines (own_line tape line quiet) (None ∷ []) (path_items tape) ≡ lines.done.items ++ lines.last ∷ []
    same = path_closed tape line quiet are lines ending short piece

    waits : length lines.done.items ≡ path_waits tape
    waits = waits_are tape line quiet are lines ending short piece

    many : (e : Ending) → length (lines_of_path lines e) ≡ suc (path_waits tape)
    many Stops = let long = length-append lines.done.items (lines.last ∷ []) in let w = waits in omega arith
    many Returns =
        let long = length-append lines.done.items (lesser lines.last (first_of lines.done.items) ∷ []) in let w = waits in omega arith

    less_or_same : (n m : ℕ) → (n < m) ⊎ ((n ≡ m) ⊎ (m < n))
    less_or_same n m = grind arith

    front : (e : Ending) (n : ℕ) (o : Option ℕ) → n < length lines.done.items → slice_get (lines_of_path lines e) n ≡ Some o
        → IsLeast (LineInPart tape line n) o
    front Stops n o less is =
        middle_least tape line quiet are n o (let w = waits in omega arith) (λ e _. let w = waits in omega arith) (ap (λ xs. slice_get xs n) same ∙ is)
    front Returns n o less is =
        let there = get_front lines.done.items (lesser lines.last (first_of lines.done.items)) n less in
        let here = get_front lines.done.items lines.last n less in
        middle_least tape line quiet are n o (let w = waits in omega arith) (λ e _. let w = waits in omega arith)
        (ap (λ xs. slice_get xs n) same ∙ (here ∙ (sym there ∙ is)))

    last_is : slice_get (item_lines (own_line tape line quiet) (None ∷ []) (path_items tape)) (path_waits tape) ≡ Some lines.last
    last_is =
        ap (λ xs. slice_get xs (path_waits tape)) same
        ∙ subst (λ i. slice_get (lines.done.items ++ lines.last ∷ []) i ≡ Some lines.last) waits (get_end lines.done.items lines.last)

    -- The last of them is the least line of the part behind the last wait.
    end : (e : Ending) → ending ≡ e → (o : Option ℕ) → slice_get (lines_of_path lines e) (length lines.done.items) ≡ Some o
        → IsLeast (LineInPart tape line (path_waits tape)) o
    end Stops is o at =
        let back = anew_is tape line quiet are lines ending short piece Stops is in
        middle_least tape line quiet are (path_waits tape) o (omega arith) (λ e anew. let other = back.0 anew in absurd cc)
        (ap (λ xs. slice_get xs (path_waits tape)) same ∙ subst (λ i. slice_get (lines.done.items ++ lines.last ∷ []) i ≡ Some o) waits at)
    end Returns is o at =
        let anew = (anew_is tape line quiet are lines ending short piece Returns is).1 refl in
        let own_end : lesser lines.last (first_of lines.done.items) ≡ o =
        (let a = get_end lines.done.items (lesser lines.last (first_of lines.done.items)) in cc) in
        subst (IsLeast (LineInPart tape line (path_waits tape))) own_end (by_length lines.done.items refl anew)
      where
        by_length : (xs : Lines) → lines.done.items ≡ xs → ends_anew (path_items tape) ≡ true
            → IsLeast (LineInPart tape line (path_waits tape)) (lesser lines.last (first_of lines.done.items))
        by_length [] e anew =
            let none : path_waits tape ≡ 0 = (let w = waits in let l = ap length e in omega arith) in
            let first : slice_get (item_lines (own_line tape line quiet) (None ∷ []) (path_items tape)) 0 ≡ Some lines.last =
            subst (λ i. slice_get (item_lines (own_line tape line quiet) (None ∷ []) (path_items tape)) i ≡ Some lines.last) none last_is in
            rw (ap first_of e) (subst (IsLeast (LineInPart tape line (path_waits tape))) (again lines.last ∙ sym (lesser_none lines.last))
            (last_least tape line quiet are lines.last lines.last anew first last_is))
          where
            again : (a : Option ℕ) → lesser a a ≡ a
            again None = refl
            again (Some a) = let e : min a a ≡ a = omega arith in ap Some e
        by_length (x ∷ xs) e anew =
            let some : 0 < length lines.done.items = (let l = ap length e in omega arith) in
            last_least tape line quiet are (first_of lines.done.items) lines.last anew
            (ap (λ ys. slice_get ys 0) same ∙ get_first lines.done.items lines.last some) last_is

    go : (e : Ending) → ending ≡ e → (n : ℕ) (o : Option ℕ) → slice_get (lines_of_path lines ending) n ≡ Some o
        → (n < length lines.done.items) ⊎ ((n ≡ length lines.done.items) ⊎ (length lines.done.items < n)) → IsLeast (LineInPart tape line n) o
    go e same_end n o is (inl less) = front ending n o less is
    go e same_end n o is (inr (inl at)) =
        let there : slice_get (lines_of_path lines ending) (length lines.done.items) ≡ Some o = subst (λ i. slice_get (lines_of_path lines ending) i ≡ Some o) at is in
        let w : n ≡ path_waits tape = at ∙ waits in
        subst (λ i. IsLeast (LineInPart tape line i) o) (sym w) (end ending refl o there)
    go e same_end n o is (inr (inr more)) =
        let within = get_past (lines_of_path lines ending) n o is in
        let long = many ending in
        let w = waits in absurd (omega arith)
