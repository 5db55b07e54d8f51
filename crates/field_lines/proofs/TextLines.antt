-- The lines of a text, one after the other: the first one and the lines of the rest. 10 is the line
-- feed. For the proof of `cut_line` (src/line.rt).
use Rattle.std.proofs.Common.{◌≡◌, ℕ, ◌+◌, ◌<◌, ◌≤◌, Bool, true, false, cond, eqb, ltb, List, [], ◌∷◌, length, take, drop, Some, None, refl, ap, ◌∙◌, arith}
use Rattle.std.specs.List.{position, position_or_len, before_first, after_first, slice_split, onto_first}
use Rattle.std.specs.Str.Lines.{lines, lines_of_parts, strip_carriage_return}
use Rattle.std.proofs.lemmas.Bool.{ltb-true, ltb-false, cond-false, ne_eqb}
use Rattle.std.proofs.lemmas.Option.{cond_some}
use Rattle.std.proofs.lemmas.List.Elements.{All-from_get_or}
use Rattle.std.proofs.lemmas.List.Sums.{fails_before_first}
use Rattle.std.proofs.lemmas.List.Splits.{slice_split_first, slice_split_none}

-- The byte is a line feed.
abbrev pub is_end : ℕ → Bool
is_end b = eqb b 10

-- A list of parts is not empty: it has a first one.
record IsCons (parts : List (List ℕ)) : Type 0 where
  -- the first part
  first : List ℕ
  -- the parts after it
  others : List (List ℕ)
  -- the parts are these
  is : parts ≡ first ∷ others

-- Parts of which the first got a byte at its front still have a first one.
onto_is_cons : (b : ℕ) (parts : List (List ℕ)) → IsCons (onto_first b parts)
onto_is_cons b [] = record { first = b ∷ []; others = []; is = refl }
onto_is_cons b (part ∷ parts) = record { first = b ∷ part; others = parts; is = refl }

-- One of two lists of parts that both have a first one has a first one.
chosen_is_cons : (test : Bool) (a b : List (List ℕ)) → IsCons a → IsCons b → IsCons (cond test a b)
chosen_is_cons true a b p q = p
chosen_is_cons false a b p q = q

-- A split text has a first part.
split_is_cons : (text : List ℕ) → IsCons (slice_split is_end text)
split_is_cons [] = record { first = []; others = []; is = refl }
split_is_cons (b ∷ text) = chosen_is_cons (is_end b) _ _ (record { first = []; others = slice_split is_end text; is = refl }) (onto_is_cons b (slice_split is_end text))

-- The first line is the first part without its carriage return, if others follow.
part_more : (part : List ℕ) (parts : List (List ℕ)) → IsCons parts → lines_of_parts (part ∷ parts) ≡ strip_carriage_return part ∷ lines_of_parts parts
part_more part parts cons = rw (cons.is) refl

-- If a text has a line feed, its lines are what stands before that and then the lines of the rest.
pub lines_at : (text : List ℕ) (at : ℕ) → position is_end text ≡ Some at → lines text ≡ strip_carriage_return (take at text) ∷ lines (drop (at + 1) text)
lines_at text at found =
    let p = cond_some (ltb (position_or_len is_end text) (length text)) (position_or_len is_end text) at found in
    let e = slice_split_first is_end text 0 (ltb-true _ _ p.0) in
    let whole : lines text ≡ strip_carriage_return (before_first is_end text) ∷ lines (after_first is_end text) = ap lines_of_parts e ∙ part_more (before_first is_end text) (slice_split is_end (after_first is_end text)) (split_is_cons (after_first is_end text)) in
    whole ∙ ap (λ (n : ℕ). strip_carriage_return (take n text) ∷ lines (drop (n + 1) text)) p.1

-- If a choice by a test gave nothing, the test failed.
none_found : (test : Bool) (n : ℕ) → cond test (Some n) None ≡ None → test ≡ false
none_found true n e = absurd cc
none_found false n e = refl

-- A text without a line feed is one line.
pub lines_last : (text : List ℕ) → position is_end text ≡ None → 0 < length text → lines text ≡ text ∷ []
lines_last text none long =
    let far : length text ≤ position_or_len is_end text = ltb-false _ _ (none_found (ltb (position_or_len is_end text) (length text)) (position_or_len is_end text) none) in
    let e = slice_split_none is_end text (All-from_get_or (λ b. is_end b ≡ false) text 0 (λ i h. fails_before_first is_end text i 0 (omega arith))) in
    ap lines_of_parts e ∙ nonempty text long
  where
    nonempty : (line : List ℕ) → 0 < length line → cond (eqb (length line) 0) [] (line ∷ []) ≡ line ∷ []
    nonempty line h = cond-false (eqb (length line) 0) [] (line ∷ []) (ne_eqb _ _ (λ e. omega arith))
