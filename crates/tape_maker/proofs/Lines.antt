-- The lines of a made tape one after the other, as the loops of `put_round` and `tape`
-- (src/tape.rt) write them. For their proofs, and Sizes.antt.
use Rattle.std.proofs.Common.{◌≡◌, ℕ, zero, suc, ◌+◌, ◌-◌, ◌≤◌, List, [], ◌∷◌, ◌++◌, map, refl, ap, sym, arith, append_assoc, codes}
use Rattle.std.specs.List.{flat_map, range_with_len}
use Rattle.std.proofs.lemmas.Grind.{flat_map-append}
use Rattle.std.proofs.lemmas.List.{append-nil, map-append}
use Rattle.nc_number.specs.declared.path.Path.{Path}
use Rattle.tape_maker.specs.MadeTape.{cut_line, cuts, end_lines, line_with_end, head_lines, made_lines, made_tape, round_lines, rounds, text_of, variable_line, wait_line}

-- the text of two lists of lines is the text of the first and that of the second
pub text_of-append : (xs ys : List (List ℕ)) → text_of (xs ++ ys) ≡ text_of xs ++ text_of ys
unfolding text_of
text_of-append xs ys = flat_map-append line_with_end xs ys

-- the text of one line is that line and its line feed
text_of-one : (x : List ℕ) → text_of (x ∷ []) ≡ line_with_end x
unfolding text_of
text_of-one x = append-nil (line_with_end x)

-- the text of two lines is each line and its line feed
pub text_of-two : (x y : List ℕ) → text_of (x ∷ y ∷ []) ≡ line_with_end x ++ line_with_end y
unfolding text_of
text_of-two x y = ap (λ t. line_with_end x ++ t) (append-nil (line_with_end y))

-- a range with one more number has it at its end
range_more : (a n j : ℕ) → a + n ≡ j → range_with_len a (n + 1) ≡ range_with_len a n ++ j ∷ []
range_more a zero j e = let same : a ≡ j = omega arith in rw same refl
range_more a (suc n) j e =
    let one : suc n + 1 ≡ suc (n + 1) = omega arith in
    let more = range_more (a + 1) n j (omega arith) in
    rw one (ap (λ xs. a ∷ xs) more)

-- before the first line a text is as it was
pub first_line : (f : ℕ → List ℕ) (before : List ℕ) → before ≡ before ++ text_of (map f (range_with_len 0 0))
unfolding text_of
first_line f before = sym (append-nil before)

-- a text that ends with n lines made from numbers, and the next such line, ends with n + 1 of them
pub line_more : (f : ℕ → List ℕ) (before now after : List ℕ) (n : ℕ)
    → now ≡ before ++ text_of (map f (range_with_len 0 n)) → after ≡ now ++ line_with_end (f n)
    → after ≡ before ++ text_of (map f (range_with_len 0 (n + 1)))
line_more f before now after n so_far here =
    let e = range_more 0 n n (omega arith) in
    rw (e, map-append, text_of-append, text_of-one (f n), ← append_assoc, ← so_far) here

-- a text of a head and rounds, and the text of one round more, is that of the head and all rounds
pub round_more : (f : ℕ → List (List ℕ)) (head : List (List ℕ)) (now after : List ℕ) (round : ℕ) → 1 ≤ round
    → now ≡ text_of (head ++ flat_map f (range_with_len 1 (round - 1))) → after ≡ now ++ text_of (f round)
    → after ≡ text_of (head ++ flat_map f (range_with_len 1 (round + 1 - 1)))
round_more f head now after round counted so_far here =
    let next : round + 1 - 1 ≡ (round - 1) + 1 = omega arith in
    let e = range_more 1 (round - 1) round (omega arith) in
    let last : flat_map f (round ∷ []) ≡ f round = append-nil (f round) in
    rw (next, e, flat_map-append, last, ← append_assoc, text_of-append, ← so_far) here

-- the cuts of a round are the numbers from 0 on, 98 of them
cuts_are : (n : ℕ) → n ≡ 98 → cuts ≡ range_with_len 0 n
unfolding cuts
cuts_are n e = rw e refl

-- the rounds of a tape are the numbers from 1 on, 50 of them
rounds_are : (n : ℕ) → n ≡ 50 → rounds ≡ range_with_len 1 n
unfolding rounds
rounds_are n e = rw e refl

-- the lines of a round: its cuts, its line on a variable, and its wait
round_lines_are : (path : Path) (number round : ℕ)
    → round_lines path number round ≡ map (cut_line path number round) cuts ++ variable_line path round ∷ wait_line number round ∷ []
unfolding round_lines
round_lines_are path number round = refl

-- after 98 cuts, the line on a variable and the wait a text ends with a whole round
pub round_done : (path : Path) (number round : ℕ) (before now later : List ℕ) (cut : ℕ) → cut ≡ 98
    → now ≡ before ++ text_of (map (cut_line path number round) (range_with_len 0 cut))
    → later ≡ now ++ line_with_end (variable_line path round)
    → before ++ text_of (round_lines path number round) ≡ later ++ line_with_end (wait_line number round)
round_done path number round before now later cut all so_far statement =
    rw (round_lines_are path number round, cuts_are cut all, text_of-append, text_of-two, ← append_assoc, ← append_assoc, ← so_far, statement) refl

-- the text of the head and no round is the four lines that the code writes first
pub first_round : (f : ℕ → List (List ℕ)) → text_of (head_lines ++ flat_map f (range_with_len 1 0)) ≡ codes "%\nO0001\nG00 X200. Z100.\nG99 F0.2\n"
unfolding head_lines text_of
first_round f = refl

-- the lines of the end, as a text
end_text : text_of end_lines ≡ codes "M30\n%\n"
unfolding end_lines text_of
end_text = refl

-- a made tape is the text of all its lines
pub made_tape_is : (path : Path) (number : ℕ)
    → made_tape path number ≡ text_of (head_lines ++ flat_map (round_lines path number) rounds ++ end_lines)
unfolding made_tape made_lines
made_tape_is path number = refl

-- after the head, 50 rounds and the end a text is a made tape
pub tape_done : (path : Path) (number : ℕ) (now after : List ℕ) (round : ℕ) → round ≡ 51
    → now ≡ text_of (head_lines ++ flat_map (round_lines path number) (range_with_len 1 (round - 1)))
    → after ≡ now ++ codes "M30\n%\n"
    → after ≡ made_tape path number
tape_done path number now after round all so_far last =
    rw (made_tape_is path number, rounds_are (round - 1) (omega arith), text_of-append, end_text, ← so_far) last
