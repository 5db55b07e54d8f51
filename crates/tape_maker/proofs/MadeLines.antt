-- The lines of a made tape: how many there are, which begin with M, and that its text reads as
-- them. For `law_of_lines` and `law_of_waits` (src/laws.rt).
use Rattle.std.proofs.Common.{◌≡◌, ℕ, zero, suc, ◌+◌, ◌-◌, ◌*◌, ◌/◌, ◌%◌, ◌<◌, ◌≤◌, Bool, true, false, cond, ◌&&◌, List, [], ◌∷◌, ◌++◌, map, filter, length, refl, ap, ◌∙◌, arith, append_assoc, length-append, codes, inl, inr}
use Rattle.std.specs.Prelude.{nat_eq, nat_le}
use Rattle.std.specs.List.{flat_map, list_all, range_with_len, slice_index, slice_split}
use Rattle.std.specs.Str.Lines.{lines, lines_of_parts, strip_carriage_return}
use Rattle.std.specs.Fmt.{decimal}
use Rattle.std.proofs.lemmas.Bool.{and_from, and_parts, le-leb, leb-true, ne_eqb}
use Rattle.std.proofs.lemmas.Bool.Decides.{leb_tells}
use Rattle.std.proofs.lemmas.Fmt.{decimal_digit, decimal_step}
use Rattle.std.proofs.lemmas.List.{length-map}
use Rattle.std.proofs.lemmas.List.Elements.{filter-append}
use Rattle.std.proofs.lemmas.List.Folds.{list_all-append}
use Rattle.std.proofs.lemmas.List.Splits.{length-slice_split}
use Rattle.std.proofs.lemmas.List.FromFn.{length-range_with_len}
use Rattle.nc_number.specs.declared.path.Path.{Path}
use Rattle.nc_number.specs.declared.path.Path.TheVariants.{One, Two}
use Rattle.tape_maker.specs.MadeTape.{begins_with_m, cut_depth, cut_diameter, cut_line, cuts, end_lines, line_with_end, head_lines, made_lines, made_tape, round_lines, rounds, text_of, variable_line, wait_code, wait_line}

-- How many lines.

-- a round has 100 lines: 98 cuts, one on a variable, and a wait
length_round : (path : Path) (number round : ℕ) → length (round_lines path number round) ≡ 100
unfolding round_lines cuts
length_round path number round =
    let front = map (cut_line path number round) (range_with_len 0 98) in
    let many : length front ≡ 98 = length-map (range_with_len 0 98) (cut_line path number round) ∙ length-range_with_len 0 98 in
    length-append front (variable_line path round ∷ wait_line number round ∷ []) ∙ ap (λ n. n + 2) many

-- rounds of 100 lines each have 100 times as many lines as there are rounds
length_rounds : (f : ℕ → List (List ℕ)) → ((k : ℕ) → length (f k) ≡ 100) → (ks : List ℕ) → length (flat_map f ks) ≡ 100 * length ks
length_rounds f each [] = refl
length_rounds f each (k ∷ ks) = omega (arith, length-append (f k) (flat_map f ks), each k, length_rounds f each ks)

-- the head of a made tape has 4 lines
length_head : length head_lines ≡ 4
unfolding head_lines
length_head = refl

-- the end of a made tape has 2 lines
length_end : length end_lines ≡ 2
unfolding end_lines
length_end = refl

-- a made tape has 50 rounds
length_of_rounds : length rounds ≡ 50
unfolding rounds
length_of_rounds = refl

-- a made tape has 5006 lines
pub length_made : (path : Path) (number : ℕ) → length (made_lines path number) ≡ 5006
unfolding made_lines
length_made path number =
    let middle = flat_map (round_lines path number) rounds in
    let many : length middle ≡ 100 * length rounds = length_rounds (round_lines path number) (length_round path number) rounds in
    omega (arith, length-append (head_lines ++ middle) end_lines, length-append head_lines middle, many, length_of_rounds, length_head, length_end)

-- Which lines begin with M.

-- the line of a cut does not begin with M
cut_begins : (path : Path) (number round cut : ℕ) → begins_with_m (cut_line path number round cut) ≡ false
unfolding begins_with_m cut_line
cut_begins path number round cut = refl

-- a line on a variable does not begin with M
variable_begins : (path : Path) (round : ℕ) → begins_with_m (variable_line path round) ≡ false
unfolding begins_with_m variable_line
variable_begins One round =
    elim (nat_eq (round % 2) 1) as (λ b. begins_with_m (cond b (codes "#501=#501+1") (codes "#1=#1+1")) ≡ false) [ true ↦ refl | false ↦ refl ]
variable_begins Two round =
    elim (nat_eq (round % 2) 1) as (λ b. begins_with_m (cond b (codes "#1=#1+1") (codes "#502=#501")) ≡ false) [ true ↦ refl | false ↦ refl ]

-- the line of a wait begins with M
wait_begins : (number round : ℕ) → begins_with_m (wait_line number round) ≡ true
unfolding begins_with_m wait_line
wait_begins number round = refl

-- no line of the head begins with M
head_begins : filter begins_with_m head_lines ≡ []
unfolding begins_with_m head_lines
head_begins = refl

-- of the lines of the end, M30 alone begins with M
end_begins : filter begins_with_m end_lines ≡ codes "M30" ∷ []
unfolding begins_with_m end_lines
end_begins = refl

-- of the lines of cuts none begins with M
no_cut_begins : (path : Path) (number round : ℕ) (ks : List ℕ) → filter begins_with_m (map (cut_line path number round) ks) ≡ []
no_cut_begins path number round [] = refl
no_cut_begins path number round (k ∷ ks) = rw (cut_begins path number round k) (no_cut_begins path number round ks)

-- of the lines of a round its wait alone begins with M
round_begins : (path : Path) (number round : ℕ) → filter begins_with_m (round_lines path number round) ≡ wait_line number round ∷ []
unfolding round_lines
round_begins path number round =
    rw (filter-append, no_cut_begins path number round cuts, variable_begins path round, wait_begins number round) refl

-- of the lines of rounds their waits alone begin with M
rounds_begin : (path : Path) (number : ℕ) (ks : List ℕ) → filter begins_with_m (flat_map (round_lines path number) ks) ≡ map (wait_line number) ks
rounds_begin path number [] = refl
rounds_begin path number (k ∷ ks) =
    filter-append begins_with_m (round_lines path number k) (flat_map (round_lines path number) ks)
    ∙ rw (round_begins path number k, rounds_begin path number ks) refl

-- of the lines of a made tape its waits and M30 alone begin with M
pub made_begins : (path : Path) (number : ℕ) → filter begins_with_m (made_lines path number) ≡ map (wait_line number) rounds ++ codes "M30" ∷ []
unfolding made_lines
made_begins path number =
    let middle = flat_map (round_lines path number) rounds in
    filter-append begins_with_m (head_lines ++ middle) end_lines
    ∙ rw (filter-append begins_with_m head_lines middle, head_begins, rounds_begin path number rounds, end_begins) refl

-- The text reads as the lines: no line has a byte below the space.

-- no byte of the line is a line feed (10) or a carriage return (13)
plain : List ℕ → Bool
plain line = list_all (λ b. nat_le 32 b) line

-- in a text that begins with a plain line and its line feed, that line is the first part
split_plain : (line rest : List ℕ) → plain line ≡ true → slice_split (λ b. nat_eq b 10) (line ++ 10 ∷ rest) ≡ line ∷ slice_split (λ b. nat_eq b 10) rest
unfolding plain
split_plain [] rest clean = refl
split_plain (b ∷ line) rest clean =
    let parts = and_parts (nat_le 32 b) (list_all (λ b. nat_le 32 b) line) clean in
    let low : 32 ≤ b = leb-true 32 b parts.0 in
    let no_end : nat_eq b 10 ≡ false = ne_eqb b 10 (λ e. omega arith) in
    rw (no_end, split_plain line rest parts.1) refl

-- a plain line has no carriage return at any place
plain_at : (line : List ℕ) (k : ℕ) → plain line ≡ true → nat_eq (slice_index line k) 13 ≡ false
unfolding plain
plain_at [] k clean = refl
plain_at (b ∷ line) zero clean =
    let parts = and_parts (nat_le 32 b) (list_all (λ b. nat_le 32 b) line) clean in
    let low : 32 ≤ b = leb-true 32 b parts.0 in
    ne_eqb b 13 (λ e. omega arith)
plain_at (b ∷ line) (suc k) clean =
    let parts = and_parts (nat_le 32 b) (list_all (λ b. nat_le 32 b) line) clean in
    plain_at line k parts.1

-- a plain line has no carriage return at its end, so that none is cut off
strip_plain : (line : List ℕ) → plain line ≡ true → strip_carriage_return line ≡ line
strip_plain line clean = rw (plain_at line (length line - 1) clean) refl

-- the first line of several parts is the first part
first_of_parts : (line : List ℕ) (parts : List (List ℕ)) → 0 < length parts → lines_of_parts (line ∷ parts) ≡ strip_carriage_return line ∷ lines_of_parts parts
first_of_parts line [] some = absurd (omega arith)
first_of_parts line (x ∷ more) some = refl

-- a text split at line feeds has one part at least
split_some : (bs : List ℕ) → 0 < length (slice_split (λ b. nat_eq b 10) bs)
split_some bs = omega (arith, length-slice_split (λ b. nat_eq b 10) bs)

-- the text of plain lines reads as these lines
read_lines : (ls : List (List ℕ)) → list_all plain ls ≡ true → lines (text_of ls) ≡ ls
unfolding text_of
read_lines [] clean = refl
read_lines (line ∷ ls) clean =
    let parts = and_parts (plain line) (list_all plain ls) clean in
    let rest = flat_map line_with_end ls in
    let cut : slice_split (λ b. nat_eq b 10) ((line ++ 10 ∷ []) ++ rest) ≡ line ∷ slice_split (λ b. nat_eq b 10) rest
    = ap (slice_split (λ b. nat_eq b 10)) (append_assoc line (10 ∷ []) rest) ∙ split_plain line rest parts.0 in
    ap lines_of_parts cut
    ∙ first_of_parts line (slice_split (λ b. nat_eq b 10) rest) (split_some rest)
    ∙ rw (strip_plain line parts.0, read_lines ls parts.1) refl

-- Each line of a made tape is plain.

-- the byte of a digit is plain
digit_plain : (d : ℕ) → plain ((48 + d) ∷ []) ≡ true
unfolding plain
digit_plain d = and_from (nat_le 32 (48 + d)) true (le-leb 32 (48 + d) (omega arith)) refl

-- two plain texts one after the other are plain
plain-append : (xs ys : List ℕ) → plain xs ≡ true → plain ys ≡ true → plain (xs ++ ys) ≡ true
unfolding plain
plain-append xs ys p q = list_all-append (λ b. nat_le 32 b) xs ys ∙ and_from (list_all (λ b. nat_le 32 b) xs) (list_all (λ b. nat_le 32 b) ys) p q

-- a number of one digit is plain
one_plain : (n : ℕ) → n < 10 → plain (decimal n) ≡ true
one_plain n h = rw (decimal_digit n h) (digit_plain n)

-- a number of at most two digits is plain
two_plain : (n : ℕ) → n < 100 → plain (decimal n) ≡ true
two_plain n h =
    elim (leb_tells 10 n) [
      | inl more ↦ rw (decimal_step n more.1 (omega arith)) (plain-append (decimal (n / 10)) ((48 + n % 10) ∷ []) (one_plain (n / 10) (omega arith)) (digit_plain (n % 10)))
      | inr less ↦ one_plain n less.1
    ]

-- a number of at most three digits is plain
three_plain : (n : ℕ) → n < 1000 → plain (decimal n) ≡ true
three_plain n h =
    elim (leb_tells 10 n) [
      | inl more ↦ rw (decimal_step n more.1 (omega arith)) (plain-append (decimal (n / 10)) ((48 + n % 10) ∷ []) (two_plain (n / 10) (omega arith)) (digit_plain (n % 10)))
      | inr less ↦ one_plain n less.1
    ]

-- the text before the diameter of a cut is plain
opening_plain : plain (codes "G01 X") ≡ true
unfolding plain
opening_plain = refl

-- the text between the diameter and the depth of a cut is plain
between_plain : plain (codes ". Z-") ≡ true
unfolding plain
between_plain = refl

-- the point at the end of a cut is plain
point_plain : plain (codes ".") ≡ true
unfolding plain
point_plain = refl

-- the letter of a wait is plain
wait_letter_plain : plain (codes "M") ≡ true
unfolding plain
wait_letter_plain = refl

-- the line of a cut is plain
cut_plain : (path : Path) (number round cut : ℕ) → plain (cut_line path number round cut) ≡ true
unfolding cut_line
cut_plain path number round cut =
    let x = decimal (cut_diameter path number round cut) in
    let z = decimal (cut_depth number round cut) in
    let x_plain : plain x ≡ true = three_plain (cut_diameter path number round cut) (omega arith) in
    let z_plain : plain z ≡ true = three_plain (cut_depth number round cut) (omega arith) in
    plain-append (codes "G01 X" ++ x ++ codes ". Z-" ++ z) (codes ".")
    (plain-append (codes "G01 X" ++ x ++ codes ". Z-") z
    (plain-append (codes "G01 X" ++ x) (codes ". Z-") (plain-append (codes "G01 X") x opening_plain x_plain) between_plain) z_plain) point_plain

-- the line of a wait is plain
wait_plain : (number round : ℕ) → plain (wait_line number round) ≡ true
unfolding wait_line
wait_plain number round =
    plain-append (codes "M") (decimal (wait_code number round)) wait_letter_plain (three_plain (wait_code number round) (omega arith))

-- a line on a variable is plain
variable_plain : (path : Path) (round : ℕ) → plain (variable_line path round) ≡ true
unfolding plain variable_line
variable_plain One round =
    elim (nat_eq (round % 2) 1) as (λ b. plain (cond b (codes "#501=#501+1") (codes "#1=#1+1")) ≡ true) [ true ↦ refl | false ↦ refl ]
variable_plain Two round =
    elim (nat_eq (round % 2) 1) as (λ b. plain (cond b (codes "#1=#1+1") (codes "#502=#501")) ≡ true) [ true ↦ refl | false ↦ refl ]

-- the lines of all cuts of a round are plain
cuts_plain : (path : Path) (number round : ℕ) (ks : List ℕ) → list_all plain (map (cut_line path number round) ks) ≡ true
cuts_plain path number round [] = refl
cuts_plain path number round (k ∷ ks) =
    and_from (plain (cut_line path number round k)) (list_all plain (map (cut_line path number round) ks)) (cut_plain path number round k) (cuts_plain path number round ks)

-- two lists of plain lines one after the other are plain lines
all-append : (xs ys : List (List ℕ)) → list_all plain xs ≡ true → list_all plain ys ≡ true → list_all plain (xs ++ ys) ≡ true
all-append xs ys p q = list_all-append plain xs ys ∙ and_from (list_all plain xs) (list_all plain ys) p q

-- the lines of a round are plain
round_plain : (path : Path) (number round : ℕ) → list_all plain (round_lines path number round) ≡ true
unfolding round_lines
round_plain path number round =
    all-append (map (cut_line path number round) cuts) (variable_line path round ∷ wait_line number round ∷ []) (cuts_plain path number round cuts)
    (and_from (plain (variable_line path round)) (plain (wait_line number round) && true) (variable_plain path round)
    (and_from (plain (wait_line number round)) true (wait_plain number round) refl))

-- the lines of all rounds are plain
rounds_plain : (path : Path) (number : ℕ) (ks : List ℕ) → list_all plain (flat_map (round_lines path number) ks) ≡ true
rounds_plain path number [] = refl
rounds_plain path number (k ∷ ks) =
    all-append (round_lines path number k) (flat_map (round_lines path number) ks) (round_plain path number k) (rounds_plain path number ks)

-- the lines of the head are plain
head_plain : list_all plain head_lines ≡ true
unfolding plain head_lines
head_plain = refl

-- the lines of the end are plain
end_plain : list_all plain end_lines ≡ true
unfolding plain end_lines
end_plain = refl

-- the lines of a made tape are plain
made_plain : (path : Path) (number : ℕ) → list_all plain (made_lines path number) ≡ true
unfolding made_lines
made_plain path number =
    let middle = flat_map (round_lines path number) rounds in
    all-append (head_lines ++ middle) end_lines (all-append head_lines middle head_plain (rounds_plain path number rounds)) end_plain

-- the text of a made tape reads as its lines
pub read_made : (path : Path) (number : ℕ) → lines (made_tape path number) ≡ made_lines path number
unfolding made_tape
read_made path number = read_lines (made_lines path number) (made_plain path number)
