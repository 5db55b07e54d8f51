-- How many bytes a made tape has at most: for `law_of_sizes` (src/laws.rt) and `make_tapes`
-- (src/tape.rt).
use Rattle.std.proofs.Common.{◌≡◌, ℕ, ◌+◌, ◌*◌, ◌%◌, ◌<◌, ◌≤◌, cond, true, false, List, [], ◌∷◌, ◌++◌, map, length, refl, ap, ◌∙◌, arith, length-append, codes}
use Rattle.std.specs.Prelude.{nat_eq}
use Rattle.std.specs.List.{flat_map, range_with_len}
use Rattle.std.specs.Fmt.{decimal}
use Rattle.std.proofs.lemmas.Fmt.{length-decimal-le}
use Rattle.std.proofs.lemmas.List.FromFn.{length-range_with_len}
use Rattle.nc_number.specs.declared.path.Path.{Path}
use Rattle.nc_number.specs.declared.path.Path.TheVariants.{One, Two}
use Rattle.tape_maker.specs.MadeTape.{cut_depth, cut_diameter, cut_line, cuts, end_lines, line_with_end, head_lines, made_tape, round_lines, rounds, text_of, variable_line, wait_code, wait_line}
use Rattle.tape_maker.proofs.Lines.{made_tape_is, text_of-append, text_of-two}

-- the length of five parts in a row is the sum of their lengths
joined : (a b c d e : List ℕ) → length (a ++ b ++ c ++ d ++ e) ≡ length a + (length b + (length c + (length d + length e)))
joined a b c d e = omega (arith, length-append (a ++ b ++ c ++ d) e, length-append (a ++ b ++ c) d, length-append (a ++ b) c, length-append a b)

-- the line of a cut has 14 bytes at most
cut_length : (path : Path) (number round cut : ℕ) → length (cut_line path number round cut) ≤ 14
unfolding cut_line
cut_length path number round cut =
    let x = cut_diameter path number round cut in
    let z = cut_depth number round cut in
    let small_x : x < 100 = omega arith in
    let small_z : z < 100 = omega arith in
    let few_x : length (decimal x) ≤ 2 = length-decimal-le 2 x (omega arith) small_x (omega (arith, small_x)) in
    let few_z : length (decimal z) ≤ 2 = length-decimal-le 2 z (omega arith) small_z (omega (arith, small_z)) in
    omega (arith, joined (codes "G01 X") (decimal x) (codes ". Z-") (decimal z) (codes "."), few_x, few_z)

-- a line on a variable has 11 bytes at most
variable_length : (path : Path) (round : ℕ) → length (variable_line path round) ≤ 11
unfolding variable_line
variable_length One round =
    elim (nat_eq (round % 2) 1) as (λ b. length (cond b (codes "#501=#501+1") (codes "#1=#1+1")) ≤ 11) [ true ↦ omega arith | false ↦ omega arith ]
variable_length Two round =
    elim (nat_eq (round % 2) 1) as (λ b. length (cond b (codes "#1=#1+1") (codes "#502=#501")) ≤ 11) [ true ↦ omega arith | false ↦ omega arith ]

-- the line of a wait has 4 bytes at most
wait_length : (number round : ℕ) → length (wait_line number round) ≤ 4
unfolding wait_line
wait_length number round =
    let code = wait_code number round in
    let small : code < 1000 = omega arith in
    let few : length (decimal code) ≤ 3 = length-decimal-le 3 code (omega arith) small (omega (arith, small)) in
    omega (arith, length-append (codes "M") (decimal code), few)

-- a line feed makes a line one byte longer
one_longer : (line : List ℕ) → length (line_with_end line) ≡ length line + 1
one_longer line = length-append line (10 ∷ [])

-- the cuts of a round have 15 bytes each at most, with their line feeds
cuts_length : (path : Path) (number round : ℕ) (ks : List ℕ) → length (text_of (map (cut_line path number round) ks)) ≤ 15 * length ks
unfolding text_of
cuts_length path number round [] = omega arith
cuts_length path number round (k ∷ ks) =
    let line = cut_line path number round k in
    let rest = flat_map line_with_end (map (cut_line path number round) ks) in
    omega (arith, length-append (line_with_end line) rest, one_longer line, cut_length path number round k, cuts_length path number round ks)

-- a round has 1,487 bytes at most: 98 cuts of 15, 12 of the variable and 5 of the wait
round_length : (path : Path) (number round : ℕ) → length (text_of (round_lines path number round)) ≤ 1487
unfolding round_lines cuts
round_length path number round =
    let front = map (cut_line path number round) (range_with_len 0 98) in
    let statement = variable_line path round in
    let wait = wait_line number round in
    let whole : length (text_of (front ++ statement ∷ wait ∷ [])) ≡ length (text_of front) + (length (line_with_end statement) + length (line_with_end wait))
    = ap length (text_of-append front (statement ∷ wait ∷ [])) ∙ length-append (text_of front) (text_of (statement ∷ wait ∷ []))
    ∙ ap (λ t. length (text_of front) + length t) (text_of-two statement wait) ∙ ap (λ n. length (text_of front) + n) (length-append (line_with_end statement) (line_with_end wait)) in
    omega (
      arith,
      whole,
      one_longer statement,
      one_longer wait,
      cuts_length path number round (range_with_len 0 98),
      length-range_with_len 0 98,
      variable_length path round,
      wait_length number round,
    )

-- the text of no lines has no bytes
nothing : length (text_of []) ≡ 0
unfolding text_of
nothing = refl

-- rounds have 1,487 bytes each at most
rounds_length : (path : Path) (number : ℕ) (ks : List ℕ) → length (text_of (flat_map (round_lines path number) ks)) ≤ 1487 * length ks
rounds_length path number [] = omega (arith, nothing)
rounds_length path number (k ∷ ks) =
    let lines = round_lines path number k in
    let rest = flat_map (round_lines path number) ks in
    let whole : length (text_of (lines ++ rest)) ≡ length (text_of lines) + length (text_of rest)
    = ap length (text_of-append lines rest) ∙ length-append (text_of lines) (text_of rest) in
    omega (arith, whole, round_length path number k, rounds_length path number ks)

-- the head of a made tape has 33 bytes
head_length : length (text_of head_lines) ≡ 33
unfolding head_lines text_of
head_length = refl

-- the end of a made tape has 6 bytes
end_length : length (text_of end_lines) ≡ 6
unfolding end_lines text_of
end_length = refl

-- a made tape has 50 rounds
rounds_are : length rounds ≡ 50
unfolding rounds
rounds_are = refl

-- a made tape has 74,389 bytes at most: 33, 50 times 1,487, and 6
pub made_length : (path : Path) (number : ℕ) → length (made_tape path number) ≤ 74389
made_length path number =
    let middle = flat_map (round_lines path number) rounds in
    let is : length (made_tape path number) ≡ length (text_of (head_lines ++ middle ++ end_lines)) = ap length (made_tape_is path number) in
    let last : length (text_of (head_lines ++ middle ++ end_lines)) ≡ length (text_of (head_lines ++ middle)) + length (text_of end_lines)
    = ap length (text_of-append (head_lines ++ middle) end_lines) ∙ length-append (text_of (head_lines ++ middle)) (text_of end_lines) in
    let first : length (text_of (head_lines ++ middle)) ≡ length (text_of head_lines) + length (text_of middle)
    = ap length (text_of-append head_lines middle) ∙ length-append (text_of head_lines) (text_of middle) in
    omega (arith, is, last, first, head_length, end_length, rounds_length path number rounds, rounds_are)
