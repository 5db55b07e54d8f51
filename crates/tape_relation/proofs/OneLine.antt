-- What changes in the answer of a tape's text if one of its lines is replaced or taken out. For the
-- laws of edits (src/edits.rt): for `lines_that_say_the_same_read_the_same` itself, for others by
-- way of Removed, Returns and Blanked.
use Rattle.std.proofs.Common.{◌≡◌, ℕ, ◌+◌, ◌-◌, ◌≤◌, ◌<◌, Bool, true, false, cond, List, [], ◌∷◌, ◌++◌, length, map, Ok, Err, refl, sym, ap, ◌∙◌, append-nil, length-append, arith}
use Rattle.std.proofs.lemmas.Bool.{lt-ltb, le-ltb}
use Rattle.std.specs.List.{AllZip}
use Rattle.std.proofs.lemmas.List.{map-id}
use Rattle.line_text.specs.declared.body.Word.{Word}
use Rattle.line_text.specs.declared.body.Body.{Body}
use Rattle.line_text.specs.declared.body.Body.TheVariants.{Words, Statement}
use Rattle.nc_text.specs.declared.tape.Block.{Block}
use Rattle.nc_text.specs.declared.tape.Program.{Program}
use Rattle.nc_text.specs.Lines.{IsOneLine, Line, lines_of}
use Rattle.tape_relation.specs.Changed.{changed_answer, changed_body, changed_block, changed_program, lower, lowered_answer}
use Rattle.tape_relation.specs.Alike.{IsAlike, Fits}
use Rattle.tape_relation.specs.Edited.{are_whole}
use Rattle.nc_text.specs.Tape.{Answer, in_leader, nothing_read, tape_of}
use Rattle.tape_relation.proofs.LineByLine.{Row, Both, Alone, firsts, seconds, size_all, Rows, SayAlike, SaysNothing, changed_says, same_answer}
use Rattle.tape_relation.proofs.WholeLines.{size_of_lines, lines_split, lines_around, lines_before_last}

-- a line number, unchanged
abbrev same_line : ℕ → ℕ
same_line line = line

-- a word, unchanged
abbrev same_word : Word → Word
same_word word = word

-- The next three: a body, blocks and programs of which nothing is changed.
body_unchanged : (body : Body) → changed_body same_word body ≡ body
body_unchanged (Words words) = ap Words (map-id words)
body_unchanged (Statement text) = refl

blocks_unchanged : (blocks : List Block) → map (changed_block same_line same_word) blocks ≡ blocks
blocks_unchanged [] = refl
blocks_unchanged (block ∷ blocks) = λ i. record block { body = body_unchanged block.body i } ∷ blocks_unchanged blocks i

programs_unchanged : (programs : List Program) → map (changed_program same_line same_word) programs ≡ programs
programs_unchanged [] = refl
programs_unchanged (program ∷ programs) = λ i. record program { blocks = blocks_unchanged program.blocks i } ∷ programs_unchanged programs i

-- the answer with these programs
abbrev taped : List Program → Answer
taped programs = Ok programs

-- an answer of which nothing is changed is itself
unchanged : (answer : Answer) → changed_answer same_line same_word answer ≡ answer
unchanged (Ok programs) = ap taped (programs_unchanged programs)
unchanged (Err fault) = refl

-- lines of two texts, one by one, as rows
abbrev zip_rows : List Line → List Line → List Row
zip_rows [] ys = []
zip_rows (x ∷ xs) [] = []
zip_rows (x ∷ xs) (y ∷ ys) = Both x y ∷ zip_rows xs ys

-- two lists of lines that say the same one by one, as rows
record AreZipped (skips : ℕ) (xs ys : List Line) : Type 0 where
  -- the first lines of the rows are the first list
  firsts_are : firsts (zip_rows xs ys) ≡ xs
  -- the second lines of the rows are the second list
  seconds_are : seconds (zip_rows xs ys) ≡ ys
  -- the rows say the same, however many lines stand before both
  rows : (m : ℕ) → Rows skips same_line same_line same_word m m (zip_rows xs ys)

-- The next two: lines that are alike say the same, and so do all rows of them.
say_alike : (skips : ℕ) (x y : Line) → IsAlike skips x y → SayAlike skips same_word x y
say_alike skips x y alike = record { says = λ other. ap (changed_says same_word) (alike.says other); percent = alike.percent; long = alike.long }

zipped : (skips : ℕ) (xs ys : List Line) → AllZip (IsAlike skips) xs ys → AreZipped skips xs ys
zipped skips [] [] alike = record { firsts_are = refl; seconds_are = refl; rows = λ m. refl }
zipped skips [] (y ∷ ys) alike = absurd alike
zipped skips (x ∷ xs) [] alike = absurd alike
zipped skips (x ∷ xs) (y ∷ ys) alike =
    let later = zipped skips xs ys alike.1 in
    record {
      firsts_are = ap (λ (ls : List Line). x ∷ ls) later.firsts_are;
      seconds_are = ap (λ (ls : List Line). y ∷ ls) later.seconds_are;
      rows = λ m. (refl, say_alike skips x y alike.0, later.rows (m + 1));
    }

-- two texts whose rows say the same have the same answer, as far as it is looked at
texts_alike : (skips : ℕ) (f g : ℕ → ℕ) (w : Word → Word) (a b : List ℕ) (rows : List Row) → firsts rows ≡ lines_of a → seconds rows ≡ lines_of b → f 0 ≡ g 0 → f 1 ≡ g 1 → Rows skips f g w 0 0 rows → Fits a → Fits b
    → changed_answer f w (tape_of skips a) ≡ changed_answer g w (tape_of skips b)
unfolding tape_of
texts_alike skips f g w a b rows first second zero_same top alike fits_a fits_b =
    let size_a : size_all (firsts rows) ≡ length a = ap size_all first ∙ size_of_lines a in
    let size_b : size_all (seconds rows) ≡ length b = ap size_all second ∙ size_of_lines b in
    ap (λ (ls : List Line). changed_answer f w (in_leader skips ls nothing_read)) (sym first) ∙ same_answer skips f g w rows zero_same top alike (omega arith) (omega arith)
    ∙ ap (λ (ls : List Line). changed_answer g w (in_leader skips ls nothing_read)) second

-- texts whose lines are alike have the same answer
pub lines_alike : (skips : ℕ) (a b : List ℕ) → Fits a → Fits b → AllZip (IsAlike skips) (lines_of a) (lines_of b) → tape_of skips a ≡ tape_of skips b
lines_alike skips a b fits_a fits_b alike =
    let z = zipped skips (lines_of a) (lines_of b) alike in
    sym (unchanged (tape_of skips a)) ∙ texts_alike skips same_line same_line same_word a b (zip_rows (lines_of a) (lines_of b)) z.firsts_are z.seconds_are refl refl (z.rows 0) fits_a fits_b ∙ unchanged (tape_of skips b)

-- rows with the same lines of both texts in front
abbrev same_front : List Line → List Row → List Row
same_front [] rows = rows
same_front (line ∷ lines) rows = Both line line ∷ same_front lines rows

-- The next three: the lines of rows with the same lines in front, and that such rows say the same.
firsts_front : (lines : List Line) (rows : List Row) → firsts (same_front lines rows) ≡ lines ++ firsts rows
firsts_front [] rows = refl
firsts_front (line ∷ lines) rows = ap (λ (ls : List Line). line ∷ ls) (firsts_front lines rows)

seconds_front : (lines : List Line) (rows : List Row) → seconds (same_front lines rows) ≡ lines ++ seconds rows
seconds_front [] rows = refl
seconds_front (line ∷ lines) rows = ap (λ (ls : List Line). line ∷ ls) (seconds_front lines rows)

rows_front : (skips : ℕ) (f g : ℕ → ℕ) (w : Word → Word) (lines : List Line) (m n : ℕ) (rows : List Row) → ((i j k : ℕ) → k < length lines → i ≡ m + k + 1 → j ≡ n + k + 1 → f i ≡ g j)
    → ((i j : ℕ) → i ≡ m + length lines → j ≡ n + length lines → Rows skips f g w i j rows) → Rows skips f g w m n (same_front lines rows)
rows_front skips f g w [] m n rows numbers behind = behind m n (omega arith) (omega arith)
rows_front skips f g w (line ∷ lines) m n rows numbers behind = (
  numbers (m + 1) (n + 1) 0 (omega arith) (omega arith) (omega arith),
  record { says = λ other. refl; percent = refl; long = refl },
  rows_front skips f g w lines (m + 1) (n + 1) rows (λ i j k small p q. numbers i j (k + 1) (omega arith) (omega arith) (omega arith)) (λ i j p q. behind i j (omega arith) (omega arith)),
)

-- a line with its line feed
abbrev ended : List ℕ → Line
ended line = record { bytes = line; ended = true }

-- a line without a line feed
abbrev last : List ℕ → Line
last line = record { bytes = line; ended = false }

-- the lines of a text around one line
around_is : (front line back : List ℕ) → are_whole front ≡ true → IsOneLine line → lines_of front ++ (ended line ∷ (lines_of back ++ [])) ≡ lines_of (front ++ (line ++ 10 ∷ back))
around_is front line back whole one = ap (λ (ls : List Line). lines_of front ++ (ended line ∷ ls)) (append-nil (lines_of back)) ∙ sym (lines_around front line back whole one)

-- The next three: numbers of lines after one is taken out, and that a text with a byte has a line.
lower_same : (before line : ℕ) → line ≤ before → line ≡ lower before line
lower_same before line h = ap (λ (t : Bool). cond t (line - 1) line) (sym (le-ltb before line h))

lower_more : (before line later : ℕ) → before ≤ line → later ≡ line + 1 → line ≡ lower before later
lower_more before line later h e =
    let one : line ≡ later - 1 = omega arith in
    let above : before < later = omega arith in
    one ∙ ap (λ (t : Bool). cond t (later - 1) later) (sym (lt-ltb before later above))

some_lines : (text : List ℕ) → 0 < length text → 0 < length (lines_of text)
some_lines text some = go (lines_of text) (size_of_lines text)
  where
    go : (lines : List Line) → size_all lines ≡ length text → 0 < length lines
    go [] e = absurd (omega arith)
    go (line ∷ lines) e = omega arith

-- if a line is replaced by one that says the same but for its words, the answer is the same but for
-- them
pub line_in_place : (skips : ℕ) (w : Word → Word) (front x y back : List ℕ) → are_whole front ≡ true → IsOneLine x → IsOneLine y → SayAlike skips w (record { bytes = x; ended = true }) (record { bytes = y; ended = true })
    → Fits (front ++ (x ++ 10 ∷ back)) → Fits (front ++ (y ++ 10 ∷ back)) → changed_answer same_line w (tape_of skips (front ++ (x ++ 10 ∷ back))) ≡ changed_answer same_line w (tape_of skips (front ++ (y ++ 10 ∷ back)))
line_in_place skips w front x y back whole one_x one_y alike fits_x fits_y =
    let behind = same_front (lines_of back) [] in
    let rows = same_front (lines_of front) (Both (ended x) (ended y) ∷ behind) in
    texts_alike skips same_line same_line w (front ++ (x ++ 10 ∷ back)) (front ++ (y ++ 10 ∷ back)) rows
    (firsts_front (lines_of front) (Both (ended x) (ended y) ∷ behind) ∙ ap (λ (ls : List Line). lines_of front ++ (ended x ∷ ls)) (firsts_front (lines_of back) []) ∙ around_is front x back whole one_x)
    (seconds_front (lines_of front) (Both (ended x) (ended y) ∷ behind) ∙ ap (λ (ls : List Line). lines_of front ++ (ended y ∷ ls)) (seconds_front (lines_of back) []) ∙ around_is front y back whole one_y)
    refl refl
    (rows_front skips same_line same_line w (lines_of front) 0 0 _ (λ i j k small p q. p ∙ sym q)
    (λ i j p q. (ap (λ (n : ℕ). n + 1) (p ∙ sym q), alike, rows_front skips same_line same_line w (lines_of back) (i + 1) (j + 1) [] (λ m n k small s t. omega arith) (λ m n s t. omega arith))))
    fits_x fits_y

-- if a line is replaced by one that is alike, the answer is the same
pub alike_in_place : (skips : ℕ) (front x y back : List ℕ) → are_whole front ≡ true → IsOneLine x → IsOneLine y → IsAlike skips (record { bytes = x; ended = true }) (record { bytes = y; ended = true })
    → Fits (front ++ (x ++ 10 ∷ back)) → Fits (front ++ (y ++ 10 ∷ back)) → tape_of skips (front ++ (x ++ 10 ∷ back)) ≡ tape_of skips (front ++ (y ++ 10 ∷ back))
alike_in_place skips front x y back whole one_x one_y alike fits_x fits_y =
    sym (unchanged (tape_of skips (front ++ (x ++ 10 ∷ back)))) ∙ line_in_place skips same_word front x y back whole one_x one_y (say_alike skips (ended x) (ended y) alike) fits_x fits_y
    ∙ unchanged (tape_of skips (front ++ (y ++ 10 ∷ back)))

-- if the last line, without a line feed, is replaced by one that says the same but for its words,
-- the answer is the same but for them
pub last_in_place : (skips : ℕ) (w : Word → Word) (front x y : List ℕ) → are_whole front ≡ true → IsOneLine x → IsOneLine y → 0 < length x → 0 < length y → SayAlike skips w (record { bytes = x; ended = false }) (record { bytes = y; ended = false })
    → Fits (front ++ x) → Fits (front ++ y) → changed_answer same_line w (tape_of skips (front ++ x)) ≡ changed_answer same_line w (tape_of skips (front ++ y))
last_in_place skips w front x y whole one_x one_y some_x some_y alike fits_x fits_y =
    let rows = Both (last x) (last y) ∷ [] in
    texts_alike skips same_line same_line w (front ++ x) (front ++ y) (same_front (lines_of front) rows)
    (firsts_front (lines_of front) rows ∙ sym (lines_before_last front x whole one_x some_x)) (seconds_front (lines_of front) rows ∙ sym (lines_before_last front y whole one_y some_y))
    refl refl
    (rows_front skips same_line same_line w (lines_of front) 0 0 rows (λ i j k small p q. p ∙ sym q) (λ i j p q. let e : i + 1 ≡ j + 1 = omega arith in (e, alike, e)))
    fits_x fits_y

-- a line that says nothing may be taken out, if lines stand before it: the later ones are numbered
-- one less
pub line_taken_out : (skips : ℕ) (front line back : List ℕ) → are_whole front ≡ true → 0 < length front → IsOneLine line → SaysNothing skips (record { bytes = line; ended = true })
    → Fits (front ++ (line ++ 10 ∷ back)) → tape_of skips (front ++ back) ≡ lowered_answer (length (lines_of front)) (tape_of skips (front ++ (line ++ 10 ∷ back)))
line_taken_out skips front line back whole some one nothing fits =
    let before = length (lines_of front) in
    let behind = same_front (lines_of back) [] in
    let rows = same_front (lines_of front) (Alone (ended line) ∷ behind) in
    let one_before : 0 < before = some_lines front some in
    let shorter : Fits (front ++ back) = omega (arith, length-append front back, length-append front (line ++ 10 ∷ back), length-append line (10 ∷ back)) in
    sym (unchanged (tape_of skips (front ++ back)))
    ∙ texts_alike skips same_line (lower before) same_word (front ++ back) (front ++ (line ++ 10 ∷ back)) rows
    (firsts_front (lines_of front) (Alone (ended line) ∷ behind) ∙ ap (λ (ls : List Line). lines_of front ++ ls) (firsts_front (lines_of back) [] ∙ append-nil (lines_of back)) ∙ sym (lines_split front back whole))
    (seconds_front (lines_of front) (Alone (ended line) ∷ behind) ∙ ap (λ (ls : List Line). lines_of front ++ (ended line ∷ ls)) (seconds_front (lines_of back) []) ∙ around_is front line back whole one)
    (lower_same before 0 (omega arith)) (lower_same before 1 (omega arith))
    (rows_front skips same_line (lower before) same_word (lines_of front) 0 0 _ (λ i j k small p q. p ∙ sym q ∙ lower_same before j (omega arith))
    (λ i j p q. (nothing, rows_front skips same_line (lower before) same_word (lines_of back) i (j + 1) [] (λ m n k small s t. lower_more before m n (omega arith) (omega arith)) (λ m n s t. lower_more before m n (omega arith) (omega arith)))))
    shorter fits

-- a last line that says nothing may be taken out, if lines stand before it
pub last_taken_out : (skips : ℕ) (front line : List ℕ) → are_whole front ≡ true → 0 < length front → IsOneLine line → 0 < length line → SaysNothing skips (record { bytes = line; ended = false })
    → Fits (front ++ line) → tape_of skips front ≡ lowered_answer (length (lines_of front)) (tape_of skips (front ++ line))
last_taken_out skips front line whole some one some_line nothing fits =
    let before = length (lines_of front) in
    let rows = Alone (last line) ∷ [] in
    let one_before : 0 < before = some_lines front some in
    let shorter : Fits front = omega (arith, length-append front line) in
    sym (unchanged (tape_of skips front))
    ∙ texts_alike skips same_line (lower before) same_word front (front ++ line) (same_front (lines_of front) rows)
    (firsts_front (lines_of front) rows ∙ append-nil (lines_of front)) (seconds_front (lines_of front) rows ∙ sym (lines_before_last front line whole one some_line))
    (lower_same before 0 (omega arith)) (lower_same before 1 (omega arith))
    (rows_front skips same_line (lower before) same_word (lines_of front) 0 0 rows (λ i j k small p q. p ∙ sym q ∙ lower_same before j (omega arith))
    (λ i j p q. (nothing, lower_more before i (j + 1) (omega arith) (omega arith))))
    shorter fits
