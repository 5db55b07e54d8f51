-- A tape that is read as what became of another says it, block by block. For
-- `what_is_read_was_written` (src/law.rt).
use Rattle.std.proofs.Common.{◌≡◌, ℕ, suc, ◌+◌, ◌==◌, Bool, true, false, cond, List, [], ◌∷◌, ◌++◌, length, map, drop, Option, None, Some, refl, ap, sym, subst, ◌∙◌, arith, append_assoc}
use Rattle.std.specs.Prelude.{zero, slice_get}
use Rattle.std.proofs.lemmas.Bool.{eqb-true}
use Rattle.std.proofs.lemmas.List.{append-nil}
use Rattle.std.proofs.lemmas.Slice.Eq.{bytes_eq-Decides}
use Rattle.nc_number.proofs.Bools.{both}
use Rattle.line_text.specs.declared.body.Word.{Word}
use Rattle.line_text.specs.declared.body.Body.{Body}
use Rattle.line_text.specs.declared.body.Body.TheVariants.{Words, Statement}
use Rattle.nc_text.specs.declared.tape.Block.{Block}
use Rattle.nc_text.specs.declared.tape.Program.{Program}
use Rattle.plain_blocks.specs.declared.step.Step.{Step}
use Rattle.plain_blocks.specs.declared.step.Step.TheVariants.{Kept, Written}
use Rattle.written_blocks.specs.Told.{Telling, told_word, told_body, told, told_block, told_blocks, numbered, written_block, written_blocks, told_programs, written_programs}
use Rattle.written_blocks.specs.Saying.{is_same_text, is_same_word, is_found_word, are_at, are_same_words, is_same_body, is_same_number, says}
use Rattle.written_blocks.specs.Tapes.{behind_own, behind_block, from_there, behind_blocks, behind_step, behind_one, behind_found, behind_steps, is_end, is_program, is_one, is_found, are_programs, is_read_as}

-- what is found in a place is the first of those from there on
found_first : {A : Type 0} (xs : List A) (i : ℕ) (x : A) → slice_get xs i ≡ Some x → drop i xs ≡ x ∷ drop (suc i) xs
found_first [] i x e = absurd cc
found_first (y ∷ ys) zero x e = let same : y ≡ x = cc in ap (λ z. z ∷ ys) same
found_first (y ∷ ys) (suc i) x e = found_first ys i x e

-- behind all there is nothing
none_behind : {A : Type 0} (xs : List A) (i : ℕ) → length xs ≡ i → drop i xs ≡ []
none_behind [] zero e = refl
none_behind [] (suc i) e = refl
none_behind (y ∷ ys) zero e = absurd (omega (arith, e))
none_behind (y ∷ ys) (suc i) e = none_behind ys i (omega (arith, e))

-- words that say the same are told alike
word_same : (own other : Word) → is_same_word own other ≡ true → told_word own ≡ told_word other
word_same own other e =
    let p = both (own.letter == other.letter) (is_same_text own.text other.text) e in
    let letter : own.letter ≡ other.letter = eqb-true own.letter other.letter p.0 in
    let text : own.text ≡ other.text = (bytes_eq-Decides own.text other.text).0 p.1 in
    λ i. record { letter = letter i; start = 0; end = 0; text = text i }

words_at : (words : List Word) (place : ℕ) (others : List Word) → are_at words place others ≡ true → length words ≡ place + length others
    → map told_word (drop place words) ≡ map told_word others
words_at words place [] e long = ap (map told_word) (none_behind words place (omega (arith, long)))
words_at words place (other ∷ others) e long =
    go (λ rest. words_at words (place + 1) others rest (omega (arith, long))) (slice_get words place) refl e
  where
    by : (are_at words (place + 1) others ≡ true → map told_word (drop (place + 1) words) ≡ map told_word others)
        → (word : Word) → slice_get words place ≡ Some word → (b : Bool) → is_same_word word other ≡ b
        → cond b (are_at words (place + 1) others) false ≡ true → map told_word (drop place words) ≡ map told_word (other ∷ others)
    by more word found true same e =
        let next : suc place ≡ place + 1 = omega arith in
        ap (map told_word) (found_first words place word found)
        ∙ ap (λ n. told_word word ∷ map told_word (drop n words)) next
        ∙ ap (λ rest. told_word word ∷ rest) (more e)
        ∙ ap (λ w. w ∷ map told_word others) (word_same word other same)
    by more word found false same e = absurd cc

    go : (are_at words (place + 1) others ≡ true → map told_word (drop (place + 1) words) ≡ map told_word others)
        → (found : Option Word) → slice_get words place ≡ found
        → cond (is_found_word found other) (are_at words (place + 1) others) false ≡ true
        → map told_word (drop place words) ≡ map told_word (other ∷ others)
    go more None found e = absurd cc
    go more (Some word) found e = by more word found (is_same_word word other) refl e

words_same : (own others : List Word) → are_same_words own others ≡ true → map told_word own ≡ map told_word others
words_same own others e = go (length own == length others) refl e
  where
    go : (b : Bool) → (length own == length others) ≡ b → cond b (are_at own 0 others) false ≡ true → map told_word own ≡ map told_word others
    go true long e =
        let same : length own ≡ length others = eqb-true (length own) (length others) long in words_at own 0 others e (omega (arith, same))
    go false long e = absurd cc

-- bodies that say the same are told alike
body_same : (own other : Body) → is_same_body own other ≡ true → told_body own ≡ told_body other
body_same (Words words) (Words others) e = ap Words (words_same words others e)
body_same (Words words) (Statement others) e = absurd cc
body_same (Statement text) (Words others) e = absurd cc
body_same (Statement text) (Statement others) e = ap Statement ((bytes_eq-Decides text others).0 e)

number_same : (own other : Option ℕ) → is_same_number own other ≡ true → own ≡ other
number_same (Some number) (Some other) e = ap Some (eqb-true number other e)
number_same (Some number) None e = absurd cc
number_same None (Some other) e = absurd cc
number_same None None e = refl

-- a block that says what is due is told so
block_same : (block : Block) (sequence : Option ℕ) (body : Body) → says block sequence body ≡ true → told_block block ≡ told sequence body
block_same block sequence body e =
    let p = both (is_same_number block.sequence sequence) (is_same_body block.body body) e in
    let number = number_same block.sequence sequence p.0 in
    let same = body_same block.body body p.1 in
    λ i. record { line = 0; sequence = number i; body = same i }

-- the blocks from a place on are this one and those from the place behind it
block_told : (again : List Block) (at : ℕ) (sequence : Option ℕ) (body : Body) (end : ℕ) → behind_block again at sequence body ≡ Some end
    → told_blocks (drop at again) ≡ told sequence body ∷ told_blocks (drop end again)
block_told again at sequence body end e = go (slice_get again at) refl e
  where
    by : (block : Block) → slice_get again at ≡ Some block → (b : Bool) → says block sequence body ≡ b → cond b (Some (at + 1)) None ≡ Some end
        → told_blocks (drop at again) ≡ told sequence body ∷ told_blocks (drop end again)
    by block found true same e =
        let next : suc at ≡ at + 1 = omega arith in
        let there : at + 1 ≡ end = cc in
        ap told_blocks (found_first again at block found)
        ∙ ap (λ n. told_block block ∷ told_blocks (drop n again)) (next ∙ there)
        ∙ ap (λ b. b ∷ told_blocks (drop end again)) (block_same block sequence body same)
    by block found false same e = absurd cc

    go : (found : Option Block) → slice_get again at ≡ found → behind_own found at sequence body ≡ Some end
        → told_blocks (drop at again) ≡ told sequence body ∷ told_blocks (drop end again)
    go None found e = absurd cc
    go (Some block) found e = by block found (says block sequence body) refl e

-- the same of blocks that stand in place of a line
blocks_told : (again : List Block) (at : ℕ) (sequence : Option ℕ) (blocks : List Block) (end : ℕ) → behind_blocks again at sequence blocks ≡ Some end
    → told_blocks (drop at again) ≡ numbered sequence blocks ++ told_blocks (drop end again)
blocks_told again at sequence [] end e = let there : at ≡ end = cc in ap (λ n. told_blocks (drop n again)) there
blocks_told again at sequence (block ∷ blocks) end e =
    go (λ middle rest. blocks_told again middle None blocks end rest) (behind_block again at sequence block.body) refl e
  where
    go : ((middle : ℕ) → behind_blocks again middle None blocks ≡ Some end → told_blocks (drop middle again) ≡ numbered None blocks ++ told_blocks (drop end again))
        → (r : Option ℕ) → behind_block again at sequence block.body ≡ r → from_there r (λ behind. behind_blocks again behind None blocks) ≡ Some end
        → told_blocks (drop at again) ≡ told sequence block.body ∷ (numbered None blocks ++ told_blocks (drop end again))
    go more None first e = absurd cc
    go more (Some middle) first e =
        block_told again at sequence block.body middle first ∙ ap (λ rest. told sequence block.body ∷ rest) (more middle e)

-- the same of what became of a block
step_told : (again : List Block) (at : ℕ) (block : Block) (step : Step) (end : ℕ) → behind_step again at block step ≡ Some end
    → told_blocks (drop at again) ≡ written_block block step ++ told_blocks (drop end again)
step_told again at block Kept end e = block_told again at block.sequence block.body end e
step_told again at block (Written line) end e = blocks_told again at line.sequence line.blocks end e

-- no steps write nothing
none_written : (blocks : List Block) → written_blocks blocks [] ≡ []
none_written [] = refl
none_written (block ∷ blocks) = refl

-- the same of what became of all blocks of a program from a place on
steps_told : (again : List Block) (at : ℕ) (blocks : List Block) (place : ℕ) (steps : List Step) (end : ℕ) → behind_steps again at blocks place steps ≡ Some end
    → told_blocks (drop at again) ≡ written_blocks (drop place blocks) steps ++ told_blocks (drop end again)
steps_told again at blocks place [] end e =
    let there : at ≡ end = cc in
    ap (λ n. told_blocks (drop n again)) there ∙ ap (λ own. own ++ told_blocks (drop end again)) (sym (none_written (drop place blocks)))
steps_told again at blocks place (step ∷ steps) end e =
    go (λ middle rest. steps_told again middle blocks (place + 1) steps end rest) (slice_get blocks place) refl e
  where
    by : ((middle : ℕ) → behind_steps again middle blocks (place + 1) steps ≡ Some end
        → told_blocks (drop middle again) ≡ written_blocks (drop (place + 1) blocks) steps ++ told_blocks (drop end again))
        → (block : Block) → slice_get blocks place ≡ Some block → (r : Option ℕ) → behind_step again at block step ≡ r
        → from_there r (λ behind. behind_steps again behind blocks (place + 1) steps) ≡ Some end
        → told_blocks (drop at again) ≡ written_blocks (drop place blocks) (step ∷ steps) ++ told_blocks (drop end again)
    by more block found None first e = absurd cc
    by more block found (Some middle) first e =
        let next : place + 1 ≡ suc place = omega arith in
        let all : written_blocks (block ∷ drop (place + 1) blocks) (step ∷ steps) ≡ written_blocks (drop place blocks) (step ∷ steps)
        = ap (λ n. written_blocks (block ∷ drop n blocks) (step ∷ steps)) next ∙ ap (λ own. written_blocks own (step ∷ steps)) (sym (found_first blocks place block found)) in
        step_told again at block step middle first
        ∙ ap (λ rest. written_block block step ++ rest) (more middle e)
        ∙ sym (append_assoc (written_block block step) (written_blocks (drop (place + 1) blocks) steps) (told_blocks (drop end again)))
        ∙ ap (λ own. own ++ told_blocks (drop end again)) all

    go : ((middle : ℕ) → behind_steps again middle blocks (place + 1) steps ≡ Some end
        → told_blocks (drop middle again) ≡ written_blocks (drop (place + 1) blocks) steps ++ told_blocks (drop end again))
        → (found : Option Block) → slice_get blocks place ≡ found
        → from_there (behind_one again at found step) (λ behind. behind_steps again behind blocks (place + 1) steps) ≡ Some end
        → told_blocks (drop at again) ≡ written_blocks (drop place blocks) (step ∷ steps) ++ told_blocks (drop end again)
    go more None found e = absurd cc
    go more (Some block) found e = by more block found (behind_step again at block step) refl e

-- a program that says what became of another is told so
abbrev tell : Program → Telling
tell program = record { number = program.number; blocks = told_blocks program.blocks }

abbrev tell_written : Program → List Step → Telling
tell_written program steps = record { number = program.number; blocks = written_blocks program.blocks steps }

program_told : (again own : Program) (steps : List Step) → is_program again own steps ≡ true → tell again ≡ tell_written own steps
program_told again own steps e = numbers (again.number == own.number) refl e
  where
    ends : again.number ≡ own.number → (r : Option ℕ) → behind_steps again.blocks 0 own.blocks 0 steps ≡ r → is_end (length again.blocks) r ≡ true
        → tell again ≡ tell_written own steps
    ends number None found e = absurd cc
    ends number (Some end) found e =
        let there : end ≡ length again.blocks = eqb-true end (length again.blocks) e in
        let blocks : told_blocks again.blocks ≡ written_blocks own.blocks steps
        = steps_told again.blocks 0 own.blocks 0 steps end found
        ∙ ap (λ rest. written_blocks own.blocks steps ++ told_blocks rest) (none_behind again.blocks end (sym there))
        ∙ append-nil (written_blocks own.blocks steps) in
        λ i. record { number = number i; blocks = blocks i }

    lengths : again.number ≡ own.number → (b : Bool)
        → cond b (is_end (length again.blocks) (behind_steps again.blocks 0 own.blocks 0 steps)) false ≡ true
        → tell again ≡ tell_written own steps
    lengths number true e = ends number (behind_steps again.blocks 0 own.blocks 0 steps) refl e
    lengths number false e = absurd cc

    numbers : (b : Bool) → (again.number == own.number) ≡ b
        → cond b (cond (length own.blocks == length steps) (is_end (length again.blocks) (behind_steps again.blocks 0 own.blocks 0 steps)) false) false ≡ true
        → tell again ≡ tell_written own steps
    numbers true number e = lengths (eqb-true again.number own.number number) (length own.blocks == length steps) e
    numbers false number e = absurd cc

-- no steps, no programs
none_of : (tape : List Program) → written_programs tape [] ≡ []
none_of [] = refl
none_of (program ∷ tape) = refl

-- the programs from a place on are told so
programs_told : (again tape : List Program) (place : ℕ) (all : List (List Step)) → are_programs again tape place all ≡ true → length again ≡ place + length all
    → told_programs (drop place again) ≡ written_programs (drop place tape) all
programs_told again tape place [] e long =
    ap told_programs (none_behind again place (omega (arith, long))) ∙ sym (none_of (drop place tape))
programs_told again tape place (steps ∷ all) e long =
    go (λ rest. programs_told again tape (place + 1) all rest (omega (arith, long))) (slice_get again place) (slice_get tape place) refl refl e
  where
    by : (are_programs again tape (place + 1) all ≡ true → told_programs (drop (place + 1) again) ≡ written_programs (drop (place + 1) tape) all)
        → (program own : Program) → slice_get again place ≡ Some program → slice_get tape place ≡ Some own
        → (b : Bool) → is_program program own steps ≡ b → cond b (are_programs again tape (place + 1) all) false ≡ true
        → told_programs (drop place again) ≡ written_programs (drop place tape) (steps ∷ all)
    by more program own found there true same e =
        let next : suc place ≡ place + 1 = omega arith in
        ap told_programs (found_first again place program found)
        ∙ ap (λ n. tell program ∷ told_programs (drop n again)) next
        ∙ ap (λ rest. tell program ∷ rest) (more e)
        ∙ ap (λ one. one ∷ written_programs (drop (place + 1) tape) all) (program_told program own steps same)
        ∙ ap (λ n. written_programs (own ∷ drop n tape) (steps ∷ all)) (sym next)
        ∙ ap (λ rest. written_programs rest (steps ∷ all)) (sym (found_first tape place own there))
    by more program own found there false same e = absurd cc

    go : (are_programs again tape (place + 1) all ≡ true → told_programs (drop (place + 1) again) ≡ written_programs (drop (place + 1) tape) all)
        → (found other : Option Program) → slice_get again place ≡ found → slice_get tape place ≡ other
        → cond (is_one found other steps) (are_programs again tape (place + 1) all) false ≡ true
        → told_programs (drop place again) ≡ written_programs (drop place tape) (steps ∷ all)
    go more (Some program) (Some own) found there e = by more program own found there (is_program program own steps) refl e
    go more (Some program) None found there e = absurd cc
    go more None other found there e = absurd cc

-- the tape says what became of the other
pub said : (again tape : List Program) (all : List (List Step)) → is_read_as again tape all ≡ true → told_programs again ≡ written_programs tape all
said again tape all e = go (length again == length all) refl e
  where
    tapes : length again ≡ length all → (b : Bool) → cond b (are_programs again tape 0 all) false ≡ true → told_programs again ≡ written_programs tape all
    tapes long true e = programs_told again tape 0 all e (omega (arith, long))
    tapes long false e = absurd cc

    go : (b : Bool) → (length again == length all) ≡ b → cond b (cond (length tape == length all) (are_programs again tape 0 all) false) false ≡ true
        → told_programs again ≡ written_programs tape all
    go true long e = tapes (eqb-true (length again) (length all) long) (length tape == length all) e
    go false long e = absurd cc
