-- The labels of a tape are a function of its outline.
use Rattle.std.proofs.Common.{◌≡◌, ℕ, zero, suc, Bool, true, false, ◌==◌, ◌||◌, List, [], ◌∷◌, length, map, find, Option, Some, None, refl, ap, sym, ◌∙◌, if◌then◌else◌}
use Rattle.std.specs.Option.{option_map}
use Rattle.block_order.specs.declared.control.Control.{Control}
use Rattle.block_order.specs.declared.control.Control.TheVariants.{Next, Goto, While, Do, EndLoop, Wait, End, Call, Back, BackTo}
use Rattle.block_order.specs.declared.label.Label.TheVariants as label
use Rattle.block_order.specs.declared.program.ControlBlock.{ControlBlock}
use Rattle.block_order.specs.declared.program.ControlProgram.{ControlProgram}
use Rattle.block_order.specs.Loud.{is_loud_block, has_loud_block, known_loud, loud}
use Rattle.block_order.specs.Order.{program_of, blocks_of, blocks, main_number}
use Rattle.label_list.specs.declared.labelled.Labelled.{Labelled}
use Rattle.label_list.specs.Lists.{label_with_line, times, block_labels, blocks_labels, off_line, labels_of_program, path_labels}
use Rattle.written_labels.specs.Outline.{Turn, Outline, goes_on, turns_of, outline_of, labels_told}

-- the outline of this number, if there is one
abbrev found : List Outline → ℕ → Option Outline
found outlines number = find (λ o. o.number == number) outlines

abbrev turns_in : Option Outline → List Turn
turns_in None = []
turns_in (Some o) = o.turns

abbrev off_in : Option Outline → ℕ
off_in None = 0
off_in (Some o) = o.off

-- the words of block_order and label_list, over outlines
abbrev has_loud_turn : (ℕ → Bool) → List Turn → Bool
has_loud_turn known [] = false
has_loud_turn known (t ∷ ts) = is_loud_block known t.control || has_loud_turn known ts

abbrev known_told : List Outline → ℕ → ℕ → Bool
known_told outlines zero program = false
known_told outlines (suc n) program = has_loud_turn (known_told outlines n) (turns_in (found outlines program))

abbrev turns_labels : (ℕ → Bool) → (ℕ → List Labelled → List Labelled) → (ℕ → List Labelled) → ℕ → List Turn → List Labelled
turns_labels loud called back off [] = label_with_line label.Off off ∷ []
turns_labels loud called back off (t ∷ ts) = block_labels loud called back t.line t.control (turns_labels loud called back off ts)

abbrev labels_of_outline : List Outline → ℕ → ℕ → (ℕ → List Labelled) → List Labelled
labels_of_outline outlines zero program back = back 0
labels_of_outline outlines (suc n) program back =
    turns_labels (known_told outlines (length outlines)) (λ q behind. labels_of_outline outlines n q (λ line. behind)) back
    (off_in (found outlines program)) (turns_in (found outlines program))

abbrev main_told : List Outline → ℕ
main_told [] = 0
main_told (o ∷ outlines) = o.number

-- A tape, and what its lines stand for.
module _ (origin : ℕ → ℕ) (tape : List ControlProgram) (zero_is : origin 0 ≡ 0) where
  abbrev outlines : List Outline
  outlines = map (outline_of origin) tape

  -- the outline of a number is that of its program
  found_is : (ps : List ControlProgram) (number : ℕ) → found (map (outline_of origin) ps) number ≡ option_map (outline_of origin) (program_of ps number)
  found_is [] number = refl
  found_is (p ∷ ps) number = go (p.number == number) (found_is ps number)
    where
      go : (b : Bool) → found (map (outline_of origin) ps) number ≡ option_map (outline_of origin) (program_of ps number)
          → (if b then Some (outline_of origin p) else found (map (outline_of origin) ps) number)
          ≡ option_map (outline_of origin) (if b then Some p else program_of ps number)
      go true e = refl
      go false e = e

  turns_is : (number : ℕ) → turns_in (found outlines number) ≡ turns_of origin (blocks tape number)
  turns_is number = ap (λ o. turns_in o) (found_is tape number) ∙ go (program_of tape number)
    where
      go : (p : Option ControlProgram) → turns_in (option_map (outline_of origin) p) ≡ turns_of origin (blocks_of p)
      go None = refl
      go (Some p) = refl

  off_is : (number : ℕ) → off_in (found outlines number) ≡ origin (off_line (program_of tape number))
  off_is number = ap (λ o. off_in o) (found_is tape number) ∙ go (program_of tape number)
    where
      go : (p : Option ControlProgram) → off_in (option_map (outline_of origin) p) ≡ origin (off_line p)
      go None = sym zero_is
      go (Some p) = refl

  -- a block that only goes on is not loud
  turn_loud : (known told : ℕ → Bool) → ((q : ℕ) → told q ≡ known q) → (bs : List ControlBlock)
      → has_loud_turn told (turns_of origin bs) ≡ has_loud_block known bs
  turn_loud known told same [] = refl
  turn_loud known told same (b ∷ bs) = go b.control (turn_loud known told same bs)
    where
      go : (c : Control) → has_loud_turn told (turns_of origin bs) ≡ has_loud_block known bs
          → has_loud_turn told (if goes_on c then turns_of origin bs else record { line = origin b.line; control = c } ∷ turns_of origin bs)
          ≡ (is_loud_block known c || has_loud_block known bs)
      go Next e = e
      go (Goto n) e = e
      go (While n) e = e
      go (Do n) e = e
      go (EndLoop n) e = e
      go (Wait n) e = refl
      go End e = refl
      go (Call p r) e = rw (same p, e) refl
      go Back e = e
      go (BackTo n) e = e

  known_is : (n program : ℕ) → known_told outlines n program ≡ known_loud tape n program
  known_is zero program = refl
  known_is (suc n) program =
      ap (λ ts. has_loud_turn (known_told outlines n) ts) (turns_is program)
      ∙ turn_loud (known_loud tape n) (known_told outlines n) (known_is n) (blocks tape program)

  as_long : (ps : List ControlProgram) → length (map (outline_of origin) ps) ≡ length ps
  as_long [] = refl
  as_long (p ∷ ps) = ap (λ n. suc n) (as_long ps)

  loud_is : (program : ℕ) → known_told outlines (length outlines) program ≡ loud tape program
  unfolding loud
  loud_is program = ap (λ n. known_told outlines n program) (as_long tape) ∙ known_is (length tape) program

  times_told : (called told : List Labelled → List Labelled) → ((rest : List Labelled) → labels_told origin (called rest) ≡ told (labels_told origin rest))
      → (n : ℕ) (rest : List Labelled) → labels_told origin (times n called rest) ≡ times n told (labels_told origin rest)
  times_told called told same zero rest = refl
  times_told called told same (suc n) rest = same (times n called rest) ∙ ap told (times_told called told same n rest)

  -- the labels of blocks are those of the turns among them
  blocks_told : (is_loud is_told : ℕ → Bool) → ((q : ℕ) → is_told q ≡ is_loud q)
      → (called told : ℕ → List Labelled → List Labelled) → ((q : ℕ) (rest : List Labelled) → labels_told origin (called q rest) ≡ told q (labels_told origin rest))
      → (back told_back : ℕ → List Labelled) → ((line : ℕ) → labels_told origin (back line) ≡ told_back (origin line))
      → (off : ℕ) (bs : List ControlBlock)
      → labels_told origin (blocks_labels is_loud called back off bs) ≡ turns_labels is_told told told_back (origin off) (turns_of origin bs)
  blocks_told is_loud is_told same called told calls back told_back backs off [] = refl
  blocks_told is_loud is_told same called told calls back told_back backs off (b ∷ bs) =
      go b.control (blocks_told is_loud is_told same called told calls back told_back backs off bs)
    where
      go : (c : Control)
          → labels_told origin (blocks_labels is_loud called back off bs) ≡ turns_labels is_told told told_back (origin off) (turns_of origin bs)
          → labels_told origin (block_labels is_loud called back b.line c (blocks_labels is_loud called back off bs))
          ≡ turns_labels is_told told told_back (origin off) (if goes_on c then turns_of origin bs else record { line = origin b.line; control = c } ∷ turns_of origin bs)
      go Next e = e
      go (Goto n) e = e
      go (While n) e = e
      go (Do n) e = e
      go (EndLoop n) e = e
      go (Wait n) e = ap (λ xs. label_with_line (label.Wait n) (origin b.line) ∷ xs) e
      go End e = refl
      go (Call p r) e = calling (is_loud p) (is_told p) (same p)
        where
          calling : (l t : Bool) → t ≡ l
              → labels_told origin (if l then times r (called p) (blocks_labels is_loud called back off bs) else blocks_labels is_loud called back off bs)
              ≡ (if t then times r (told p) (turns_labels is_told told told_back (origin off) (turns_of origin bs))
              else turns_labels is_told told told_back (origin off) (turns_of origin bs))
          calling true true s = times_told (called p) (told p) (calls p) r (blocks_labels is_loud called back off bs) ∙ ap (λ xs. times r (told p) xs) e
          calling false false s = e
          calling true false s = absurd cc
          calling false true s = absurd cc
      go Back e = backs b.line
      go (BackTo n) e = e

  -- the labels of a program are those of its outline
  program_told : (n program : ℕ) (back told_back : ℕ → List Labelled) → ((line : ℕ) → labels_told origin (back line) ≡ told_back (origin line))
      → labels_told origin (labels_of_program tape n program back) ≡ labels_of_outline outlines n program told_back
  unfolding labels_of_program
  program_told zero program back told_back backs = backs 0 ∙ ap told_back zero_is
  program_told (suc n) program back told_back backs =
      blocks_told (loud tape) (known_told outlines (length outlines)) loud_is
      (λ q behind. labels_of_program tape n q (λ line. behind)) (λ q behind. labels_of_outline outlines n q (λ line. behind))
      (λ q rest. program_told n q (λ line. rest) (λ line. labels_told origin rest) (λ line. refl))
      back told_back backs (off_line (program_of tape program)) (blocks tape program)
      ∙ ap (λ off. turns_labels (known_told outlines (length outlines)) (λ q behind. labels_of_outline outlines n q (λ line. behind)) told_back off (turns_of origin (blocks tape program))) (sym (off_is program))
      ∙ ap (λ ts. turns_labels (known_told outlines (length outlines)) (λ q behind. labels_of_outline outlines n q (λ line. behind)) told_back (off_in (found outlines program)) ts) (sym (turns_is program))

  main_is : main_told outlines ≡ main_number tape
  main_is = go tape
    where
      go : (ps : List ControlProgram) → main_told (map (outline_of origin) ps) ≡ main_number ps
      go [] = refl
      go (p ∷ ps) = refl

  pub path_told : labels_told origin (path_labels tape)
      ≡ labels_of_outline outlines 9 (main_told outlines) (λ line. label_with_line label.Again line ∷ [])
  unfolding path_labels
  path_told =
      program_told 9 (main_number tape) (λ line. label_with_line label.Again line ∷ []) (λ line. label_with_line label.Again line ∷ []) (λ line. refl)
      ∙ ap (λ m. labels_of_outline outlines 9 m (λ line. label_with_line label.Again line ∷ [])) (sym main_is)

-- lines that stand for themselves tell the labels as they are
self_told : (xs : List Labelled) → labels_told (λ line. line) xs ≡ xs
self_told [] = refl
self_told (x ∷ xs) = ap (λ ys. x ∷ ys) (self_told xs)

-- tapes with one outline have the same labels
pub same_labels : (origin : ℕ → ℕ) (tape result : List ControlProgram) → origin 0 ≡ 0
    → map (outline_of origin) result ≡ map (outline_of (λ line. line)) tape
    → labels_told origin (path_labels result) ≡ path_labels tape
same_labels origin tape result zero_is same =
    path_told origin result zero_is
    ∙ ap (λ os. labels_of_outline os 9 (main_told os) (λ line. label_with_line label.Again line ∷ [])) same
    ∙ sym (path_told (λ line. line) tape refl)
    ∙ self_told (path_labels tape)
