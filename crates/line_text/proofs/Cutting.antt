-- The first word of the signs of a tape's line, and the words after it. For the loop of `pieces`
-- (src/cut.rt).
use Rattle.std.proofs.Common.{◌≡◌, ◌==◌, ℕ, suc, ◌+◌, Bool, true, false, cond, List, [], ◌∷◌, ◌++◌, map, take, drop, refl, sym, ap, subst, ◌∙◌, append_assoc, arith}
use Rattle.std.specs.Char.{is_ascii_uppercase}
use Rattle.std.proofs.lemmas.Bool.{and_parts, eqb-true}
use Rattle.std.proofs.lemmas.Bool.Decides.{nat_tests}
use Rattle.line_text.specs.declared.sign.Sign.{Sign}
use Rattle.line_text.specs.declared.piece.Piece.{Piece}
use Rattle.line_text.specs.Pieces.{Cut, begins_word, depth_behind, add_to_cut, cut_at, value_len, piece_of, pieces_of}

-- a cut whose first n signs stand before the first word, and whose words are those of the signs
-- after them
abbrev Behind : ℕ → List Sign → Cut → Type 0
Behind n signs cut = (cut ≡ record { lead = take n signs; groups = (cut_at (drop n signs) 0).groups }) × (value_len (drop n signs) 0 ≡ 0)

-- a cut that goes on right whether or not this sign begins a word goes on right
either : (sign : Sign) (signs : List Sign) (cut : Cut) (n : ℕ) (begins : Bool) → (begins ≡ true → Behind 0 (sign ∷ signs) (add_to_cut true sign cut)) → Behind (1 + n) (sign ∷ signs) (add_to_cut false sign cut)
    → Behind (cond begins 0 (1 + n)) (sign ∷ signs) (add_to_cut begins sign cut)
either sign signs cut n true word other = word refl
either sign signs cut n false word other = other

-- a sign that begins no word is one sign more before the first word
one_more : (sign : Sign) (signs : List Sign) (cut : Cut) (n : ℕ) → Behind n signs cut → Behind (1 + n) (sign ∷ signs) (add_to_cut false sign cut)
one_more sign signs cut n before =
    let e : 1 + n ≡ suc n = omega arith in
    rw e (rw (before.0) refl, before.1)

-- if a sign begins a word, no sign stands before the first word
at_word : (sign : Sign) (signs : List Sign) (depth : ℕ) → depth ≡ 0 → begins_word depth sign.byte ≡ true → Behind 0 (sign ∷ signs) (add_to_cut true sign (cut_at signs (depth_behind depth sign.byte)))
at_word sign signs depth top begins =
    let here : begins_word 0 sign.byte ≡ true = subst (λ (d : ℕ). begins_word d sign.byte ≡ true) top begins in
    subst (λ (d : ℕ). Behind 0 (sign ∷ signs) (add_to_cut true sign (cut_at signs (depth_behind d sign.byte)))) (sym top) (rw here refl, rw here refl)

-- the words begin after as many signs as stand before the first letter outside brackets
cut_behind : (signs : List Sign) (depth : ℕ) → Behind (value_len signs depth) signs (cut_at signs depth)
cut_behind [] depth = (refl, refl)
cut_behind (sign ∷ signs) depth =
    either sign signs (cut_at signs (depth_behind depth sign.byte)) (value_len signs (depth_behind depth sign.byte)) (begins_word depth sign.byte)
    (λ e. at_word sign signs depth (eqb-true _ _ (and_parts _ _ e).0) e)
    (one_more sign signs _ _ (cut_behind signs (depth_behind depth sign.byte)))

-- if no sign stands before the first word, the first sign begins it
begins : (test : Bool) (n : ℕ) → cond test 0 (1 + n) ≡ 0 → test ≡ true
begins true n e = refl
begins false n e = absurd (omega arith)

-- a letter opens and closes no bracket
pub depth_stays : (b : ℕ) → is_ascii_uppercase b ≡ true → depth_behind 0 b ≡ 0
depth_stays b letter = grind (arith, nat_tests)

-- the signs of which the first begins a word: that word, and the words of the rest
pub record IsFirst (letter : Sign) (others : List Sign) : Type 0 where
  -- the first word and the words of the rest are all words
  pub cut : pieces_of (letter ∷ others) ≡ piece_of (record { letter = letter; value = take (value_len others 0) others }) ∷ pieces_of (drop (value_len others 0) others)
  -- the signs after the first word begin with a word
  pub next : value_len (drop (value_len others 0) others) 0 ≡ 0

-- signs of which the first begins a word are that word and the words of the rest
first_piece : (letter : Sign) (others : List Sign) → value_len (letter ∷ others) 0 ≡ 0 → IsFirst letter others
first_piece letter others lead =
    let word : begins_word 0 letter.byte ≡ true = begins (begins_word 0 letter.byte) (value_len others (depth_behind 0 letter.byte)) lead in
    let top : depth_behind 0 letter.byte ≡ 0 = depth_stays letter.byte (and_parts (0 == 0) (is_ascii_uppercase letter.byte) word).1 in
    let behind = cut_behind others 0 in
    let one : cut_at (letter ∷ others) 0 ≡ add_to_cut true letter (cut_at others 0) = ap (λ (b : Bool). add_to_cut b letter (cut_at others (depth_behind 0 letter.byte))) word ∙ ap (λ (d : ℕ). add_to_cut true letter (cut_at others d)) top in
    let two : add_to_cut true letter (cut_at others 0) ≡ add_to_cut true letter (record { lead = take (value_len others 0) others; groups = (cut_at (drop (value_len others 0) others) 0).groups }) = ap (add_to_cut true letter) behind.0 in
    record {
      cut = ap (λ (cut : Cut). map piece_of cut.groups) (one ∙ two);
      next = behind.1;
    }

-- what the loop keeps when it has cut off one word more
pub record IsNext (before : List Piece) (piece : Piece) (behind : List Sign) (all : List Piece) : Type 0 where
  -- the words so far with this one, and those after it, are all words
  pub cut : (before ++ piece ∷ []) ++ pieces_of behind ≡ all
  -- what is left begins with a word
  pub lead : value_len behind 0 ≡ 0

-- one word more is cut off, and the loop goes on after it
pub push_next : (before : List Piece) (piece : Piece) (letter : Sign) (others value behind rest : List Sign) (all : List Piece) (n : ℕ) → rest ≡ letter ∷ others → value_len rest 0 ≡ 0 → n ≡ value_len others 0 → value ≡ take n others → behind ≡ drop n others
    → piece ≡ piece_of (record { letter = letter; value = value }) → before ++ pieces_of rest ≡ all → IsNext before piece behind all
push_next before piece letter others value behind rest all n rest-is lead n-is value-is behind-is piece-is so_far =
    let first = first_piece letter others (subst (λ (signs : List Sign). value_len signs 0 ≡ 0) rest-is lead) in
    let piece-again : piece ≡ piece_of (record { letter = letter; value = take (value_len others 0) others }) = piece-is ∙ ap (λ (signs : List Sign). piece_of (record { letter = letter; value = signs })) (value-is ∙ ap (λ (k : ℕ). take k others) n-is) in
    let behind-again : behind ≡ drop (value_len others 0) others = behind-is ∙ ap (λ (k : ℕ). drop k others) n-is in
    let words : pieces_of rest ≡ piece ∷ pieces_of behind = ap pieces_of rest-is ∙ first.cut ∙ ap (λ (p : Piece). p ∷ pieces_of (drop (value_len others 0) others)) (sym piece-again) ∙ ap (λ (signs : List Sign). piece ∷ pieces_of signs) (sym behind-again) in
    record {
      cut = append_assoc before (piece ∷ []) (pieces_of behind) ∙ ap (λ (ps : List Piece). before ++ ps) (sym words) ∙ so_far;
      lead = subst (λ (signs : List Sign). value_len signs 0 ≡ 0) (sym behind-again) first.next;
    }
