-- A blank put into a line of a tape, where it may stand, changes nothing but the places of words:
-- without its blanks the line is the same. For the law `a_blank_changes_only_places`
-- (src/edits.rt).
use Rattle.std.proofs.Common.{◌≡◌, ◌==◌, ℕ, ◌<◌, ◌≤◌, Bool, true, false, cond, not, List, [], ◌∷◌, ◌++◌, length, refl, sym, ap, ◌∙◌, append-nil, append_assoc, length-append, arith}
use Rattle.std.specs.Prelude.{All}
use Rattle.std.proofs.lemmas.Bool.{le-ltb}
use Rattle.std.proofs.lemmas.Bool.Decides.{nat_tests}
use Rattle.std.proofs.lemmas.List.Elements.{filter-append, All-cons, All-head, All-tail}
use Rattle.line_text.specs.Signs.{Scan, is_blank, without_last, without_return, signs_of}
use Rattle.nc_text.specs.Lines.{is_percent}
use Rattle.line_text.specs.Said.{line_says}
use Rattle.tape_relation.specs.Changed.{without_place, forget_places}
use Rattle.tape_relation.specs.Alike.{Fits}
use Rattle.tape_relation.specs.Edited.{with_line, IsLine, IsLastLine, MayHaveBlank}
use Rattle.nc_text.specs.Tape.{tape_of}
use Rattle.tape_relation.proofs.Blanks.{same_chain, IsSameText}
use Rattle.tape_relation.proofs.Ignored.{last_pushed}
use Rattle.tape_relation.proofs.Packed.{packed, either_packed, signs_packed}
use Rattle.tape_relation.proofs.Placeless.{same_text_says}
use Rattle.tape_relation.proofs.LineByLine.{SayAlike, changed_says}
use Rattle.tape_relation.proofs.OneLine.{line_in_place, last_in_place}

-- a line without its blanks is the same, whether or not one more blank stood in it
packed_blank : (b : ℕ) (left right : List ℕ) → is_blank b ≡ true → packed (left ++ b ∷ right) ≡ packed (left ++ right)
packed_blank b left right blank =
    filter-append (λ x. not (is_blank x)) left (b ∷ right) ∙ ap (λ (t : Bool). packed left ++ cond (not t) (b ∷ packed right) (packed right)) blank
    ∙ sym (filter-append (λ x. not (is_blank x)) left right)

-- a blank is no carriage return, byte 13
no_return : (b : ℕ) → is_blank b ≡ true → (b == 13) ≡ false
no_return b blank = grind (arith, nat_tests)

-- the last byte of a line that has one
record Last (line : List ℕ) : Type 0 where
  -- the bytes before the last one
  front : List ℕ
  -- the last byte
  byte : ℕ
  -- the line is these two
  is : line ≡ front ++ byte ∷ []

-- a line with a byte has a last one
last_of : (b : ℕ) (bs : List ℕ) → Last (b ∷ bs)
last_of b [] = record { front = []; byte = b; is = refl }
last_of b (c ∷ bs) = let behind = last_of c bs in record { front = b ∷ behind.front; byte = behind.byte; is = ap (λ (l : List ℕ). b ∷ l) behind.is }

-- a line in which a blank is put before the last byte is the same without its blanks, after a
-- carriage return at its end was taken off
last_stays : (b : ℕ) (left front : List ℕ) (x : ℕ) → is_blank b ≡ true → packed (without_last 13 (left ++ b ∷ (front ++ x ∷ []))) ≡ packed (without_last 13 (left ++ (front ++ x ∷ [])))
last_stays b left front x blank =
    ap (λ (l : List ℕ). packed (without_last 13 l)) (sym (append_assoc left (b ∷ front) (x ∷ []))) ∙ ap packed (last_pushed 13 (left ++ b ∷ front) x)
    ∙ either_packed (x == 13) (left ++ b ∷ front) ((left ++ b ∷ front) ++ x ∷ [])
    ∙ ap (λ (l : List ℕ). cond (x == 13) l (packed ((left ++ b ∷ front) ++ x ∷ []))) (packed_blank b left front blank)
    ∙ ap (λ (l : List ℕ). cond (x == 13) (packed (left ++ front)) l)
    (filter-append (λ y. not (is_blank y)) (left ++ b ∷ front) (x ∷ []) ∙ ap (λ (l : List ℕ). l ++ packed (x ∷ [])) (packed_blank b left front blank) ∙ sym (filter-append (λ y. not (is_blank y)) (left ++ front) (x ∷ [])))
    ∙ sym (either_packed (x == 13) (left ++ front) ((left ++ front) ++ x ∷ [])) ∙ ap packed (sym (last_pushed 13 (left ++ front) x))
    ∙ ap (λ (l : List ℕ). packed (without_last 13 l)) (append_assoc left front (x ∷ []))

-- the same line with and without one more blank is the same without its blanks, after a carriage
-- return at its end was taken off, if the blank does not stand after that return
return_blank : (b : ℕ) (left right : List ℕ) → is_blank b ≡ true → (right ≡ [] → without_last 13 left ≡ left) → packed (without_last 13 (left ++ b ∷ right)) ≡ packed (without_last 13 (left ++ right))
return_blank b left [] blank last =
    ap packed (last_pushed 13 left b) ∙ ap (λ (t : Bool). packed (cond t left (left ++ b ∷ []))) (no_return b blank) ∙ packed_blank b left [] blank
    ∙ ap packed (append-nil left ∙ sym (last refl) ∙ ap (without_last 13) (sym (append-nil left)))
return_blank b left (c ∷ right) blank last =
    let end = last_of c right in
    ap (λ (l : List ℕ). packed (without_last 13 (left ++ b ∷ l))) end.is ∙ last_stays b left end.front end.byte blank ∙ ap (λ (l : List ℕ). packed (without_last 13 (left ++ l))) (sym end.is)

-- lines with and without one more blank are the same without their blanks
blank_packed : (b : ℕ) (left right : List ℕ) (ended : Bool) → is_blank b ≡ true → (right ≡ [] → without_last 13 left ≡ left) → packed (without_return (left ++ b ∷ right) ended) ≡ packed (without_return (left ++ right) ended)
blank_packed b left right true blank last = return_blank b left right blank last
blank_packed b left right false blank last = packed_blank b left right blank

-- lines with the same text have it in either order
same_back : (a b : Scan) → IsSameText a b → IsSameText b a
same_back a b same = record { bytes = sym same.bytes; unclosed = sym same.unclosed }

-- lines with and without one more blank say the same, but for the places of words
blank_says : (skips b : ℕ) (left right : List ℕ) (ended : Bool) → is_blank b ≡ true → (right ≡ [] → without_last 13 left ≡ left)
    → changed_says without_place (line_says skips (left ++ b ∷ right) ended) ≡ changed_says without_place (line_says skips (left ++ right) ended)
unfolding line_says
blank_says skips b left right ended blank last =
    same_text_says skips (signs_of (left ++ b ∷ right) ended) (signs_of (left ++ right) ended)
    (same_chain _ _ _ (signs_packed (left ++ b ∷ right) ended) (rw (blank_packed b left right ended blank last) (same_back _ _ (signs_packed (left ++ right) ended))))

-- a blank is no `%`, byte 37
no_percent : (b : ℕ) → is_blank b ≡ true → (b == 37) ≡ false
no_percent b blank = grind (arith, nat_tests)

-- both lines, with and without the blank, begin with `%`, or neither does
blank_percent : (b : ℕ) (left right : List ℕ) → is_blank b ≡ true → (left ≡ [] → is_percent right ≡ false) → is_percent (left ++ b ∷ right) ≡ is_percent (left ++ right)
blank_percent b [] right blank first = no_percent b blank ∙ sym (first refl)
blank_percent b (c ∷ left) right blank first = refl

-- lines with and without a blank where it may stand are alike, but for the places of words
blank_alike : (skips b : ℕ) (left right : List ℕ) (ended : Bool) → is_blank b ≡ true → MayHaveBlank left right → length (left ++ b ∷ right) ≤ 512
    → SayAlike skips without_place (record { bytes = left ++ b ∷ right; ended = ended }) (record { bytes = left ++ right; ended = ended })
blank_alike skips b left right ended blank may short =
    let shorter : length (left ++ right) ≤ 512 = omega (arith, length-append left right, length-append left (b ∷ right)) in
    record {
      says = λ _. blank_says skips b left right ended blank may.return;
      percent = blank_percent b left right blank may.percent;
      long = le-ltb 512 (length (left ++ b ∷ right)) short ∙ sym (le-ltb 512 (length (left ++ right)) shorter);
    }

-- what holds of each byte holds without one of them
without : (P : ℕ → Type 0) (b : ℕ) (left right : List ℕ) → All P (left ++ b ∷ right) → All P (left ++ right)
without P b [] right all = All-tail P b right all
without P b (c ∷ left) right all = All-cons P c (left ++ right) (All-head P c (left ++ b ∷ right) all) (without P b left right (All-tail P c (left ++ b ∷ right) all))

-- a blank where it may stand, in a line with a line feed, changes nothing but the places of words
pub blank_put : (skips blank : ℕ) (front left right back : List ℕ) → is_blank blank ≡ true → MayHaveBlank left right → IsLine front (left ++ blank ∷ right) back
    → forget_places (tape_of skips (with_line front (left ++ blank ∷ right) back)) ≡ forget_places (tape_of skips (with_line front (left ++ right) back))
blank_put skips b front left right back blank may is =
    let fits : Fits (with_line front (left ++ b ∷ right) back) = is.fits in
    let shorter : Fits (with_line front (left ++ right) back) =
    omega (arith, length-append front ((left ++ right) ++ 10 ∷ back), length-append (left ++ right) (10 ∷ back), length-append left right, length-append front ((left ++ b ∷ right) ++ 10 ∷ back), length-append (left ++ b ∷ right) (10 ∷ back), length-append left (b ∷ right)) in
    line_in_place skips without_place front (left ++ b ∷ right) (left ++ right) back is.whole is.one_line (without (λ (x : ℕ). (x == 10) ≡ false) b left right is.one_line) (blank_alike skips b left right true blank may is.short) fits shorter

-- a blank where it may stand, in a last line without a line feed, changes nothing but the places of
-- words
pub blank_put_last : (skips blank : ℕ) (front left right : List ℕ) → is_blank blank ≡ true → MayHaveBlank left right → IsLastLine front (left ++ blank ∷ right) → 0 < length (left ++ right)
    → forget_places (tape_of skips (front ++ (left ++ blank ∷ right))) ≡ forget_places (tape_of skips (front ++ (left ++ right)))
blank_put_last skips b front left right blank may is some =
    let fits : Fits (front ++ (left ++ b ∷ right)) = is.fits in
    let more : 0 < length (left ++ b ∷ right) = omega (arith, length-append left (b ∷ right)) in
    let shorter : Fits (front ++ (left ++ right)) = omega (arith, length-append front (left ++ right), length-append left right, length-append front (left ++ b ∷ right), length-append left (b ∷ right)) in
    last_in_place skips without_place front (left ++ b ∷ right) (left ++ right) is.whole is.one_line (without (λ (x : ℕ). (x == 10) ≡ false) b left right is.one_line) more some (blank_alike skips b left right false blank may is.short) fits shorter
