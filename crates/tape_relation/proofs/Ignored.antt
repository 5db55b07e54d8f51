-- What the reader takes off the end of a line (blanks, one `;`, the carriage return) is just what
-- the relation ignores. For Remarks, which compares the signs; Packed, Blanked and SkippedLines
-- take the lemmas on last bytes.
use Rattle.std.proofs.Common.{◌≡◌, ◌==◌, ℕ, ◌+◌, ◌-◌, Bool, true, false, cond, not, ◌&&◌, ◌||◌, List, [], ◌∷◌, ◌++◌, length, take, get_or, ◌⊎◌, inl, inr, refl, sym, ap, subst, ◌∙◌, append-nil, append_assoc, arith}
use Rattle.std.specs.List.{list_all, prefix_len, suffix_len}
use Rattle.std.proofs.lemmas.Bool.{eqb-true}
use Rattle.std.proofs.lemmas.List.{length_push, get_or_push, take_all, take_at, reverse-append, take-append-le, nil_from_length}
use Rattle.nc_number.proofs.Bools.{both, either}
use Rattle.line_text.specs.Signs.{Scan, is_blank, inside_behind, add_sign, scan_of, without_last, without_blanks, signs_of}
use Rattle.tape_relation.specs.Characters.{is_space, is_return, are_spaces, is_ignored}

-- the signs of bytes by the relation's `is_ignored`; the flags: the line has a line feed, the first
-- byte stands in a comment
abbrev pub signs_on : Bool → List ℕ → Bool → ℕ → Scan
signs_on ended [] inside place = record { list = []; unclosed = inside }
signs_on ended (b ∷ bytes) inside place = add_sign (not inside && not (is_ignored ended b bytes)) place b (signs_on ended bytes (inside_behind inside b) (place + 1))

-- what holds of xs, and goes on holding with each byte more at the end, holds with all of ys at the
-- end
pub by_last : (P : List ℕ → Type 0) → ((xs : List ℕ) (x : ℕ) → P xs → P (xs ++ x ∷ [])) → (ys xs : List ℕ) → P xs → P (xs ++ ys)
by_last P push [] xs p = subst P (sym (append-nil xs)) p
by_last P push (y ∷ ys) xs p = subst P (append_assoc xs (y ∷ []) ys) (by_last P push ys (xs ++ y ∷ []) (push xs y p))

-- the last byte is taken off if it is this one
pub last_pushed : (k : ℕ) (xs : List ℕ) (x : ℕ) → without_last k (xs ++ x ∷ []) ≡ cond (x == k) xs (xs ++ x ∷ [])
last_pushed k xs x =
    let before : length (xs ++ x ∷ []) - 1 ≡ length xs = omega (arith, length_push xs x) in
    ap (λ (n : ℕ). cond (get_or (xs ++ x ∷ []) n 0 == k) (take n (xs ++ x ∷ [])) (xs ++ x ∷ [])) before
    ∙ ap (λ (b : ℕ). cond (b == k) (take (length xs) (xs ++ x ∷ [])) (xs ++ x ∷ [])) (get_or_push xs x 0 (length xs) refl)
    ∙ ap (λ (l : List ℕ). cond (x == k) l (xs ++ x ∷ [])) (take_at xs (x ∷ []) (length xs) refl)

-- how many blanks a text with one more byte ends with
suffix_pushed : (xs : List ℕ) (x : ℕ) → suffix_len is_blank (xs ++ x ∷ []) ≡ cond (is_blank x) (1 + suffix_len is_blank xs) 0
suffix_pushed xs x = ap (prefix_len is_blank) (reverse-append xs (x ∷ []))

-- a blank at the end is taken off
pub trimmed_blank : (xs : List ℕ) (x : ℕ) → is_blank x ≡ true → without_blanks (xs ++ x ∷ []) ≡ without_blanks xs
trimmed_blank xs x blank =
    let count : suffix_len is_blank (xs ++ x ∷ []) ≡ 1 + suffix_len is_blank xs = suffix_pushed xs x ∙ ap (λ (t : Bool). cond t (1 + suffix_len is_blank xs) 0) blank in
    let long : length (xs ++ x ∷ []) - suffix_len is_blank (xs ++ x ∷ []) ≡ length xs - suffix_len is_blank xs = omega (arith, length_push xs x) in
    ap (λ (n : ℕ). take n (xs ++ x ∷ [])) long ∙ take-append-le (length xs - suffix_len is_blank xs) xs (x ∷ []) (omega arith)

-- a byte at the end that is no blank is not taken off
pub trimmed_other : (xs : List ℕ) (x : ℕ) → is_blank x ≡ false → without_blanks (xs ++ x ∷ []) ≡ xs ++ x ∷ []
trimmed_other xs x other =
    let count : suffix_len is_blank (xs ++ x ∷ []) ≡ 0 = suffix_pushed xs x ∙ ap (λ (t : Bool). cond t (1 + suffix_len is_blank xs) 0) other in
    let long : length (xs ++ x ∷ []) - suffix_len is_blank (xs ++ x ∷ []) ≡ length (xs ++ x ∷ []) = omega arith in
    ap (λ (n : ℕ). take n (xs ++ x ∷ [])) long ∙ take_all (length (xs ++ x ∷ [])) (xs ++ x ∷ []) (omega arith)

-- if the text has a last byte, that byte fails the test
abbrev EndsOther : (ℕ → Bool) → List ℕ → Type 0
EndsOther test xs = (front : List ℕ) (x : ℕ) → xs ≡ front ++ x ∷ [] → test x ≡ false

-- The next three: texts with the same last byte, and texts whose last byte fails a test.
last_is : (front others : List ℕ) (x y : ℕ) → front ++ x ∷ [] ≡ others ++ y ∷ [] → x ≡ y
last_is [] [] x y e = cc
last_is [] (o ∷ []) x y e = absurd cc
last_is [] (o ∷ (p ∷ others)) x y e = absurd cc
last_is (f ∷ []) [] x y e = absurd cc
last_is (f ∷ (g ∷ front)) [] x y e = absurd cc
last_is (f ∷ front) (o ∷ others) x y e = let rest : front ++ x ∷ [] ≡ others ++ y ∷ [] = cc in last_is front others x y rest

ends_other : (test : ℕ → Bool) (xs : List ℕ) (x : ℕ) → test x ≡ false → EndsOther test (xs ++ x ∷ [])
ends_other test xs x off front y e = ap test (sym (last_is xs front x y e)) ∙ off

no_last : (test : ℕ → Bool) → EndsOther test []
no_last test [] x e = absurd cc
no_last test (f ∷ front) x e = absurd cc

-- what is left of a text, and its last byte k if it was taken off
abbrev LastLeft : ℕ → List ℕ → Type 0
LastLeft k xs = ((without_last k xs ≡ xs) × EndsOther (λ b. b == k) xs) ⊎ (xs ≡ without_last k xs ++ k ∷ [])

-- a text without its last byte, if that is k, and that byte, are the text
last_left : (k : ℕ) → (0 == k) ≡ false → (xs : List ℕ) → LastLeft k xs
last_left k other xs = by_last (LastLeft k) (λ front x before. go front x (x == k) refl) xs [] (inl (rw other refl, no_last (λ b. b == k)))
  where
    go : (front : List ℕ) (x : ℕ) (t : Bool) → (x == k) ≡ t → LastLeft k (front ++ x ∷ [])
    go front x true e = inr (ap (λ (b : ℕ). front ++ b ∷ []) (eqb-true x k e) ∙ ap (λ (l : List ℕ). l ++ k ∷ []) (sym (last_pushed k front x ∙ ap (λ (t : Bool). cond t front (front ++ x ∷ [])) e)))
    go front x false e = inl (last_pushed k front x ∙ ap (λ (t : Bool). cond t front (front ++ x ∷ [])) e, ends_other (λ b. b == k) front x e)

-- what is left of a text without the blanks at its end, and these blanks
abbrev BlanksLeft : List ℕ → Type 0
BlanksLeft xs = (blanks : List ℕ) × (xs ≡ without_blanks xs ++ blanks) × (list_all is_blank blanks ≡ true) × EndsOther is_blank (without_blanks xs)

-- one blank more after blanks are blanks
all_pushed : (blanks : List ℕ) (x : ℕ) → list_all is_blank blanks ≡ true → is_blank x ≡ true → list_all is_blank (blanks ++ x ∷ []) ≡ true
all_pushed [] x all is = rw is refl
all_pushed (b ∷ blanks) x all is = let p = both (is_blank b) (list_all is_blank blanks) all in rw p.0 (all_pushed blanks x p.1 is)

-- a text without the blanks at its end, and these blanks, are the text
blanks_left : (xs : List ℕ) → BlanksLeft xs
blanks_left xs = by_last BlanksLeft (λ front x before. go front x before (is_blank x) refl) xs [] ([], refl, refl, no_last is_blank)
  where
    go : (front : List ℕ) (x : ℕ) → BlanksLeft front → (t : Bool) → is_blank x ≡ t → BlanksLeft (front ++ x ∷ [])
    go front x (blanks, is, all, other) true e =
        let same = trimmed_blank front x e in
        let P : List ℕ → Type 0 = EndsOther is_blank in (
          blanks ++ x ∷ [],
          ap (λ (l : List ℕ). l ++ x ∷ []) is ∙ append_assoc (without_blanks front) blanks (x ∷ []) ∙ ap (λ (l : List ℕ). l ++ (blanks ++ x ∷ [])) (sym same),
          all_pushed blanks x all e,
          subst P (sym same) other,
        )
    go front x before false e =
        let same = trimmed_other front x e in
        let P : List ℕ → Type 0 = EndsOther is_blank in ([], sym (append-nil (front ++ x ∷ [])) ∙ ap (λ (l : List ℕ). l ++ []) (sym same), refl, subst P (sym same) (ends_other is_blank front x e))

-- What stands at the end of a line is ignored.

-- the carriage return at the end of a line, byte 13, or nothing
abbrev at_end : Bool → List ℕ
at_end true = 13 ∷ []
at_end false = []

-- if the line ends with a carriage return (`last`), it has a line feed (`ended`)
abbrev Ends : Bool → Bool → Type 0
Ends ended last = last ≡ true → ended ≡ true

-- after the `;` of a block stand only blanks and a carriage return before the line feed
spaces_end : (ended last : Bool) (blanks : List ℕ) → Ends ended last → list_all is_blank blanks ≡ true → are_spaces ended (blanks ++ at_end last) ≡ true
spaces_end ended false [] ends all = refl
spaces_end ended true [] ends all = rw (ends refl) refl
spaces_end ended last (b ∷ blanks) ends all = let p = both (is_blank b) (list_all is_blank blanks) all in rw p.0 (spaces_end ended last blanks ends p.1)

-- a byte that opens and closes no comment adds no sign if it is ignored
passed : (ended : Bool) (b : ℕ) (bytes : List ℕ) (inside : Bool) (place : ℕ) → is_ignored ended b bytes ≡ true → inside_behind inside b ≡ inside → signs_on ended (b ∷ bytes) inside place ≡ signs_on ended bytes inside (place + 1)
passed ended b bytes true place is same = rw same refl
passed ended b bytes false place is same = rw (is, same) refl

-- These three: a blank, a `;` and a carriage return neither open nor close a comment.
blank_inside : (b : ℕ) (inside : Bool) → is_blank b ≡ true → inside_behind inside b ≡ inside
blank_inside b inside is = go (b == 32) refl (b == 9) refl is
  where
    go : (s : Bool) → (b == 32) ≡ s → (t : Bool) → (b == 9) ≡ t → (s || t) ≡ true → inside_behind inside b ≡ inside
    go true e t f h = ap (inside_behind inside) (eqb-true b 32 e) ∙ space inside
      where
        space : (i : Bool) → inside_behind i 32 ≡ i
        space true = refl
        space false = refl
    go false e true f h = ap (inside_behind inside) (eqb-true b 9 f) ∙ tab inside
      where
        tab : (i : Bool) → inside_behind i 9 ≡ i
        tab true = refl
        tab false = refl
    go false e false f h = absurd cc

semicolon_inside : (inside : Bool) → inside_behind inside 59 ≡ inside
semicolon_inside true = refl
semicolon_inside false = refl

return_inside : (inside : Bool) → inside_behind inside 13 ≡ inside
return_inside true = refl
return_inside false = refl

-- blanks at the end give no sign
nothing_on : (ended last : Bool) (blanks : List ℕ) (inside : Bool) (place : ℕ) → Ends ended last → list_all is_blank blanks ≡ true → signs_on ended (blanks ++ at_end last) inside place ≡ record { list = []; unclosed = inside }
nothing_on ended false [] inside place ends all = refl
nothing_on ended true [] inside place ends all = passed ended 13 [] inside place (rw (ends refl) refl) (return_inside inside)
nothing_on ended last (b ∷ blanks) inside place ends all =
    let p = both (is_blank b) (list_all is_blank blanks) all in
    passed ended b (blanks ++ at_end last) inside place (rw p.0 refl) (blank_inside b inside p.0) ∙ nothing_on ended last blanks inside (place + 1) ends p.1

-- the end of a line that is taken off: a `;` or none, blanks, and a carriage return or none
abbrev tail_of : Bool → List ℕ → Bool → List ℕ
tail_of true blanks last = 59 ∷ (blanks ++ at_end last)
tail_of false blanks last = blanks ++ at_end last

-- the end of a line that is taken off gives no sign
tail_on : (ended stop last : Bool) (blanks : List ℕ) (inside : Bool) (place : ℕ) → Ends ended last → list_all is_blank blanks ≡ true → signs_on ended (tail_of stop blanks last) inside place ≡ record { list = []; unclosed = inside }
tail_on ended true last blanks inside place ends all =
    passed ended 59 (blanks ++ at_end last) inside place (spaces_end ended last blanks ends all) (semicolon_inside inside) ∙ nothing_on ended last blanks inside (place + 1) ends all
tail_on ended false last blanks inside place ends all = nothing_on ended last blanks inside place ends all

-- What stands before it is ignored only where it is a blank.

-- if in the content only blanks are ignored and the tail gives no sign, the signs of a line are
-- those of its content
content_on : (ended : Bool) (tail : List ℕ) → ((inside : Bool) (place : ℕ) → signs_on ended tail inside place ≡ record { list = []; unclosed = inside }) → (content : List ℕ)
    → ((front : List ℕ) (b : ℕ) (back : List ℕ) → content ≡ front ++ b ∷ back → is_ignored ended b (back ++ tail) ≡ is_blank b) → (inside : Bool) (place : ℕ) → signs_on ended (content ++ tail) inside place ≡ scan_of content inside place
content_on ended tail none [] same inside place = none inside place
content_on ended tail none (b ∷ content) same inside place =
    rw (same [] b content refl) (ap (add_sign (not inside && not (is_blank b)) place b) (content_on ended tail none content (λ front c back e. same (b ∷ front) c back (ap (λ (l : List ℕ). b ∷ l) e)) (inside_behind inside b) (place + 1)))

-- what stands behind spaces that a line ends with are such spaces
spaces_behind : (ended : Bool) (front back : List ℕ) → are_spaces ended (front ++ back) ≡ true → are_spaces ended back ≡ true
spaces_behind ended [] back e = e
spaces_behind ended (b ∷ front) back e = spaces_behind ended front back (both (is_space b || is_return ended b (front ++ back)) (are_spaces ended (front ++ back)) e).1

-- These two are about `or`: a second part that adds nothing, and two parts that are both false.
or_else : (a b : Bool) → (a ≡ false → b ≡ false) → (a || b) ≡ a
or_else true b f = refl
or_else false b f = f refl

neither : (a b : Bool) → (a ≡ true → ⊥) → (b ≡ true → ⊥) → (a || b) ≡ false
neither true b f g = absurd (f refl)
neither false true f g = absurd (g refl)
neither false false f g = refl

-- the text is empty, or it is a front and a last byte
abbrev HasLast : List ℕ → Type 0
HasLast xs = (xs ≡ []) ⊎ ((front : List ℕ) × (x : ℕ) × (xs ≡ front ++ x ∷ []))

-- each text is empty or has a last byte
has_last : (xs : List ℕ) → HasLast xs
has_last xs = by_last HasLast (λ front x before. inr (front, x, refl)) xs [] (inl refl)

-- a carriage return that is ignored is the last byte of a line with a line feed
not_return : (ended : Bool) (b : ℕ) (behind : List ℕ) → is_return ended b behind ≡ true → (b ≡ 13) × (ended ≡ true) × (behind ≡ [])
not_return ended b behind e =
    let p = both (b == 13) (ended && length behind == 0) e in
    let q = both ended (length behind == 0) p.1 in
    (eqb-true b 13 p.0, q.0, nil_from_length behind (eqb-true (length behind) 0 q.1))

-- if two texts together are nothing, each is
none_left : (xs ys : List ℕ) → xs ++ ys ≡ [] → (xs ≡ []) × (ys ≡ [])
none_left [] ys e = (refl, e)
none_left (x ∷ xs) ys e = absurd cc

-- A line is `content`, then a `;` if `stop` says so, `blanks`, and a carriage return if `last` says
-- so; `ended` says whether a line feed follows.
module _ (ended stop last : Bool) (content blanks : List ℕ) where
  -- The content is what is left of a line: it ends with no blank if no `;` was taken off, with no
  -- `;` then either, and a carriage return was taken off if there was one.
  pub record IsContent : Type 0 where
    -- a carriage return was taken off only before a line feed
    pub ends : Ends ended last
    -- what was taken off after the `;` are blanks
    pub blank : list_all is_blank blanks ≡ true
    -- without a `;`, the content ends with no blank
    pub no_blank : stop ≡ false → EndsOther is_blank content
    -- without a `;` taken off, the content ends with none
    pub no_stop : stop ≡ false → EndsOther (λ b. b == 59) content
    -- if no carriage return was taken off before a line feed, the line ends with none
    pub no_return : last ≡ false → ended ≡ true → EndsOther (λ b. b == 13) (content ++ tail_of stop blanks last)

  -- in the content only blanks are ignored
  only_blanks : IsContent → (front : List ℕ) (b : ℕ) (back : List ℕ) → content ≡ front ++ b ∷ back → is_ignored ended b (back ++ tail_of stop blanks last) ≡ is_blank b
  only_blanks is front b back e = or_else (is_blank b) (is_return ended b behind || (b == 59 && are_spaces ended behind)) (λ other. neither (is_return ended b behind) (b == 59 && are_spaces ended behind) return semicolon)
    where
      behind : List ℕ
      behind = back ++ tail_of stop blanks last

      -- a carriage return that is the last byte of all
      at_last : (front : List ℕ) → content ++ tail_of stop blanks last ≡ front ++ 13 ∷ [] → (l : Bool) → last ≡ l → tail_of stop blanks last ≡ [] → ended ≡ true → ⊥
      at_last before is-last true f none en = no_tail stop blanks last f none
        where
          no_tail : (s : Bool) (bs : List ℕ) (l : Bool) → l ≡ true → tail_of s bs l ≡ [] → ⊥
          no_tail true bs l f e = absurd cc
          no_tail false (x ∷ bs) l f e = absurd cc
          no_tail false [] true f e = absurd cc
          no_tail false [] false f e = absurd cc
      at_last before is-last false f none en = let bad : true ≡ false = is.no_return f en before 13 is-last in absurd cc

      return : is_return ended b behind ≡ true → ⊥
      return r =
          let p = not_return ended b behind r in
          let q = none_left back (tail_of stop blanks last) p.2 in
          let whole : content ++ tail_of stop blanks last ≡ front ++ 13 ∷ [] =
          ap (λ (t : List ℕ). content ++ t) q.1 ∙ append-nil content ∙ e ∙ ap (λ (l : List ℕ). front ++ b ∷ l) q.0 ∙ ap (λ (c : ℕ). front ++ c ∷ []) p.0
          in at_last front whole last refl q.1 p.1

      semicolon : (b == 59 && are_spaces ended behind) ≡ true → ⊥
      semicolon s =
          let p = both (b == 59) (are_spaces ended behind) s in at_stop (eqb-true b 59 p.0) p.1 stop refl (has_last back)
        where
          at_stop : b ≡ 59 → are_spaces ended behind ≡ true → (t : Bool) → stop ≡ t → HasLast back → ⊥
          at_stop is-stop spaces true f some =
              let P : Bool → Type 0 = λ t. are_spaces ended (tail_of t blanks last) ≡ true in
              let bad : are_spaces ended (59 ∷ (blanks ++ at_end last)) ≡ true = subst P f (spaces_behind ended back (tail_of stop blanks last) spaces) in absurd cc
          at_stop is-stop spaces false f (inl none) =
              let bad : true ≡ false = is.no_stop f front 59 (e ∙ ap (λ (l : List ℕ). front ++ b ∷ l) none ∙ ap (λ (c : ℕ). front ++ c ∷ []) is-stop) in absurd cc
          at_stop is-stop spaces false f (inr (before, x, back-is)) =
              let whole : content ≡ (front ++ b ∷ before) ++ x ∷ [] = e ∙ ap (λ (l : List ℕ). front ++ b ∷ l) back-is ∙ sym (append_assoc front (b ∷ before) (x ∷ [])) in
              let other : is_blank x ≡ false = is.no_blank f (front ++ b ∷ before) x whole in
              let all : back ++ tail_of stop blanks last ≡ before ++ x ∷ tail_of stop blanks last = ap (λ (l : List ℕ). l ++ tail_of stop blanks last) back-is ∙ append_assoc before (x ∷ []) (tail_of stop blanks last) in
              let P : List ℕ → Type 0 = λ l. are_spaces ended l ≡ true in
              let last-one = both (is_space x || is_return ended x (tail_of stop blanks last)) (are_spaces ended (tail_of stop blanks last)) (spaces_behind ended before (x ∷ tail_of stop blanks last) (subst P all spaces)) in
              at_x (either (is_space x) (is_return ended x (tail_of stop blanks last)) last-one.0) other whole
            where
              at_x : (is_space x ≡ true) ⊎ (is_return ended x (tail_of stop blanks last) ≡ true) → is_blank x ≡ false → content ≡ (front ++ b ∷ before) ++ x ∷ [] → ⊥
              at_x (inl space) other whole = let bad : true ≡ false = sym space ∙ other in absurd cc
              at_x (inr r) other whole =
                  let p = not_return ended x (tail_of stop blanks last) r in
                  let ends : content ++ tail_of stop blanks last ≡ (front ++ b ∷ before) ++ 13 ∷ [] =
                  ap (λ (t : List ℕ). content ++ t) p.2 ∙ append-nil content ∙ whole ∙ ap (λ (c : ℕ). (front ++ b ∷ before) ++ c ∷ []) p.0
                  in at_last (front ++ b ∷ before) ends last refl p.2 p.1

  -- the signs of a line are those of what is left of it
  pub content_signs : IsContent → signs_on ended (content ++ tail_of stop blanks last) false 0 ≡ scan_of content false 0
  content_signs is = content_on ended (tail_of stop blanks last) (λ inside place. tail_on ended stop last blanks inside place is.ends is.blank) content (only_blanks is) false 0

-- the signs of a line are those of what the reader leaves of it, if its end is known
signs_before : (ended last : Bool) (bytes line : List ℕ) → bytes ≡ line ++ at_end last → Ends ended last → (last ≡ false → ended ≡ true → EndsOther (λ b. b == 13) bytes)
    → signs_on ended bytes false 0 ≡ scan_of (without_last 59 (without_blanks line)) false 0
signs_before ended last bytes line is ends no_return = go (blanks_left line) (last_left 59 refl (without_blanks line))
  where
    go : BlanksLeft line → LastLeft 59 (without_blanks line) → signs_on ended bytes false 0 ≡ scan_of (without_last 59 (without_blanks line)) false 0
    go (blanks, line-is, all, other) (inl (same, no-stop)) =
        let whole : bytes ≡ without_blanks line ++ tail_of false blanks last = is ∙ ap (λ (l : List ℕ). l ++ at_end last) line-is ∙ append_assoc (without_blanks line) blanks (at_end last) in
        let P : List ℕ → Type 0 = EndsOther (λ b. b == 13) in
        let content : IsContent ended false last (without_blanks line) blanks = record { ends = ends; blank = all; no_blank = λ s. other; no_stop = λ s. no-stop; no_return = λ l e. subst P whole (no_return l e) } in
        ap (λ (l : List ℕ). signs_on ended l false 0) whole ∙ content_signs ended false last (without_blanks line) blanks content ∙ ap (λ (l : List ℕ). scan_of l false 0) (sym same)
    go (blanks, line-is, all, other) (inr stop) =
        let c : List ℕ = without_last 59 (without_blanks line) in
        let whole : bytes ≡ c ++ tail_of true blanks last =
        is ∙ ap (λ (l : List ℕ). l ++ at_end last) line-is ∙ append_assoc (without_blanks line) blanks (at_end last) ∙ ap (λ (l : List ℕ). l ++ (blanks ++ at_end last)) stop
        ∙ append_assoc c (59 ∷ []) (blanks ++ at_end last)
        in
        let P : List ℕ → Type 0 = EndsOther (λ b. b == 13) in
        let content : IsContent ended true last c blanks = record { ends = ends; blank = all; no_blank = λ s. absurd cc; no_stop = λ s. absurd cc; no_return = λ l e. subst P whole (no_return l e) } in
        ap (λ (l : List ℕ). signs_on ended l false 0) whole ∙ content_signs ended true last c blanks content

-- the signs by the relation's `is_ignored` are the signs that the reader has
pub signs_are : (ended : Bool) (bytes : List ℕ) → signs_on ended bytes false 0 ≡ signs_of bytes ended
unfolding signs_of
signs_are false bytes = signs_before false false bytes bytes (sym (append-nil bytes)) (λ bad. absurd cc) (λ l bad. absurd cc)
signs_are true bytes = go (last_left 13 refl bytes)
  where
    go : LastLeft 13 bytes → signs_on true bytes false 0 ≡ scan_of (without_last 59 (without_blanks (without_last 13 bytes))) false 0
    go (inl (same, other)) = signs_before true false bytes (without_last 13 bytes) (sym same ∙ sym (append-nil (without_last 13 bytes))) (λ bad. absurd cc) (λ l e. other)
    go (inr is) = signs_before true true bytes (without_last 13 bytes) is (λ e. refl) (λ bad. absurd cc)
