-- The signs of a line of a tape by the grammar are those that the reader has; so are bad characters
-- and open comments. For LineSays, LongNumbers and Steps.
use Rattle.std.proofs.Common.{◌≡◌, ◌==◌, ℕ, ◌+◌, Bool, true, false, not, ◌&&◌, ◌||◌, List, [], ◌∷◌, ◌++◌, length, ◌⊎◌, inl, inr, refl, sym, ap, subst, ◌∙◌, append_assoc, arith}
use Rattle.std.specs.Char.{is_ascii_digit, is_ascii_uppercase, to_ascii_uppercase}
use Rattle.std.specs.List.{list_any}
use Rattle.std.proofs.lemmas.Bool.{eqb-true, or_parts}
use Rattle.line_text.specs.declared.sign.Sign.{Sign}
use Rattle.nc_text.specs.Lines.{Line}
use Rattle.line_text.specs.Signs.{Scan, add_sign, is_allowed, are_allowed, signs_of}
use Rattle.tape_relation.specs.Characters.{is_ignored, is_character, IsRemark, IsOutside, nothing, byte, comment, HasBadCharacter, EndsInComment, sign_at, AreSigns, ignored, counted, remark, left_open}
use Rattle.tape_relation.proofs.Ignored.{signs_on, signs_are}

-- `ended` says whether the line has a line feed.
module _ (ended : Bool) where
  -- The next two: in a comment each byte is passed, up to its `)` or to the end.
  in_remark : (text rest : List ℕ) (place : ℕ) → IsRemark text → signs_on ended (text ++ 41 ∷ rest) true place ≡ signs_on ended rest false (place + (length text + 1))
  in_remark [] rest place is = refl
  in_remark (b ∷ text) rest place is =
      let p = or_parts (b == 41) (list_any (λ c. c == 41) text) is in
      let there : (place + 1) + (length text + 1) ≡ place + (length (b ∷ text) + 1) = omega arith in
      rw p.0 (in_remark text rest (place + 1) p.1 ∙ ap (signs_on ended rest false) there)

  open_remark : (text : List ℕ) (place : ℕ) → IsRemark text → signs_on ended text true place ≡ record { list = []; unclosed = true }
  open_remark [] place is = refl
  open_remark (b ∷ text) place is = let p = or_parts (b == 41) (list_any (λ c. c == 41) text) is in rw p.0 (open_remark text (place + 1) p.1)

  -- The signs of a line are those that the grammar says.

  -- signs by the grammar are those that the reader has
  pub signs_read : (place : ℕ) (bytes : List ℕ) (signs : List Sign) → AreSigns ended place bytes signs → (signs_on ended bytes false place).list ≡ signs
  signs_read _ _ _ (nothing place) = refl
  signs_read _ _ _ (ignored place b bytes signs is rest) = rw is (go (b == 40) refl (signs_read (place + 1) bytes signs rest))
    where
      go : (t : Bool) → (b == 40) ≡ t → (signs_on ended bytes false (place + 1)).list ≡ signs → (signs_on ended bytes (b == 40) (place + 1)).list ≡ signs
      go true e later = let P : ℕ → Type 0 = λ c. is_ignored ended c bytes ≡ true in let bad : false ≡ true = subst P (eqb-true b 40 e) is in absurd cc
      go false e later = rw e later
  signs_read _ _ _ (counted place b bytes signs is other rest) = rw (is, other) (ap (λ (ss : List Sign). sign_at place (to_ascii_uppercase b) ∷ ss) (signs_read (place + 1) bytes signs rest))
  signs_read _ _ _ (remark place text bytes signs is rest) =
      let there : (place + 1) + (length text + 1) ≡ place + (length text + 2) = omega arith in
      ap (λ (s : Scan). sign_at place 40 ∷ s.list) (in_remark text bytes (place + 1) is ∙ ap (signs_on ended bytes false) there) ∙ ap (λ (ss : List Sign). sign_at place 40 ∷ ss) (signs_read (place + (length text + 2)) bytes signs rest)
  signs_read _ _ _ (left_open place text is) = ap (λ (s : Scan). sign_at place 40 ∷ s.list) (open_remark text (place + 1) is)

  -- an ignored byte opens no comment
  no_bracket : (b : ℕ) (bytes : List ℕ) → is_ignored ended b bytes ≡ true → (b == 40) ≡ false
  no_bracket b bytes is = go (b == 40) refl
    where
      go : (t : Bool) → (b == 40) ≡ t → (b == 40) ≡ false
      go true e = let P : ℕ → Type 0 = λ c. is_ignored ended c bytes ≡ true in let bad : false ≡ true = subst P (eqb-true b 40 e) is in absurd cc
      go false e = e

  -- the signs of bytes of which the first stands in a comment: none if the comment stays open, else
  -- those after its `)`
  abbrev Closes : ℕ → List ℕ → List Sign → Type 0
  Closes place bytes signs = (IsRemark bytes × (signs ≡ [])) ⊎ ((text : List ℕ) × (rest : List ℕ) × (bytes ≡ text ++ 41 ∷ rest) × IsRemark text × AreSigns ended (place + (length text + 1)) rest signs)

  -- bytes of which the first stands outside comments, or in one, have by the grammar the signs that
  -- the reader has
  abbrev Reads : List ℕ → Type 0
  Reads bytes = ((place : ℕ) → AreSigns ended place bytes (signs_on ended bytes false place).list) × ((place : ℕ) → Closes place bytes (signs_on ended bytes true place).list)

  -- The next three show `Reads`: a byte more outside comments, one more in a comment, and so all
  -- bytes.
  outside_reads : (b : ℕ) (bytes : List ℕ) → Reads bytes → (place : ℕ) → AreSigns ended place (b ∷ bytes) (signs_on ended (b ∷ bytes) false place).list
  outside_reads b bytes later place = go (is_ignored ended b bytes) refl (b == 40) refl
    where
      go : (i : Bool) → is_ignored ended b bytes ≡ i → (t : Bool) → (b == 40) ≡ t → AreSigns ended place (b ∷ bytes) (signs_on ended (b ∷ bytes) false place).list
      go true i t e = rw (i, no_bracket b bytes i) (ignored place b bytes (signs_on ended bytes false (place + 1)).list i (later.0 (place + 1)))
      go false i false e = rw (i, e) (counted place b bytes (signs_on ended bytes false (place + 1)).list i e (later.0 (place + 1)))
      go false i true e =
          let P : ℕ → Type 0 = λ c. AreSigns ended place (c ∷ bytes) (sign_at place (to_ascii_uppercase c) ∷ (signs_on ended bytes true (place + 1)).list) in
          rw (i, e) (subst P (sym (eqb-true b 40 e)) (close (later.1 (place + 1))))
        where
          close : Closes (place + 1) bytes (signs_on ended bytes true (place + 1)).list → AreSigns ended place (40 ∷ bytes) (sign_at place 40 ∷ (signs_on ended bytes true (place + 1)).list)
          close (inl (is, none)) = let Q : List Sign → Type 0 = λ ss. AreSigns ended place (40 ∷ bytes) (sign_at place 40 ∷ ss) in subst Q (sym none) (left_open place bytes is)
          close (inr (text, rest, is, r, signs)) =
              let all : List Sign = (signs_on ended bytes true (place + 1)).list in
              let Q : List ℕ → Type 0 = λ bs. AreSigns ended place (40 ∷ bs) (sign_at place 40 ∷ all) in
              let R : ℕ → Type 0 = λ n. AreSigns ended n rest all in
              let there : (place + 1) + (length text + 1) ≡ place + (length text + 2) = omega arith in
              subst Q (sym is) (remark place text rest all r (subst R there signs))

  within_reads : (b : ℕ) (bytes : List ℕ) → Reads bytes → (place : ℕ) → Closes place (b ∷ bytes) (signs_on ended (b ∷ bytes) true place).list
  within_reads b bytes later place = go (b == 41) refl (later.1 (place + 1))
    where
      go : (t : Bool) → (b == 41) ≡ t → Closes (place + 1) bytes (signs_on ended bytes true (place + 1)).list → Closes place (b ∷ bytes) (signs_on ended bytes (not (b == 41)) (place + 1)).list
      go true e c = rw e (inr ([], bytes, ap (λ (k : ℕ). k ∷ bytes) (eqb-true b 41 e), refl, later.0 (place + 1)))
      go false e (inl (is, none)) = rw e (inl (is, none))
      go false e (inr (text, rest, is, r, signs)) =
          let R : ℕ → Type 0 = λ n. AreSigns ended n rest (signs_on ended bytes true (place + 1)).list in
          let there : (place + 1) + (length text + 1) ≡ place + (length (b ∷ text) + 1) = omega arith in
          rw e (inr (b ∷ text, rest, ap (λ (l : List ℕ). b ∷ l) is, rw e r, subst R there signs))

  reads : (bytes : List ℕ) → Reads bytes
  reads [] = (λ place. nothing place, λ place. inl (refl, refl))
  reads (b ∷ bytes) = let later = reads bytes in (outside_reads b bytes later, within_reads b bytes later)

  -- the signs that the reader has are signs by the grammar
  pub signs_found : (bytes : List ℕ) (place : ℕ) → AreSigns ended place bytes (signs_on ended bytes false place).list
  signs_found bytes = (reads bytes).0

  -- What stands outside comments.

  -- this holds of what stands after some bytes in which no comment is left open
  abbrev Behind : (List ℕ → Type 0) → List ℕ → Type 0
  Behind P bytes = (front : List ℕ) × (back : List ℕ) × (bytes ≡ front ++ back) × IsOutside front × P back

  -- The next three: it holds after no bytes, after one byte more, and after one comment more.
  behind_here : (P : List ℕ → Type 0) (bytes : List ℕ) → P bytes → Behind P bytes
  behind_here P bytes p = ([], bytes, refl, nothing, p)

  behind_byte : (P : List ℕ → Type 0) (b : ℕ) (bytes : List ℕ) → (b == 40) ≡ false → Behind P bytes → Behind P (b ∷ bytes)
  behind_byte P b bytes other (front, back, is, out, p) = (b ∷ front, back, ap (λ (l : List ℕ). b ∷ l) is, byte b front other out, p)

  behind_remark : (P : List ℕ → Type 0) (text rest : List ℕ) → IsRemark text → Behind P rest → Behind P (40 ∷ (text ++ 41 ∷ rest))
  behind_remark P text rest r (front, back, is, out, p) =
      (40 ∷ (text ++ 41 ∷ front), back, ap (λ (l : List ℕ). 40 ∷ (text ++ 41 ∷ l)) is ∙ ap (λ (l : List ℕ). 40 ∷ l) (sym (append_assoc text (41 ∷ front) back)), comment text front r out, p)

  -- If the reader finds something in the signs, it is found by the grammar: outside comments, or
  -- after the comment in which the first byte stands.
  abbrev Finds : (List ℕ → Type 0) → (Scan → Type 0) → List ℕ → Type 0
  Finds P T bytes = ((place : ℕ) → T (signs_on ended bytes false place) → Behind P bytes)
      × ((place : ℕ) → T (signs_on ended bytes true place) → (IsRemark bytes × T (record { list = []; unclosed = true })) ⊎ ((text : List ℕ) × (rest : List ℕ) × (bytes ≡ text ++ 41 ∷ rest) × IsRemark text × Behind P rest))

  -- the step of `Finds` for a byte in a comment
  within_finds : (P : List ℕ → Type 0) (T : Scan → Type 0) (b : ℕ) (bytes : List ℕ) → Finds P T bytes → (place : ℕ) → T (signs_on ended (b ∷ bytes) true place)
      → (IsRemark (b ∷ bytes) × T (record { list = []; unclosed = true })) ⊎ ((text : List ℕ) × (rest : List ℕ) × (b ∷ bytes ≡ text ++ 41 ∷ rest) × IsRemark text × Behind P rest)
  within_finds P T b bytes later place t = go (b == 41) refl t
    where
      go : (u : Bool) → (b == 41) ≡ u → T (signs_on ended bytes (not u) (place + 1)) → (IsRemark (b ∷ bytes) × T (record { list = []; unclosed = true })) ⊎ ((text : List ℕ) × (rest : List ℕ) × (b ∷ bytes ≡ text ++ 41 ∷ rest) × IsRemark text × Behind P rest)
      go true e h = inr ([], bytes, ap (λ (k : ℕ). k ∷ bytes) (eqb-true b 41 e), refl, later.0 (place + 1) h)
      go false e h = more (later.1 (place + 1) h)
        where
          more : (IsRemark bytes × T (record { list = []; unclosed = true })) ⊎ ((text : List ℕ) × (rest : List ℕ) × (bytes ≡ text ++ 41 ∷ rest) × IsRemark text × Behind P rest)
              → (IsRemark (b ∷ bytes) × T (record { list = []; unclosed = true })) ⊎ ((text : List ℕ) × (rest : List ℕ) × (b ∷ bytes ≡ text ++ 41 ∷ rest) × IsRemark text × Behind P rest)
          more (inl (is, left)) = inl (rw e is, left)
          more (inr (text, rest, is, r, found)) = inr (b ∷ text, rest, ap (λ (l : List ℕ). b ∷ l) is, rw e r, found)

  -- here stands a byte that counts and is no character
  abbrev IsBadHere : List ℕ → Type 0
  IsBadHere back = (b : ℕ) × (behind : List ℕ) × (back ≡ b ∷ behind) × (is_character (to_ascii_uppercase b) ≡ false) × (is_ignored ended b behind ≡ false)

  -- here begins a comment that is not closed
  abbrev IsOpenHere : List ℕ → Type 0
  IsOpenHere back = (text : List ℕ) × (back ≡ 40 ∷ text) × IsRemark text

  -- some sign of the scan is no allowed byte
  abbrev HasBad : Scan → Type 0
  HasBad scan = are_allowed scan.list ≡ false

  -- the scan ends inside a comment
  abbrev IsLate : Scan → Type 0
  IsLate scan = scan.unclosed ≡ true

  -- The next two: the relation's characters are the bytes that the reader allows.
  or_chain : (a b c d e f g h i j k l m : Bool) → (a || (b || (c || (d || (e || (f || (g || (h || (i || (j || (k || (l || (m || false))))))))))))) ≡ (a || b || c || d || e || f || g || h || i || j || k || l || m)
  or_chain true b c d e f g h i j k l m = refl
  or_chain false true c d e f g h i j k l m = refl
  or_chain false false true d e f g h i j k l m = refl
  or_chain false false false true e f g h i j k l m = refl
  or_chain false false false false true f g h i j k l m = refl
  or_chain false false false false false true g h i j k l m = refl
  or_chain false false false false false false true h i j k l m = refl
  or_chain false false false false false false false true i j k l m = refl
  or_chain false false false false false false false false true j k l m = refl
  or_chain false false false false false false false false false true k l m = refl
  or_chain false false false false false false false false false false true l m = refl
  or_chain false false false false false false false false false false false true m = refl
  or_chain false false false false false false false false false false false false true = refl
  or_chain false false false false false false false false false false false false false = refl

  character_allowed : (b : ℕ) → is_character b ≡ is_allowed b
  character_allowed b = or_chain (is_ascii_uppercase b) (is_ascii_digit b) (b == 46) (b == 43) (b == 45) (b == 47) (b == 40) (b == 41) (b == 35) (b == 91) (b == 93) (b == 61) (b == 42)

  -- The next four: a bad character, and an open comment, that the reader finds are found by the
  -- grammar.
  outside_bad : (b : ℕ) (bytes : List ℕ) → Finds IsBadHere HasBad bytes → (place : ℕ) → HasBad (signs_on ended (b ∷ bytes) false place) → Behind IsBadHere (b ∷ bytes)
  outside_bad b bytes later place bad = go (is_ignored ended b bytes) refl (b == 40) refl bad
    where
      go : (i : Bool) → is_ignored ended b bytes ≡ i → (t : Bool) → (b == 40) ≡ t → HasBad (add_sign (not i) place b (signs_on ended bytes t (place + 1))) → Behind IsBadHere (b ∷ bytes)
      go true i true e h = let wrong : true ≡ false = sym e ∙ no_bracket b bytes i in absurd cc
      go true i false e h = behind_byte IsBadHere b bytes e (later.0 (place + 1) h)
      go false i false e h = at (is_allowed (to_ascii_uppercase b)) refl h
        where
          at : (a : Bool) → is_allowed (to_ascii_uppercase b) ≡ a → (a && are_allowed (signs_on ended bytes false (place + 1)).list) ≡ false → Behind IsBadHere (b ∷ bytes)
          at true a h = behind_byte IsBadHere b bytes e (later.0 (place + 1) h)
          at false a h = behind_here IsBadHere (b ∷ bytes) (b, bytes, refl, character_allowed (to_ascii_uppercase b) ∙ a, i)
      go false i true e h =
          let P : ℕ → Type 0 = λ c. (is_allowed (to_ascii_uppercase c) && are_allowed (signs_on ended bytes true (place + 1)).list) ≡ false in
          let Q : ℕ → Type 0 = λ c. Behind IsBadHere (c ∷ bytes) in
          subst Q (sym (eqb-true b 40 e)) (close (later.1 (place + 1) (subst P (eqb-true b 40 e) h)))
        where
          close : (IsRemark bytes × HasBad (record { list = []; unclosed = true })) ⊎ ((text : List ℕ) × (rest : List ℕ) × (bytes ≡ text ++ 41 ∷ rest) × IsRemark text × Behind IsBadHere rest) → Behind IsBadHere (40 ∷ bytes)
          close (inl (is, wrong)) = absurd cc
          close (inr (text, rest, is, r, found)) = let Q : List ℕ → Type 0 = λ bs. Behind IsBadHere (40 ∷ bs) in subst Q (sym is) (behind_remark IsBadHere text rest r found)

  finds_bad : (bytes : List ℕ) → Finds IsBadHere HasBad bytes
  finds_bad [] = (λ place h. absurd cc, λ place h. absurd cc)
  finds_bad (b ∷ bytes) = let later = finds_bad bytes in (outside_bad b bytes later, within_finds IsBadHere HasBad b bytes later)

  outside_open : (b : ℕ) (bytes : List ℕ) → Finds IsOpenHere IsLate bytes → (place : ℕ) → IsLate (signs_on ended (b ∷ bytes) false place) → Behind IsOpenHere (b ∷ bytes)
  outside_open b bytes later place late = go (not (is_ignored ended b bytes)) (b == 40) refl late
    where
      same : (a : Bool) (scan : Scan) → IsLate (add_sign a place b scan) → IsLate scan
      same true scan h = h
      same false scan h = h

      go : (a t : Bool) → (b == 40) ≡ t → IsLate (add_sign a place b (signs_on ended bytes t (place + 1))) → Behind IsOpenHere (b ∷ bytes)
      go a false e h = behind_byte IsOpenHere b bytes e (later.0 (place + 1) (same a (signs_on ended bytes false (place + 1)) h))
      go a true e h =
          let Q : ℕ → Type 0 = λ c. Behind IsOpenHere (c ∷ bytes) in subst Q (sym (eqb-true b 40 e)) (close (later.1 (place + 1) (same a (signs_on ended bytes true (place + 1)) h)))
        where
          close : (IsRemark bytes × IsLate (record { list = []; unclosed = true })) ⊎ ((text : List ℕ) × (rest : List ℕ) × (bytes ≡ text ++ 41 ∷ rest) × IsRemark text × Behind IsOpenHere rest) → Behind IsOpenHere (40 ∷ bytes)
          close (inl (is, left)) = behind_here IsOpenHere (40 ∷ bytes) (bytes, refl, is)
          close (inr (text, rest, is, r, found)) = let Q : List ℕ → Type 0 = λ bs. Behind IsOpenHere (40 ∷ bs) in subst Q (sym is) (behind_remark IsOpenHere text rest r found)

  finds_open : (bytes : List ℕ) → Finds IsOpenHere IsLate bytes
  finds_open [] = (λ place h. absurd cc, λ place h. inl (refl, refl))
  finds_open (b ∷ bytes) = let later = finds_open bytes in (outside_open b bytes later, within_finds IsOpenHere IsLate b bytes later)

  -- what the reader finds after bytes in which no comment is left open, it finds in the whole
  stays : (T : Scan → Type 0) → ((a : Bool) (place b : ℕ) (scan : Scan) → T scan → T (add_sign a place b scan)) → (front : List ℕ) → IsOutside front → (back : List ℕ) → ((place : ℕ) → T (signs_on ended back false place)) → (place : ℕ) → T (signs_on ended (front ++ back) false place)
  stays T keeps _ nothing back here place = here place
  stays T keeps _ (byte b bytes other out) back here place =
      rw other (keeps (not (is_ignored ended b (bytes ++ back))) place b (signs_on ended (bytes ++ back) false (place + 1)) (stays T keeps bytes out back here (place + 1)))
  stays T keeps _ (comment text bytes r out) back here place =
      let whole : signs_on ended ((text ++ 41 ∷ bytes) ++ back) true (place + 1) ≡ signs_on ended (bytes ++ back) false ((place + 1) + (length text + 1)) =
      ap (λ (l : List ℕ). signs_on ended l true (place + 1)) (append_assoc text (41 ∷ bytes) back) ∙ in_remark text (bytes ++ back) (place + 1) r
      in
      keeps true place 40 (signs_on ended ((text ++ 41 ∷ bytes) ++ back) true (place + 1)) (subst T (sym whole) (stays T keeps bytes out back here ((place + 1) + (length text + 1))))

-- a sign that is refused stays among the signs
bad_kept : (a : Bool) (place b : ℕ) (scan : Scan) → are_allowed scan.list ≡ false → are_allowed (add_sign a place b scan).list ≡ false
bad_kept true place b scan h = go (is_allowed (to_ascii_uppercase b)) h
  where
    go : (t : Bool) → are_allowed scan.list ≡ false → (t && are_allowed scan.list) ≡ false
    go true h = h
    go false h = refl
bad_kept false place b scan h = h

-- a comment that is open at the end stays open
late_kept : (a : Bool) (place b : ℕ) (scan : Scan) → scan.unclosed ≡ true → (add_sign a place b scan).unclosed ≡ true
late_kept true place b scan h = h
late_kept false place b scan h = h

-- what is no character opens no comment, byte 40
not_bracket : (b : ℕ) → is_character (to_ascii_uppercase b) ≡ false → (b == 40) ≡ false
not_bracket b h = go (b == 40) refl
  where
    go : (t : Bool) → (b == 40) ≡ t → (b == 40) ≡ false
    go true e = let P : ℕ → Type 0 = λ c. is_character (to_ascii_uppercase c) ≡ false in let bad : true ≡ false = subst P (eqb-true b 40 e) h in absurd cc
    go false e = e

-- A line has a bad character where the reader finds one, and ends in a comment where it finds that.

-- a line with a byte that is no character has a sign that the reader refuses
pub bad_read : (line : Line) → HasBadCharacter line → are_allowed (signs_of line.bytes line.ended).list ≡ false
bad_read line (front, b, back, is, out, other, counts) =
    let here : (place : ℕ) → are_allowed (signs_on line.ended (b ∷ back) false place).list ≡ false = λ place. rw (counts, not_bracket b other, sym (character_allowed line.ended (to_ascii_uppercase b)), other) refl in
    sym (ap (λ (s : Scan). are_allowed s.list) (signs_are line.ended line.bytes)) ∙ ap (λ (l : List ℕ). are_allowed (signs_on line.ended l false 0).list) is
    ∙ stays line.ended (λ s. are_allowed s.list ≡ false) bad_kept front out (b ∷ back) here 0

-- a line with a sign that the reader refuses has a byte that is no character
pub bad_found : (line : Line) → are_allowed (signs_of line.bytes line.ended).list ≡ false → HasBadCharacter line
bad_found line h = go ((finds_bad line.ended line.bytes).0 0 (ap (λ (s : Scan). are_allowed s.list) (signs_are line.ended line.bytes) ∙ h))
  where
    go : Behind line.ended (IsBadHere line.ended) line.bytes → HasBadCharacter line
    go (front, back, is, out, (b, behind, back-is, other, counts)) = (front, b, behind, is ∙ ap (λ (l : List ℕ). front ++ l) back-is, out, other, counts)

-- a line that ends in a comment by the grammar ends in one to the reader
pub open_read : (line : Line) → EndsInComment line → (signs_of line.bytes line.ended).unclosed ≡ true
open_read line (front, text, is, out, r) =
    sym (ap (λ (s : Scan). s.unclosed) (signs_are line.ended line.bytes)) ∙ ap (λ (l : List ℕ). (signs_on line.ended l false 0).unclosed) is
    ∙ stays line.ended (λ s. s.unclosed ≡ true) late_kept front out (40 ∷ text) (λ place. ap (λ (s : Scan). s.unclosed) (open_remark line.ended text (place + 1) r)) 0

-- a line that ends in a comment to the reader ends in one by the grammar
pub open_found : (line : Line) → (signs_of line.bytes line.ended).unclosed ≡ true → EndsInComment line
open_found line h = go ((finds_open line.ended line.bytes).0 0 (ap (λ (s : Scan). s.unclosed) (signs_are line.ended line.bytes) ∙ h))
  where
    go : Behind line.ended (IsOpenHere line.ended) line.bytes → EndsInComment line
    go (front, back, is, out, (text, back-is, r)) = (front, text, is ∙ ap (λ (l : List ℕ). front ++ l) back-is, out, r)

-- the reader's signs of a line are its signs by the grammar
pub the_signs : (line : Line) → AreSigns line.ended 0 line.bytes (signs_of line.bytes line.ended).list
the_signs line = let P : Scan → Type 0 = λ s. AreSigns line.ended 0 line.bytes s.list in subst P (signs_are line.ended line.bytes) (signs_found line.ended line.bytes 0)

-- a line has no other signs by the grammar than those that the reader has
pub signs_same : (line : Line) (signs : List Sign) → AreSigns line.ended 0 line.bytes signs → (signs_of line.bytes line.ended).list ≡ signs
signs_same line signs are = sym (ap (λ (s : Scan). s.list) (signs_are line.ended line.bytes)) ∙ signs_read line.ended 0 line.bytes signs are
