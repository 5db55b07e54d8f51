-- A printed line spells its words.
use Rattle.std.proofs.Common.{◌≡◌, ◌≢◌, ℕ, ◌+◌, ◌<◌, ◌==◌, Bool, true, false, List, [], ◌∷◌, ◌++◌, length, None, refl, ap, sym, subst, arith}
use Rattle.std.proofs.lemmas.Bool.{eqb-true}
use Rattle.std.proofs.lemmas.Bool.Decides.{nat_tests}
use Rattle.std.specs.Char.{to_ascii_uppercase}
use Rattle.std.specs.List.{list_any, list_all}
use Rattle.tape_relation.specs.Value.{IsValue}
use Rattle.line_text.specs.declared.sign.Sign.{Sign}
use Rattle.line_text.specs.declared.piece.Piece.{Piece}
use Rattle.tape_relation.specs.Characters.{is_ignored, AreSigns, nothing, ignored, counted, remark, IsRemark, is_comment, bytes_of, sign_at}
use Rattle.tape_relation.specs.LineGrammar.{IsLine, block, worded, WordBlock, has_program_word}
use Rattle.tape_relation.specs.LineGrammar as grammar
use Rattle.tape_relation.specs.Words.{word_at, AreWords}
use Rattle.printed_lines.specs.Printed.{PrintedWord, IsPlainByte, ArePlainBytes, IsPrintedWord, ArePrintedWords, behind_text, line_text, IsTail, words_told}

-- numbers that differ test as different
differs : (a b : ℕ) → a ≢ b → (a == b) ≡ false
differs a b apart = go (a == b) refl
  where
    go : (t : Bool) → (a == b) ≡ t → t ≡ false
    go true e = absurd (apart (eqb-true a b e))
    go false e = refl

-- a plain byte counts, opens no comment, and is its own capital
counts : (b : ℕ) (behind : List ℕ) → IsPlainByte b → is_ignored true b behind ≡ false
counts b behind is =
    let not_space : (b == 32) ≡ false = differs b 32 (λ e. omega (arith, is.from, e)) in
    let not_tab : (b == 9) ≡ false = differs b 9 (λ e. omega (arith, is.from, e)) in
    let not_return : (b == 13) ≡ false = differs b 13 (λ e. omega (arith, is.from, e)) in
    let not_end : (b == 59) ≡ false = differs b 59 is.no_end in
    rw (not_space, not_tab, not_return, not_end) refl

opens_none : (b : ℕ) → IsPlainByte b → (b == 40) ≡ false
opens_none b is = differs b 40 (λ e. omega (arith, is.from, e))

own_capital : (b : ℕ) → IsPlainByte b → to_ascii_uppercase b ≡ b
own_capital b is = grind (arith, nat_tests)

-- a plain byte in front of signs is a sign in front of them
onto : (place b : ℕ) (bytes : List ℕ) (signs : List Sign) → IsPlainByte b → AreSigns true (place + 1) bytes signs
    → AreSigns true place (b ∷ bytes) (sign_at place b ∷ signs)
onto place b bytes signs is rest =
    subst (λ c. AreSigns true place (b ∷ bytes) (sign_at place c ∷ signs)) (own_capital b is)
    (counted place b bytes signs (counts b bytes is) (opens_none b is) rest)

-- plain bytes in front of others are as many signs in front of theirs
pub text_signs : (Q : List Sign → Type 0) (text rest : List ℕ) → ArePlainBytes text
    → ((place : ℕ) → (signs : List Sign) × AreSigns true place rest signs × Q signs)
    → (place : ℕ) → (value : List Sign) × (signs : List Sign) × AreSigns true place (text ++ rest) (value ++ signs) × (bytes_of value ≡ text) × (list_any is_comment value ≡ false) × Q signs
text_signs Q [] rest are behind place =
    let b = behind place in ([], b.0, b.1, refl, refl, b.2)
text_signs Q (b ∷ text) rest are behind place =
    let r = text_signs Q text rest are.1 behind (place + 1) in
    (sign_at place b ∷ r.0, r.1, onto place b (text ++ rest) (r.0 ++ r.1) are.0 r.2, ap (λ bs. b ∷ bs) r.3, rw (opens_none b are.0, r.4) refl, r.5)

-- signs that are not none are some and a last one
last_sign : (value : List Sign) → 0 < length (bytes_of value) → (front : List Sign) × (last : Sign) × (value ≡ front ++ last ∷ [])
last_sign [] some = absurd (omega (arith, some))
last_sign (s ∷ []) some = ([], s, refl)
last_sign (s ∷ t ∷ value) some =
    let r = last_sign (t ∷ value) (omega arith) in (s ∷ r.0, r.1, ap (λ ss. s ∷ ss) r.2)

-- what the signs behind a word are: comments, and then the words that follow
abbrev Follows : List PrintedWord → List Sign → Type 0
Follows ws signs = (comments : List Sign) × (others : List Sign) × (words : List Piece) × (signs ≡ comments ++ others)
    × (list_all is_comment comments ≡ true) × AreWords others words × (words_told words ≡ ws) × (has_program_word words ≡ false)

-- a word and what follows it are words
spelled : (w : PrintedWord) (ws : List PrintedWord) → IsPrintedWord w → (rest : List ℕ)
    → ((place : ℕ) → (signs : List Sign) × AreSigns true place rest signs × Follows ws signs)
    → (place : ℕ) → (others : List Sign) × (words : List Piece) × AreSigns true place (w.letter ∷ (w.text ++ rest)) others
    × AreWords others words × (words_told words ≡ w ∷ ws) × (has_program_word words ≡ false)
spelled w ws is rest behind place =
    let t = text_signs (Follows ws) w.text rest is.bytes behind (place + 1) in
    let f = t.5 in
    let some : 0 < length (bytes_of t.0) = subst (λ bs. 0 < length bs) (sym t.3) is.some in
    let l = last_sign t.0 some in
    let letter = sign_at place w.letter in
    let word = word_at letter (l.1.place + 1) t.0 in (
      letter ∷ (t.0 ++ t.1),
      word ∷ f.2,
      onto place w.letter (w.text ++ rest) (t.0 ++ t.1) is.plain t.2,
      (
        letter,
        t.0,
        f.0,
        f.1,
        ap (λ ss. letter ∷ (t.0 ++ ss)) f.3,
        is.letter,
        subst IsValue (sym t.3) is.value,
        t.4,
        f.4,
        record { front = l.0; last = l.1; value_is = l.2; word_is = refl },
        f.5,
      ),
      told w ws t.0 f.2 t.3 f.6,
      rw (differs w.letter 79 is.no_program, f.7) refl,
    )
  where
    told : (w : PrintedWord) (ws : List PrintedWord) (value : List Sign) (words : List Piece) → bytes_of value ≡ w.text → words_told words ≡ ws
        → record { letter = w.letter; text = bytes_of value } ∷ words_told words ≡ w ∷ ws
    told w ws value words e f = rw (e, f) refl

-- what stands behind a word follows it
follows : (tail : List ℕ) → IsTail tail → (ws : List PrintedWord) → ArePrintedWords ws
    → (place : ℕ) → (signs : List Sign) × AreSigns true place (behind_text tail ws) signs × Follows ws signs
follows tail ends [] are place =
    let t = ends place in (t.0, t.1, (t.0, [], [], sym (append_none t.0), t.2, refl, refl, refl))
  where
    append_none : (signs : List Sign) → signs ++ [] ≡ signs
    append_none [] = refl
    append_none (s ∷ signs) = ap (λ ss. s ∷ ss) (append_none signs)
follows tail ends (w ∷ ws) are place =
    let s = spelled w ws are.0 (behind_text tail ws) (follows tail ends ws are.1) (place + 1) in
    (s.0, ignored place 32 (w.letter ∷ (w.text ++ behind_text tail ws)) s.0 refl s.2, ([], s.0, s.1, refl, refl, s.3, s.4, s.5))

-- a printed line is a block of its words
pub line_is : (tail : List ℕ) (w : PrintedWord) (ws : List PrintedWord) → IsTail tail → IsPrintedWord w → ArePrintedWords ws
    → (words : List Piece) × IsLine (record { bytes = line_text tail w ws; ended = true }) None (WordBlock words)
    × (words_told words ≡ w ∷ ws)
line_is tail w ws ends is are =
    let s = spelled w ws is (behind_text tail ws) (follows tail ends ws are) 0 in
    (s.1, (s.0, s.2, block [] [] [] s.0 None (WordBlock s.1) refl grammar.none refl (longer s.0 s.1 s.3 s.4) (worded None s.0 s.1 s.3 s.5)), s.4)
  where
    longer : (signs : List Sign) (words : List Piece) → AreWords signs words → words_told words ≡ w ∷ ws → 0 < length signs
    longer signs [] spell told = absurd cc
    longer signs (p ∷ ps) spell told = rw (spell.4) (omega arith)

-- no tail is one
pub none_is : IsTail []
none_is place = ([], nothing place, refl)

-- a comment behind a blank is one
pub comment_is : (text : List ℕ) → IsRemark text → IsTail (32 ∷ 40 ∷ (text ++ 41 ∷ []))
comment_is text is place =
    let open_at = place + 1 in (
      sign_at open_at 40 ∷ [],
      ignored place 32 (40 ∷ (text ++ 41 ∷ [])) (sign_at open_at 40 ∷ []) refl
          (remark open_at text [] [] is (nothing (open_at + (length text + 2)))),
      refl,
    )
