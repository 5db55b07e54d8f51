-- What a text of edits gives, line by line: for the law of src/laws.rt.
use Rattle.std.proofs.Common.{◌≡◌, ◌⊎◌, inl, inr, ⊎_elim, ◌+◌, ◌≤◌, ◌<◌, ◌++◌, ℕ, nat_lt, Bool, true, false, List, [], ◌∷◌, Option, Some, None, Ok, Err, length, map, append-nil, append_assoc, length-append, refl, sym, ap, subst, arith, ◌∙◌}
use Rattle.std.specs.Prelude.{if◌then◌else◌}
use Rattle.std.specs.Str.Lines.{lines}
use Rattle.edit_texts.specs.declared.edit_list.PathEdit.{PathEdit}
use Rattle.edit_texts.specs.declared.entry.Entry.{Entry}
use Rattle.edit_texts.specs.declared.entry.Entry.TheVariants as says
use Rattle.edit_texts.specs.Lines.{line_says}
use Rattle.edit_texts.specs.Edits.{with_said, or_refused, edits_from, edits_of}
use Rattle.edit_texts.specs.Given.{edits_in, AreAllowed, AreEditsOf, IsFirstBad}

-- each line is allowed, and this is what they say
abbrev Said : List (List ℕ) → List Entry → Type 0
Said texts said = map line_says texts ≡ map Some said

-- an edit after fewer than 64 is allowed and stands at the end
one_more : (edits : List PathEdit) (edit : PathEdit) → length edits < 64 → with_said edits (Some (says.Edit edit)) ≡ Some (edits ++ edit ∷ [])
one_more edits edit few = let less : nat_lt (length edits) 64 ≡ true = grind arith in rw less refl

-- Lines that are allowed are passed, and their edits stand after those before.
through : (texts rest : List (List ℕ)) (said : List Entry) (number : ℕ) (edits : List PathEdit) → Said texts said
    → length edits + length (edits_in said) ≤ 64
    → edits_from (texts ++ rest) number edits ≡ edits_from rest (number + length texts) (edits ++ edits_in said)
through [] rest [] number edits are few =
    let place : number ≡ number + length {A = List ℕ} [] = omega arith in
    ap (λ n. edits_from rest n edits) place ∙ ap (edits_from rest (number + length {A = List ℕ} [])) (sym (append-nil edits))
through [] rest (one ∷ said) number edits are few = absurd cc
through (line ∷ texts) rest [] number edits are few = absurd cc
through (line ∷ texts) rest (says.Nothing ∷ said) number edits are few =
    let here : line_says line ≡ Some says.Nothing = cc in
    let behind : Said texts said = cc in
    let next : number + 1 + length texts ≡ number + length (line ∷ texts) = omega arith in
    ap (λ s. or_refused number (with_said edits s) (edits_from (texts ++ rest) (number + 1))) here
    ∙ through texts rest said (number + 1) edits behind few ∙ ap (λ n. edits_from rest n (edits ++ edits_in said)) next
through (line ∷ texts) rest (says.Edit edit ∷ said) number edits are few =
    let here : line_says line ≡ Some (says.Edit edit) = cc in
    let behind : Said texts said = cc in
    let next : number + 1 + length texts ≡ number + length (line ∷ texts) = omega arith in
    let grown : length (edits ++ edit ∷ []) ≡ length edits + 1 = length-append edits (edit ∷ []) in
    ap (λ s. or_refused number (with_said edits s) (edits_from (texts ++ rest) (number + 1))) here
    ∙ ap (λ w. or_refused number w (edits_from (texts ++ rest) (number + 1))) (one_more edits edit (omega (arith, few)))
    ∙ through texts rest said (number + 1) (edits ++ edit ∷ []) behind (omega (arith, few, grown))
    ∙ ap (λ n. edits_from rest n ((edits ++ edit ∷ []) ++ edits_in said)) next
    ∙ ap (edits_from rest (number + length (line ∷ texts))) (append_assoc edits (edit ∷ []) (edits_in said))

-- all lines are allowed after so many edits
record Whole (texts : List (List ℕ)) (before : ℕ) : Type 0 where
  -- what the lines say
  said : List Entry
  -- each line is allowed and says that
  are : Said texts said
  -- with those before there are 64 edits at most
  few : before + length (edits_in said) ≤ 64

-- one of the lines is the first that is not allowed after so many edits
record Broken (texts : List (List ℕ)) (before : ℕ) : Type 0 where
  -- the lines before the bad one, which are allowed
  front : List (List ℕ)
  -- the bad line
  line : List ℕ
  -- the lines after the bad one
  after : List (List ℕ)
  -- these are all lines
  texts_are : texts ≡ front ++ line ∷ after
  -- what the lines before the bad one say
  said : List Entry
  -- each of them is allowed and says that
  are : Said front said
  -- with those before there are 64 edits at most
  few : before + length (edits_in said) ≤ 64
  -- the bad line says nothing that is allowed, or it is an edit too many
  bad : (line_says line ≡ None)
      ⊎ ((edit : PathEdit) × (line_says line ≡ Some (says.Edit edit)) × (before + length (edits_in said) ≡ 64))

-- with a blank line or a comment in front, lines are allowed or not as they are without it
behind_nothing : (line : List ℕ) (texts : List (List ℕ)) (before : ℕ) → line_says line ≡ Some says.Nothing
    → Whole texts before ⊎ Broken texts before → Whole (line ∷ texts) before ⊎ Broken (line ∷ texts) before
behind_nothing line texts before here (inl whole) = inl (record {
  said = says.Nothing ∷ whole.said;
  are = ap (λ s. s ∷ map line_says texts) here ∙ ap (λ l. Some says.Nothing ∷ l) whole.are;
  few = whole.few;
})
behind_nothing line texts before here (inr broken) = inr (record {
  front = line ∷ broken.front;
  line = broken.line;
  after = broken.after;
  texts_are = ap (λ l. line ∷ l) broken.texts_are;
  said = says.Nothing ∷ broken.said;
  are = ap (λ s. s ∷ map line_says broken.front) here ∙ ap (λ l. Some says.Nothing ∷ l) broken.are;
  few = broken.few;
  bad = broken.bad;
})

-- with an edit in front, lines are allowed or not as they are after one edit more
behind_edit : (line : List ℕ) (edit : PathEdit) (texts : List (List ℕ)) (before : ℕ) → line_says line ≡ Some (says.Edit edit)
    → Whole texts (before + 1) ⊎ Broken texts (before + 1) → Whole (line ∷ texts) before ⊎ Broken (line ∷ texts) before
behind_edit line edit texts before here (inl whole) = inl (record {
  said = says.Edit edit ∷ whole.said;
  are = ap (λ s. s ∷ map line_says texts) here ∙ ap (λ l. Some (says.Edit edit) ∷ l) whole.are;
  few = omega (arith, whole.few);
})
behind_edit line edit texts before here (inr broken) = inr (record {
  front = line ∷ broken.front;
  line = broken.line;
  after = broken.after;
  texts_are = ap (λ l. line ∷ l) broken.texts_are;
  said = says.Edit edit ∷ broken.said;
  are = ap (λ s. s ∷ map line_says broken.front) here ∙ ap (λ l. Some (says.Edit edit) ∷ l) broken.are;
  few = omega (arith, broken.few);
  bad = ⊎_elim (λ none. inl none) (λ more. inr (more.0, more.1, omega (arith, more.2))) broken.bad;
})

-- Lines are all allowed, or one of them is the first that is not.
sorted : (texts : List (List ℕ)) (before : ℕ) → before ≤ 64 → Whole texts before ⊎ Broken texts before
sorted [] before few = inl (record { said = []; are = refl; few = omega (arith, few) })
sorted (line ∷ texts) before few = go (line_says line) refl (λ more le. sorted texts more le)
  where
    counted : (edit : PathEdit) → line_says line ≡ Some (says.Edit edit) → (full : Bool) → nat_lt before 64 ≡ full
        → ((more : ℕ) → more ≤ 64 → Whole texts more ⊎ Broken texts more) → Whole (line ∷ texts) before ⊎ Broken (line ∷ texts) before
    counted edit here true less rest = behind_edit line edit texts before here (rest (before + 1) (grind arith))
    counted edit here false less rest = inr (record {
      front = [];
      line = line;
      after = texts;
      texts_are = refl;
      said = [];
      are = refl;
      few = omega (arith, few);
      bad = inr (edit, here, grind arith);
    })

    go : (said : Option Entry) → line_says line ≡ said → ((more : ℕ) → more ≤ 64 → Whole texts more ⊎ Broken texts more)
        → Whole (line ∷ texts) before ⊎ Broken (line ∷ texts) before
    go None here rest = inr (record {
      front = [];
      line = line;
      after = texts;
      texts_are = refl;
      said = [];
      are = refl;
      few = omega (arith, few);
      bad = inl here;
    })
    go (Some says.Nothing) here rest = behind_nothing line texts before here (rest before few)
    go (Some (says.Edit edit)) here rest = counted edit here (nat_lt before 64) refl rest

-- if the next line is not allowed, its number is the answer
refused_at : (line : List ℕ) (after : List (List ℕ)) (number : ℕ) (edits : List PathEdit)
    → ((line_says line ≡ None) ⊎ ((edit : PathEdit) × (line_says line ≡ Some (says.Edit edit)) × (length edits ≡ 64)))
    → edits_from (line ∷ after) number edits ≡ Err number
refused_at line after number edits (inl none) =
    ap (λ s. or_refused number (with_said edits s) (edits_from after (number + 1))) none
refused_at line after number edits (inr more) =
    let full : nat_lt (length edits) 64 ≡ false = rw (more.2) refl in
    ap (λ s. or_refused number (with_said edits s) (edits_from after (number + 1))) more.1
    ∙ ap (λ (b : Bool). or_refused number (if b then Some (edits ++ more.0 ∷ []) else None) (edits_from after (number + 1))) full

-- a text whose lines are all allowed, with 64 edits at most, gives these edits
given_whole : (text : List ℕ) (said : List Entry) → AreAllowed (lines text) said → edits_of text ≡ Ok (edits_in said)
unfolding edits_of
given_whole text said all =
    ap (λ (l : List (List ℕ)). edits_from l 1 []) (sym (append-nil (lines text))) ∙ through (lines text) [] said 1 [] all.are (omega (arith, all.few))

-- a text with a first bad line is refused with the number of that line
pub are_refused : (text : List ℕ) (number : ℕ) → IsFirstBad text number → edits_of text ≡ Err number
unfolding edits_of
are_refused text number first =
    let place : 1 + length first.before ≡ number = omega (arith, first.number_is) in
    ap (λ (l : List (List ℕ)). edits_from l 1 []) first.are ∙ through first.before (first.line ∷ first.after) first.said 1 [] first.allowed.are (omega (arith, first.allowed.few))
    ∙ refused_at first.line first.after (1 + length first.before) (edits_in first.said) first.bad ∙ ap (λ n. Err n) place

-- a line that is the first bad one has a number, counted from 1
first_bad : (text : List ℕ) → Broken (lines text) 0 → (number : ℕ) × IsFirstBad text number
first_bad text broken = (
  length broken.front + 1,
  record {
    before = broken.front;
    line = broken.line;
    after = broken.after;
    are = broken.texts_are;
    number_is = refl;
    said = broken.said;
    allowed = record { are = broken.are; few = omega (arith, broken.few) };
    bad = ⊎_elim (λ none. inl none) (λ more. inr (more.0, more.1, omega (arith, more.2))) broken.bad;
  },
)

-- a text whose lines are all allowed gives their edits
pub are_given : (text : List ℕ) (edits : List PathEdit) → AreEditsOf text edits → edits_of text ≡ Ok edits
are_given text edits (said, all, is) = given_whole text said all ∙ ap (λ l. Ok l) (sym is)

-- if a text gives edits, its lines are all allowed and these are their edits
pub is_given : (text : List ℕ) (edits : List PathEdit) → edits_of text ≡ Ok edits → AreEditsOf text edits
is_given text edits is = go (sorted (lines text) 0 (omega arith))
  where
    go : Whole (lines text) 0 ⊎ Broken (lines text) 0 → AreEditsOf text edits
    go (inl whole) =
        let all : AreAllowed (lines text) whole.said = record { are = whole.are; few = omega (arith, whole.few) } in
        let same : Ok edits ≡ Ok (edits_in whole.said) = sym is ∙ given_whole text whole.said all in
        (whole.said, all, cc)
    go (inr broken) =
        let first = first_bad text broken in
        let clash : Ok edits ≡ Err first.0 = sym is ∙ are_refused text first.0 first.1 in
        absurd cc

-- if a text is refused with a number, that is the number of its first bad line
pub is_refused : (text : List ℕ) (number : ℕ) → edits_of text ≡ Err number → IsFirstBad text number
is_refused text number is = go (sorted (lines text) 0 (omega arith))
  where
    go : Whole (lines text) 0 ⊎ Broken (lines text) 0 → IsFirstBad text number
    go (inl whole) =
        let all : AreAllowed (lines text) whole.said = record { are = whole.are; few = omega (arith, whole.few) } in
        let clash : Ok (edits_in whole.said) ≡ Err number = sym (given_whole text whole.said all) ∙ is in
        absurd cc
    go (inr broken) =
        let first = first_bad text broken in
        let same : Err first.0 ≡ Err number = sym (are_refused text first.0 first.1) ∙ is in
        let numbers : first.0 ≡ number = cc in
        subst (IsFirstBad text) numbers first.1
