-- What the reader takes for the value of a tape's word is one of the grammar, and the other way
-- round. For the law `a_value_has_the_grammar` (src/law.rt), and for Cuts, Heads and Statements.
use Rattle.std.proofs.Common.{◌≡◌, ℕ, ◌+◌, ◌-◌, ◌<◌, ◌==◌, Bool, true, false, cond, ◌&&◌, ◌||◌, List, [], ◌∷◌, ◌++◌, length, ◌⊎◌, inl, inr, refl, ap, sym, subst, ◌∙◌, arith}
use Rattle.std.specs.Char.{is_ascii_digit}
use Rattle.std.specs.List.{list_all}
use Rattle.std.proofs.lemmas.Bool.{eqb-true, eq-eqb}
use Rattle.std.proofs.lemmas.List.{nil_from_length}
use Rattle.nc_number.specs.Literals.{is_literal, behind_sign}
use Rattle.nc_number.proofs.Bools.{both, or_right}
use Rattle.line_text.specs.Values.{closes, is_variable, is_reference, is_value}
use Rattle.tape_relation.specs.Numbers.{IsSign}
use Rattle.tape_relation.specs.Value.{times, IsBracketed, IsVariable, IsValue}
use Rattle.tape_relation.proofs.LiteralParts.{signed, literal_found, literal_read}

-- how often a byte stands in a text with one byte more in front
times_cons : (k b : ℕ) (text : List ℕ) (t : Bool) → (b == k) ≡ t → times k (b ∷ text) ≡ cond t 1 0 + times k text
times_cons k b text true e = rw e refl
times_cons k b text false e = rw e (let z : times k text ≡ 0 + times k text = omega arith in z)

-- so many brackets are open before the text, and the last of them closes at its very end
record IsClosing (depth : ℕ) (text : List ℕ) : Type 0 where
  -- the text without its last byte
  inner : List ℕ
  -- the last byte is `]` (93)
  text_is : text ≡ inner ++ 93 ∷ []
  -- before the last byte, all brackets but one are closed; 91 is `[`
  same : times 91 inner + depth ≡ times 93 inner + 1
  -- up to any place before the last byte, a bracket is still open
  open_first : (front back : List ℕ) → inner ≡ front ++ back → times 93 front < times 91 front + depth

-- The next two are the steps of `closed`: a byte more in front, and no bytes.
extend : (b depth behind : ℕ) (text : List ℕ) (u v : Bool) → (b == 91) ≡ u → (b == 93) ≡ v → 0 < depth → cond u 1 0 + depth ≡ cond v 1 0 + behind → IsClosing behind text → IsClosing depth (b ∷ text)
extend b depth behind text u v e f some count c =
    let x = times_cons 91 b c.inner u e in
    let y = times_cons 93 b c.inner v f in
    let z = c.same in record {
      inner = b ∷ c.inner;
      text_is = ap (λ (bs : List ℕ). b ∷ bs) c.text_is;
      same = omega arith;
      open_first = fronts;
    }
  where
    fronts : (front back : List ℕ) → b ∷ c.inner ≡ front ++ back → times 93 front < times 91 front + depth
    fronts [] back is = omega arith
    fronts (first ∷ front) back is =
        let same : b ≡ first = cc in
        let rest : c.inner ≡ front ++ back = cc in
        let later = c.open_first front back rest in
        let x = times_cons 91 b front u e in
        let y = times_cons 93 b front v f in
        let here : times 93 (b ∷ front) < times 91 (b ∷ front) + depth = omega arith in
        let P : ℕ → Type 0 = λ k. times 93 (k ∷ front) < times 91 (k ∷ front) + depth in subst P same here

no_front : (depth : ℕ) → 0 < depth → (front back : List ℕ) → ◌≡◌ {A = List ℕ} [] (front ++ back) → times 93 front < times 91 front + depth
no_front depth some [] back e = omega arith
no_front depth some (b ∷ front) back e = absurd cc

-- a text whose open brackets close at its very end is balanced within them
closed : (text : List ℕ) (depth : ℕ) → 0 < depth → closes text depth ≡ true → IsClosing depth text
closed [] depth some e = absurd cc
closed (b ∷ text) depth some e = go (b == 91) refl (b == 93) refl (depth == 1) refl e (closed text (depth + 1)) (closed text (depth - 1)) (closed text depth)
  where
    go : (u : Bool) → (b == 91) ≡ u → (v : Bool) → (b == 93) ≡ v → (one : Bool) → (depth == 1) ≡ one
        → cond (v && one) (length text == 0) (closes text (cond u (depth + 1) (cond v (depth - 1) depth))) ≡ true
        → (0 < depth + 1 → closes text (depth + 1) ≡ true → IsClosing (depth + 1) text) → (0 < depth - 1 → closes text (depth - 1) ≡ true → IsClosing (depth - 1) text)
        → (0 < depth → closes text depth ≡ true → IsClosing depth text) → IsClosing depth (b ∷ text)
    go true e91 true e93 one e1 h more less same = let x : b ≡ 91 = eqb-true b 91 e91 in let y : b ≡ 93 = eqb-true b 93 e93 in absurd (omega arith)
    go true e91 false e93 one e1 h more less same = extend b depth (depth + 1) text true false e91 e93 some (omega arith) (more (omega arith) h)
    go false e91 true e93 true e1 h more less same =
        let x : b ≡ 93 = eqb-true b 93 e93 in
        let d : depth ≡ 1 = eqb-true depth 1 e1 in
        let none : text ≡ [] = nil_from_length text (eqb-true (length text) 0 h) in
        record { inner = []; text_is = ap (λ (k : ℕ). k ∷ text) x ∙ ap (λ (bs : List ℕ). 93 ∷ bs) none; same = omega arith; open_first = no_front depth some }
    go false e91 true e93 false e1 h more less same =
        let several : 0 < depth - 1 = not_one depth some e1 in
        extend b depth (depth - 1) text false true e91 e93 some (omega arith) (less several h)
      where
        not_one : (d : ℕ) → 0 < d → (d == 1) ≡ false → 0 < d - 1
        not_one d some off = grind arith
    go false e91 false e93 one e1 h more less same = extend b depth depth text false false e91 e93 some refl (same some h)

-- a text that is balanced within its brackets closes them at its very end; 91 is `[`, 93 is `]`
closing : (inner : List ℕ) (depth : ℕ) → 0 < depth → times 91 inner + depth ≡ times 93 inner + 1 → ((front back : List ℕ) → inner ≡ front ++ back → times 93 front < times 91 front + depth) → closes (inner ++ 93 ∷ []) depth ≡ true
closing [] depth some same open_first = let one : depth ≡ 1 = omega arith in rw (eq-eqb depth 1 one) refl
closing (b ∷ inner) depth some same open_first = go (b == 91) refl (b == 93) refl (depth == 1) refl (closing inner (depth + 1)) (closing inner (depth - 1)) (closing inner depth)
  where
    go : (u : Bool) → (b == 91) ≡ u → (v : Bool) → (b == 93) ≡ v → (one : Bool) → (depth == 1) ≡ one
        → (0 < depth + 1 → times 91 inner + (depth + 1) ≡ times 93 inner + 1 → ((front back : List ℕ) → inner ≡ front ++ back → times 93 front < times 91 front + (depth + 1)) → closes (inner ++ 93 ∷ []) (depth + 1) ≡ true)
        → (0 < depth - 1 → times 91 inner + (depth - 1) ≡ times 93 inner + 1 → ((front back : List ℕ) → inner ≡ front ++ back → times 93 front < times 91 front + (depth - 1)) → closes (inner ++ 93 ∷ []) (depth - 1) ≡ true)
        → (0 < depth → times 91 inner + depth ≡ times 93 inner + 1 → ((front back : List ℕ) → inner ≡ front ++ back → times 93 front < times 91 front + depth) → closes (inner ++ 93 ∷ []) depth ≡ true)
        → cond (v && one) (length (inner ++ 93 ∷ []) == 0) (closes (inner ++ 93 ∷ []) (cond u (depth + 1) (cond v (depth - 1) depth))) ≡ true
    go true e91 true e93 one e1 more less equal = let x : b ≡ 91 = eqb-true b 91 e91 in let y : b ≡ 93 = eqb-true b 93 e93 in absurd (omega arith)
    go true e91 false e93 one e1 more less equal =
        let x = times_cons 91 b inner true e91 in
        let y = times_cons 93 b inner false e93 in
        more (omega arith) (omega arith)
        (λ front back is. let p = open_first (b ∷ front) back (ap (λ (bs : List ℕ). b ∷ bs) is) in let q = times_cons 91 b front true e91 in let r = times_cons 93 b front false e93 in omega arith)
    go false e91 true e93 true e1 more less equal =
        let d : depth ≡ 1 = eqb-true depth 1 e1 in
        let p = open_first (b ∷ []) inner refl in
        let q = times_cons 91 b [] false e91 in
        let r = times_cons 93 b [] true e93 in absurd (omega arith)
    go false e91 true e93 false e1 more less equal =
        let x = times_cons 91 b inner false e91 in
        let y = times_cons 93 b inner true e93 in
        let p = open_first (b ∷ []) inner refl in
        let q = times_cons 91 b [] false e91 in
        let r = times_cons 93 b [] true e93 in
        let several : 0 < depth - 1 = omega arith in
        less several (omega arith)
        (λ front back is. let p2 = open_first (b ∷ front) back (ap (λ (bs : List ℕ). b ∷ bs) is) in let q2 = times_cons 91 b front false e91 in let r2 = times_cons 93 b front true e93 in omega arith)
    go false e91 false e93 one e1 more less equal =
        let x = times_cons 91 b inner false e91 in
        let y = times_cons 93 b inner false e93 in
        equal some (omega arith)
        (λ front back is. let p = open_first (b ∷ front) back (ap (λ (bs : List ℕ). b ∷ bs) is) in let q = times_cons 91 b front false e91 in let r = times_cons 93 b front false e93 in omega arith)

-- A text in brackets.

-- The next two: a text in brackets is one to the reader exactly if it is one of the grammar.
bracketed : (text : List ℕ) → closes text 1 ≡ true → IsBracketed (91 ∷ text)
bracketed text e =
    let c = closed text 1 (omega arith) e in
    let z = c.same in (
      c.inner,
      ap (λ (bs : List ℕ). 91 ∷ bs) c.text_is,
      record { same = omega arith; open_first = λ front back is. let p = c.open_first front back is in omega arith },
    )

is_bracketed : (b : ℕ) (text : List ℕ) → IsBracketed (b ∷ text) → (b ≡ 91) × (closes text 1 ≡ true)
is_bracketed b text (inner, is, balanced) =
    let first : b ≡ 91 = cc in
    let rest : text ≡ inner ++ 93 ∷ [] = cc in
    let z = balanced.same in
    (first, ap (λ (bs : List ℕ). closes bs 1) rest ∙ closing inner 1 (omega arith) (omega arith) (λ front back e. let p = balanced.open_first front back e in omega arith))

-- A whole value.

-- The next two: what the reader takes for a variable or a reference is one of the grammar.
variable : (name : List ℕ) → is_variable name ≡ true → IsVariable (35 ∷ name)
variable [] e = absurd cc
variable (c ∷ name) e = go (c == 91) refl e
  where
    go : (t : Bool) → (c == 91) ≡ t → cond t (closes name 1) (list_all is_ascii_digit (c ∷ name)) ≡ true → IsVariable (35 ∷ (c ∷ name))
    go true is h = let x : c ≡ 91 = eqb-true c 91 is in let P : ℕ → Type 0 = λ k. IsBracketed (k ∷ name) in (c ∷ name, refl, inr (subst P (sym x) (bracketed name h)))
    go false is h = (c ∷ name, refl, inl (omega arith, h))

reference : (text : List ℕ) → is_reference text ≡ true → IsVariable text ⊎ IsBracketed text
reference [] e = absurd cc
reference (b ∷ text) e = go (b == 35) refl e
  where
    go : (t : Bool) → (b == 35) ≡ t → cond t (is_variable text) (b == 91 && closes text 1) ≡ true → IsVariable (b ∷ text) ⊎ IsBracketed (b ∷ text)
    go true is h = let x : b ≡ 35 = eqb-true b 35 is in let P : ℕ → Type 0 = λ k. IsVariable (k ∷ text) in inl (subst P (sym x) (variable text h))
    go false is h =
        let p = both (b == 91) (closes text 1) h in
        let x : b ≡ 91 = eqb-true b 91 p.0 in let P : ℕ → Type 0 = λ k. IsBracketed (k ∷ text) in inr (subst P (sym x) (bracketed text p.1))

-- what the reader takes for a value is a value of the grammar
pub value_is : (text : List ℕ) → is_value text ≡ true → IsValue text
value_is text e = go (is_literal text) refl e
  where
    go : (t : Bool) → is_literal text ≡ t → (t || is_reference (behind_sign text)) ≡ true → IsValue text
    go true is h = inl (literal_found text is)
    go false is h = let s = signed text in inr (s.0, behind_sign text, s.1, s.2, reference (behind_sign text) h)

-- The next two: a variable or a reference of the grammar is one to the reader.
is_variable_name : (name : List ℕ) → ((0 < length name) × (list_all is_ascii_digit name ≡ true)) ⊎ IsBracketed name → is_variable name ≡ true
is_variable_name [] (inl (some, digits)) = absurd (omega arith)
is_variable_name [] (inr (inner, is, balanced)) = absurd cc
is_variable_name (c ∷ name) (inl (some, digits)) = go (c == 91) refl
  where
    go : (t : Bool) → (c == 91) ≡ t → cond t (closes name 1) (list_all is_ascii_digit (c ∷ name)) ≡ true
    go true e = let x : c ≡ 91 = eqb-true c 91 e in let bad : false ≡ true = subst (λ (k : ℕ). list_all is_ascii_digit (k ∷ name) ≡ true) x digits in absurd cc
    go false e = digits
is_variable_name (c ∷ name) (inr b) = let p = is_bracketed c name b in rw (eq-eqb c 91 p.0) p.1

is_a_reference : (text : List ℕ) → IsVariable text ⊎ IsBracketed text → (is_reference text ≡ true) × (behind_sign text ≡ text)
is_a_reference text (inl (name, is, named)) = (ap is_reference is ∙ is_variable_name name named, ap behind_sign is ∙ sym is)
is_a_reference [] (inr (inner, is, balanced)) = absurd cc
is_a_reference (b ∷ text) (inr bracket) =
    let p = is_bracketed b text bracket in
    let P : ℕ → Type 0 = λ k. (is_reference (k ∷ text) ≡ true) × (behind_sign (k ∷ text) ≡ k ∷ text) in
    let here : (is_reference (91 ∷ text) ≡ true) × (behind_sign (91 ∷ text) ≡ 91 ∷ text) = (p.1, refl) in subst P (sym p.0) here

-- a value of the grammar is one to the reader
pub is_a_value : (text : List ℕ) → IsValue text → is_value text ≡ true
is_a_value text (inl is) = rw (literal_read text is) refl
is_a_value text (inr (sign, rest, is, s, r)) =
    let p = is_a_reference rest r in
    let behind : behind_sign text ≡ rest = ap behind_sign is ∙ go s p.1 in or_right (is_literal text) (is_reference (behind_sign text)) (ap is_reference behind ∙ p.0)
  where
    go : IsSign sign → behind_sign rest ≡ rest → behind_sign (sign ++ rest) ≡ rest
    go (inl e) same = ap (λ (before : List ℕ). behind_sign (before ++ rest)) e ∙ same
    go (inr (inl e)) same = ap (λ (before : List ℕ). behind_sign (before ++ rest)) e
    go (inr (inr e)) same = ap (λ (before : List ℕ). behind_sign (before ++ rest)) e
