-- What may stand behind an address letter of a tape's block, as a grammar: no depth is counted and
-- no bracket is matched with another.
-- Bytes: 35 is `#`, 91 `[`, 93 `]`.
-- Words takes it for the values of words; the law `a_value_has_the_grammar` (src/law.rt) says that
-- it is what the reader takes for a value.
use Rattle.std.specs.Prelude.{◌≡◌, ℕ, ◌+◌, ◌≤◌, ◌<◌, ◌==◌, ◌⊎◌, true, List, [], ◌∷◌, ◌++◌, length, if◌then◌else◌}
use Rattle.std.specs.Char.{is_ascii_digit}
use Rattle.std.specs.List.{list_all}
use Rattle.tape_relation.specs.Numbers.{IsSign, IsLiteral}

-- how often b stands in a text
abbrev pub times : ℕ → List ℕ → ℕ
times b [] = 0
times b (c ∷ text) = if c == b then 1 + times b text else times b text

-- no bracket closes that is not open, and none is left open
pub record IsBalanced (text : List ℕ) : Type 0 where
  -- as many brackets close as open
  pub same : times 91 text ≡ times 93 text
  -- up to any place, no more brackets close than open
  pub open_first : (front back : List ℕ) → text ≡ front ++ back → times 93 front ≤ times 91 front

-- a text in one pair of square brackets
abbrev pub IsBracketed : List ℕ → Type 0
IsBracketed text = (inner : List ℕ) × (text ≡ 91 ∷ (inner ++ 93 ∷ [])) × IsBalanced inner

-- the text is a variable: `#` and digits, or `#` and a text in brackets
abbrev pub IsVariable : List ℕ → Type 0
IsVariable text = (name : List ℕ) × (text ≡ 35 ∷ name)
    × (((0 < length name) × (list_all is_ascii_digit name ≡ true)) ⊎ IsBracketed name)

-- the text is a literal, or a variable or a text in brackets with or without a sign
abbrev pub IsValue : List ℕ → Type 0
IsValue text = IsLiteral text ⊎ ((sign : List ℕ) × (rest : List ℕ) × (text ≡ sign ++ rest) × IsSign sign
    × (IsVariable rest ⊎ IsBracketed rest))
