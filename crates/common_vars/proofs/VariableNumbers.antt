-- The rows of the variables' table and the numbers of the variables say the same. For
-- `a_variable_has_one_number` and `variable_of` (src/variable.rt).
use Rattle.std.proofs.Common.{◌≡◌, ◌≢◌, ℕ, zero, suc, ◌≤◌, Bool, true, false, List, [], ◌∷◌, find, cond, Option, Some, None, IfSome, IsNone, inl, inr, refl, ap, sym, subst, ◌∙◌, arith}
use Rattle.std.specs.Prelude.{option_map, ◌↔◌}
use Rattle.std.proofs.lemmas.Bool.{leb-true, and_parts}
use Rattle.std.proofs.lemmas.Bool.Decides.{nat_tests}
use Rattle.common_vars.specs.declared.variable.AxisLetter.TheVariants.{X, Z}
use Rattle.common_vars.specs.declared.variable.Variable.{Variable}
use Rattle.common_vars.specs.declared.variable.Variable.TheVariants.{Null, Local, Common, Code, Feed, Speed, Tool, Programmed, Machine, Work, Raise}
use Rattle.common_vars.specs.Variables.{Row, range, one, is_in, variable_rows, named_in, variable_of, number_of, IsVariable}

-- what a row names is a variable that exists, and has the number by which the row names it
abbrev Says : Row → Type 0
Says row = (number : ℕ) → row.first ≤ number → number ≤ row.last
    → IsVariable (row.variable number) × (number_of (row.variable number) ≡ number)

-- each row names variables that exist, by their own numbers
abbrev AllSay : List Row → Type 0
AllSay [] = Unit {0}
AllSay (row ∷ rows) = Says row × AllSay rows

-- a row of one number names a variable that exists, by its own number
one_says : (number : ℕ) (variable : Variable) → IsVariable variable → number_of variable ≡ number → Says (one number variable)
one_says number variable there is = λ n low high. (there, is ∙ (let same : number ≡ n = omega arith in same))

-- each row of the table names variables that exist, by their own numbers
all_say : AllSay variable_rows
all_say = (
  one_says 0 Null tt refl,
  (
    (λ n low high. ((low, high), refl)),
    (
      (λ n low high. (inl (low, high), refl)),
      (
        (λ n low high. (inr (low, high), refl)),
        (
          one_says 3000 Raise tt refl,
          (
            one_says 4001 (Code 1) (inl refl) refl,
            (
              one_says 4002 (Code 2) (inr (inl refl)) refl,
              (
                one_says 4003 (Code 3) (inr (inr (inl refl))) refl,
                (
                  one_says 4005 (Code 5) (inr (inr (inr (inl refl)))) refl,
                  (
                    one_says 4006 (Code 6) (inr (inr (inr (inr (inl refl))))) refl,
                    (
                      one_says 4007 (Code 7) (inr (inr (inr (inr (inr (inl refl)))))) refl,
                      (
                        one_says 4014 (Code 14) (inr (inr (inr (inr (inr (inr refl)))))) refl,
                        (
                          one_says 4109 Feed tt refl,
                          (
                            one_says 4119 Speed tt refl,
                            (
                              one_says 4120 Tool tt refl,
                              (
                                one_says 5001 (Programmed X) tt refl,
                                (
                                  one_says 5002 (Programmed Z) tt refl,
                                  (
                                    one_says 5021 (Machine X) tt refl,
                                    (
                                      one_says 5022 (Machine Z) tt refl,
                                      (
                                        one_says 5201 (Work 0 X) (omega arith) refl,
                                        (
                                          one_says 5202 (Work 0 Z) (omega arith) refl,
                                          (
                                            one_says 5221 (Work 1 X) (omega arith) refl,
                                            (
                                              one_says 5222 (Work 1 Z) (omega arith) refl,
                                              (
                                                one_says 5241 (Work 2 X) (omega arith) refl,
                                                (
                                                  one_says 5242 (Work 2 Z) (omega arith) refl,
                                                  (
                                                    one_says 5261 (Work 3 X) (omega arith) refl,
                                                    (
                                                      one_says 5262 (Work 3 Z) (omega arith) refl,
                                                      (
                                                        one_says 5281 (Work 4 X) (omega arith) refl,
                                                        (
                                                          one_says 5282 (Work 4 Z) (omega arith) refl,
                                                          (
                                                            one_says 5301 (Work 5 X) (omega arith) refl,
                                                            (
                                                              one_says 5302 (Work 5 Z) (omega arith) refl,
                                                              (
                                                                one_says 5321 (Work 6 X) (omega arith) refl,
                                                                (
                                                                  one_says 5322 (Work 6 Z) (omega arith) refl,
                                                                  tt,
                                                                ),
                                                              ),
                                                            ),
                                                          ),
                                                        ),
                                                      ),
                                                    ),
                                                  ),
                                                ),
                                              ),
                                            ),
                                          ),
                                        ),
                                      ),
                                    ),
                                  ),
                                ),
                              ),
                            ),
                          ),
                        ),
                      ),
                    ),
                  ),
                ),
              ),
            ),
          ),
        ),
      ),
    ),
  ),
)

-- what rows name that all name well exists and has the number that was asked for
named_well : (rows : List Row) → AllSay rows → (number : ℕ) (variable : Variable) → named_in rows number ≡ Some variable
    → IsVariable variable × (number_of variable ≡ number)
named_well [] say number variable is = cc
named_well (row ∷ rows) say number variable is = go (named_well rows say.1 number variable) (is_in number row) refl is
  where
    go : (named_in rows number ≡ Some variable → IsVariable variable × (number_of variable ≡ number))
        → (test : Bool) → is_in number row ≡ test
        → option_map (λ row. row.variable number) (cond test (Some row) (find (is_in number) rows)) ≡ Some variable
        → IsVariable variable × (number_of variable ≡ number)
    go below true inside here =
        let within = and_parts _ _ inside in
        let same : row.variable number ≡ variable = cc in
        let P : Variable → Type 0 = λ v. IsVariable v × (number_of v ≡ number) in
        subst P same (say.0 number (leb-true _ _ within.0) (leb-true _ _ within.1))
    go below false outside later = below later

-- the variable that a number names exists and has that number
pub what_is_named : (number : ℕ) (variable : Variable) → variable_of number ≡ Some variable
    → IsVariable variable × (number_of variable ≡ number)
unfolding variable_of
what_is_named number variable is = named_well variable_rows all_say number variable is

-- 1 to 33 name the local variables
local_found : (i : ℕ) → 1 ≤ i → i ≤ 33 → named_in variable_rows i ≡ Some (Local i)
local_found i low high =
    let null : is_in i (one 0 Null) ≡ false = grind (arith, nat_tests) in
    let inside : is_in i (range 1 33 Local) ≡ true = grind (arith, nat_tests) in
    rw (null, inside) refl

-- 100 to 199 name common variables
hundred_found : (v : ℕ) → 100 ≤ v → v ≤ 199 → named_in variable_rows v ≡ Some (Common v)
hundred_found v low high =
    let null : is_in v (one 0 Null) ≡ false = grind (arith, nat_tests) in
    let below : is_in v (range 1 33 Local) ≡ false = grind (arith, nat_tests) in
    let inside : is_in v (range 100 199 Common) ≡ true = grind (arith, nat_tests) in
    rw (null, below, inside) refl

-- 500 to 999 name common variables
five_hundred_found : (v : ℕ) → 500 ≤ v → v ≤ 999 → named_in variable_rows v ≡ Some (Common v)
five_hundred_found v low high =
    let null : is_in v (one 0 Null) ≡ false = grind (arith, nat_tests) in
    let below : is_in v (range 1 33 Local) ≡ false = grind (arith, nat_tests) in
    let hundreds : is_in v (range 100 199 Common) ≡ false = grind (arith, nat_tests) in
    let inside : is_in v (range 500 999 Common) ≡ true = grind (arith, nat_tests) in
    rw (null, below, hundreds, inside) refl

-- each variable is found by its number
pub found_by_number : (variable : Variable) → IsVariable variable → variable_of (number_of variable) ≡ Some variable
unfolding variable_of
found_by_number Null there = refl
found_by_number (Local i) there = local_found i there.0 there.1
found_by_number (Common v) (inl low) = hundred_found v low.0 low.1
found_by_number (Common v) (inr high) = five_hundred_found v high.0 high.1
found_by_number (Code group) (inl is) = rw is refl
found_by_number (Code group) (inr (inl is)) = rw is refl
found_by_number (Code group) (inr (inr (inl is))) = rw is refl
found_by_number (Code group) (inr (inr (inr (inl is)))) = rw is refl
found_by_number (Code group) (inr (inr (inr (inr (inl is))))) = rw is refl
found_by_number (Code group) (inr (inr (inr (inr (inr (inl is)))))) = rw is refl
found_by_number (Code group) (inr (inr (inr (inr (inr (inr is)))))) = rw is refl
found_by_number Feed there = refl
found_by_number Speed there = refl
found_by_number Tool there = refl
found_by_number (Programmed X) there = refl
found_by_number (Programmed Z) there = refl
found_by_number (Machine X) there = refl
found_by_number (Machine Z) there = refl
found_by_number (Work zero X) there = refl
found_by_number (Work (suc zero) X) there = refl
found_by_number (Work (suc (suc zero)) X) there = refl
found_by_number (Work (suc (suc (suc zero))) X) there = refl
found_by_number (Work (suc (suc (suc (suc zero)))) X) there = refl
found_by_number (Work (suc (suc (suc (suc (suc zero))))) X) there = refl
found_by_number (Work (suc (suc (suc (suc (suc (suc zero)))))) X) there = refl
found_by_number (Work (suc (suc (suc (suc (suc (suc (suc n))))))) X) there = absurd (omega (arith, there))
found_by_number (Work zero Z) there = refl
found_by_number (Work (suc zero) Z) there = refl
found_by_number (Work (suc (suc zero)) Z) there = refl
found_by_number (Work (suc (suc (suc zero))) Z) there = refl
found_by_number (Work (suc (suc (suc (suc zero)))) Z) there = refl
found_by_number (Work (suc (suc (suc (suc (suc zero))))) Z) there = refl
found_by_number (Work (suc (suc (suc (suc (suc (suc zero)))))) Z) there = refl
found_by_number (Work (suc (suc (suc (suc (suc (suc (suc n))))))) Z) there = absurd (omega (arith, there))
found_by_number Raise there = refl

-- an answer that names what has the number, and misses nothing, is the one of the rows
pub settled : (number : ℕ) (found : Option Variable) → IfSome found IsVariable
    → IfSome found (λ variable. number_of variable ≡ number)
    → (IsNone found → (variable : Variable) → IsVariable variable → number_of variable ≢ number)
    → found ≡ variable_of number
settled number (Some variable) there is missed = sym (ap variable_of (sym is) ∙ found_by_number variable there)
settled number None there is missed = go (variable_of number) refl
  where
    go : (o : Option Variable) → variable_of number ≡ o → None ≡ o
    go None is = refl
    go (Some variable) named = let told = what_is_named number variable named in absurd (missed refl variable told.0 told.1)

-- a number names a variable exactly if it is the variable's number
pub one_number : (number : ℕ) (variable : Variable)
    → (variable_of number ≡ Some variable) ↔ (IsVariable variable × (number_of variable ≡ number))
one_number number variable = (what_is_named number variable, λ told. ap variable_of (sym told.1) ∙ found_by_number variable told.0)
