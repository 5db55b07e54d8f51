-- The codes of an assignment behind IF, parted before the last one: those of the condition and of
-- the number on the left, and that of the value. For `statement_step` (src/statements.rt).
use Rattle.std.proofs.Common.{◌≡◌, List, [], ◌∷◌, ◌++◌, refl}
use Rattle.macro_expr.specs.Tree.{Tree, Test, Named, IfThen, trees_of_sentence, evaluated_name, evaluated_test}

-- a list is parted before its last element in one way
only_parts : (front before : List Tree) (last end : Tree) → front ++ last ∷ [] ≡ before ++ end ∷ []
    → (front ≡ before) × (last ≡ end)
only_parts [] [] last end same = (refl, cc)
only_parts [] (b ∷ []) last end same = absurd (cc)
only_parts [] (b ∷ c ∷ before) last end same = absurd (cc)
only_parts (a ∷ []) [] last end same = absurd (cc)
only_parts (a ∷ c ∷ front) [] last end same = absurd (cc)
only_parts (a ∷ front) (b ∷ before) last end same =
    let rest : front ++ last ∷ [] ≡ before ++ end ∷ [] = cc in
    let parts = only_parts front before last end rest in
    let head : a ≡ b = cc in
    (λ i. head i ∷ parts.0 i, parts.1)

-- the codes of `IF [..] THEN #i = ..` are those of the condition and the left side, and then that
-- of the value
pub parts_behind_if : (front : List Tree) (last : Tree) (test : Test) (name : Named) (tree : Tree)
    → front ++ last ∷ [] ≡ trees_of_sentence (IfThen test name tree)
    → (front ≡ evaluated_test test ++ evaluated_name name) × (last ≡ tree)
parts_behind_if front last test name tree same = only_parts front (evaluated_test test ++ evaluated_name name) last tree same
