-- One byte of a scan over the text of a macro expression for its limits. For `has_deep_brackets`
-- and `has_long_number` (src/limits.rt).
use Rattle.std.proofs.Common.{◌≡◌, ℕ, ◌+◌, ◌<◌, ◌||◌, true, false, List, [], ◌∷◌, ◌++◌, length, get_or, take, drop, refl, sym, ◌∙◌, ap}
use Rattle.std.proofs.lemmas.List.{drop_more, take_more}
use Rattle.macro_expr.specs.Limits.{begins_long, long_behind, too_deep}

-- six open brackets are too many
six_open : (rest : List ℕ) → too_deep 6 rest ≡ true
six_open [] = refl
six_open (b ∷ rest) = refl

-- a bracket that opens while five are open makes the text too deep
pub deep_here : (text : List ℕ) (i opened : ℕ) → i < length text → get_or text i 0 ≡ 91 → opened ≡ 5
    → too_deep opened (drop i text) ≡ true
deep_here text i opened inside bracket five =
    let cut : drop i text ≡ 91 ∷ drop (i + 1) text = drop_more text i 0 inside ∙ ap (λ b. b ∷ drop (i + 1) text) bracket in
    ap (λ n. too_deep n (drop i text)) five ∙ ap (too_deep 5) cut ∙ six_open (drop (i + 1) text)

-- if no long number begins at this byte, one that begins at all begins after it
pub long_later : (text : List ℕ) (i : ℕ) → i < length text → begins_long (take i text) (drop i text) ≡ false
    → long_behind (take i text) (drop i text) ≡ long_behind (take (i + 1) text) (drop (i + 1) text)
long_later text i inside not_here =
    let cut : drop i text ≡ get_or text i 0 ∷ drop (i + 1) text = drop_more text i 0 inside in
    let more : take (i + 1) text ≡ take i text ++ get_or text i 0 ∷ [] = take_more text i 0 inside in
    let here : begins_long (take i text) (get_or text i 0 ∷ drop (i + 1) text) ≡ false =
    ap (begins_long (take i text)) (sym cut) ∙ not_here in
    ap (long_behind (take i text)) cut
    ∙ ap (λ b. b || long_behind (take i text ++ get_or text i 0 ∷ []) (drop (i + 1) text)) here
    ∙ ap (λ xs. long_behind xs (drop (i + 1) text)) (sym more)
