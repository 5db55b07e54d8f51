-- Where the reading of a macro expression stops its cause stands. For StatementsStopping.
use Rattle.std.proofs.Common.{◌≡◌, ℕ, zero, suc, ◌+◌, ◌==◌, not, Bool, true, false, cond, List, [], ◌∷◌, ◌++◌, length, drop, None, Some, Ok, Err, refl, sym, ◌∙◌, ap, subst, arith, append_assoc}
use Rattle.std.specs.Prelude.{codes}
use Rattle.std.specs.Char.{is_ascii_digit}
use Rattle.std.specs.List.{prefix_len}
use Rattle.std.proofs.lemmas.List.{append-nil}
use Rattle.nc_number.specs.Results.{◌>>=◌}
use Rattle.macro_expr.specs.declared.stop.Stop.{Stop}
use Rattle.macro_expr.specs.declared.stop.Stop.TheVariants as stop
use Rattle.macro_expr.specs.declared.tree.Fun.{Fun}
use Rattle.macro_expr.specs.declared.words.Rank.{Rank}
use Rattle.macro_expr.specs.declared.words.Rank.TheVariants.{Product, Sum}
use Rattle.macro_expr.specs.Tree.{Tree, Fixed, Computed, look, Signed, Applied, Joined}
use Rattle.macro_expr.specs.Words.{operator_words, sign_words, function_words, operator, sign, function_of, function_word, is_letter, is_number_byte, run, behind_run, begins}
use Rattle.macro_expr.specs.Reading.{Read, text_after_word, word_at, number_at, digits_at, bracket_at, variable_behind, variable_at, function_reading, function_at, prim_at, signed_by, signed_at, joined_by, chain, product_at, sum_at, expression_inside}
use Rattle.macro_expr.specs.Grammar.{IsWord, IsBracketed, closed, IsVariable, fixed, computed, IsPrim, number, variable, bracket, function, IsSigned, plain, signed, IsChain, one, more, IsProduct, IsSum, IsWithin}
use Rattle.macro_expr.proofs.Heads.{behind_word, leading, meant, ◌also◌, each, run_splits, run_all}
use Rattle.macro_expr.proofs.Steps.{Sound, found, stops, Reads}
use Rattle.macro_expr.proofs.ChainLaws.{chained}
use Rattle.macro_expr.proofs.Complete.{sum_is, first_at, looked}
use Rattle.macro_expr.proofs.Sound.{literal_step, prim-sound, signed-sound, product-sound, first-sound, within-sound}
use Rattle.macro_limits.specs.Refusals.{Lacks, IsPlain}

-- reading goes on, or its cause stands where it stops; Other says it of the places that only a
-- statement has
pub data Caused {A : Type 0} (Is : List ℕ → A → Type 0) (Other : Stop → Type 0) (text : List ℕ) : Read A → Type 0 where
  -- reading went on
  went : (x : A × List ℕ) → Caused Is Other text (Ok x)
  -- reading stopped for this, and its cause stands in the text
  stopped : (s : Stop) → Lacks Is Other text s → Caused Is Other text (Err s)

-- a reader goes on, or stops where a cause stands, at each text
abbrev pub Stops : {A : Type 0} → (Stop → Type 0) → (List ℕ → A → Type 0) → (List ℕ → Read A) → Type 0
Stops Other Is reader = (text : List ℕ) → Caused Is Other text (reader text)

-- a text of one kind, between this front and some ending, is a text of the other kind
abbrev pub Extended : {B : Type 0} → (List ℕ → B → Type 0) → List ℕ → List ℕ → Type 0
Extended {B} Is front t = (ending u : List ℕ) × (y : B) × (u ≡ front ++ (t ++ ending)) × Is u y

-- what a part lacks where it stops, the whole lacks
carries : {A B : Type 0} {Is : List ℕ → A → Type 0} {Is' : List ℕ → B → Type 0} {Other : Stop → Type 0}
    {text : List ℕ} (front at : List ℕ) → text ≡ front ++ at → ((t : List ℕ) (x : A) → Is t x → Extended Is' front t)
    → (s : Stop) → Lacks Is Other at s → Caused Is' Other text (Err s)
carries front at here extend stop.Expression lacks = stopped stop.Expression tt
carries {Is'} front at here extend stop.Function u =
    stopped stop.Function (record {
      before = front ++ u.before;
      name = u.name;
      rest = u.rest;
      stands = here ∙ ap (λ xs. front ++ xs) u.stands ∙ simp append_assoc;
      letters = u.letters;
      some = u.some;
      ends = u.ends;
      unknown = u.unknown;
      place = λ p e is.
          let c = u.place p e is in
          let x = extend (u.before ++ (p ++ c.0)) c.1 c.2 in
          let same : x.1 ≡ (front ++ u.before) ++ (p ++ (c.0 ++ x.0)) = x.3 ∙ simp append_assoc in
          (c.0 ++ x.0, x.2, subst (λ xs. Is' xs x.2) same x.4);
    })
carries front at here extend stop.Condition other = stopped stop.Condition other
carries front at here extend stop.Loop other = stopped stop.Loop other
carries front at here extend stop.Sequence other = stopped stop.Sequence other

-- a step that stops where a cause stands, and then one that does, stop where a cause stands
pub after : {A B : Type 0} {Is : List ℕ → A → Type 0} {Is' : List ℕ → B → Type 0} {Other : Stop → Type 0}
    {at text : List ℕ} {r : Read A} (f : A × List ℕ → Read B) (front : List ℕ) → text ≡ front ++ at
    → ((t : List ℕ) (x : A) → Is t x → Extended Is' front t) → Sound Is at r → Caused Is Other at r
    → ((t rest : List ℕ) (x : A) → Is t x → at ≡ t ++ rest → Caused Is' Other text (f (x, rest)))
    → Caused Is' Other text (r >>= f)
after f front here extend (found t rest x is stands) caused next = next t rest x is stands
after {at} f front here extend (stops s) (stopped _ lacks) next = carries front at here extend s lacks

-- the last step of a reading stops where a cause stands, if its part does
pub lasts : {A B : Type 0} {Is : List ℕ → A → Type 0} {Is' : List ℕ → B → Type 0} {Other : Stop → Type 0}
    {text : List ℕ} {r : Read A} (f : A × List ℕ → B × List ℕ) (front at : List ℕ) → text ≡ front ++ at
    → ((t : List ℕ) (x : A) → Is t x → Extended Is' front t) → Caused Is Other at r
    → Caused Is' Other text (r >>= λ x. Ok (f x))
lasts f front at here extend (went x) = went (f x)
lasts f front at here extend (stopped s lacks) = carries front at here extend s lacks

-- a part after a front stops where a cause stands, and so does the whole that both make
pub joins_stop : {A B : Type 0} {Is : List ℕ → A → Type 0} {Is' : List ℕ → B → Type 0} {Other : Stop → Type 0}
    {text at : List ℕ} {r : Read A} (front : List ℕ) (mk : A → B)
    → ((t : List ℕ) (x : A) → Is t x → Is' (front ++ t) (mk x)) → text ≡ front ++ at
    → Caused Is Other at r → Caused Is' Other text (r >>= λ x. Ok (mk x.0, x.1))
joins_stop {at} front mk make here caused =
    lasts _ front at here (λ t x is. ([], front ++ t, mk x, simp append-nil, make t x is)) caused

-- a part that is the whole of another kind stops where a cause stands as that kind
turns : {A : Type 0} {Is Is' : List ℕ → A → Type 0} {Other : Stop → Type 0} {text : List ℕ} {r : Read A}
    → ((t : List ℕ) (x : A) → Is t x → Is' t x) → Caused Is Other text r → Caused Is' Other text r
turns make (went x) = went x
turns {text} make (stopped s lacks) =
    carries [] text refl (λ t x is. ([], t, x, sym (append-nil t), make t x is)) s lacks

-- a word that must stand there, and what follows it, stop where a cause stands
pub word_stop : {B : Type 0} {Is : List ℕ → B → Type 0} {Other : Stop → Type 0} {text : List ℕ} (f : List ℕ → Read B)
    (word at : List ℕ) → ((rest : List ℕ) → at ≡ word ++ rest → Caused Is Other text (f rest))
    → Caused Is Other text (word_at word at >>= f)
unfolding word_at
word_stop {Is} {Other} {text} f word at next =
    behind_word (λ o. Caused Is Other text (text_after_word o >>= f)) word at next (stopped stop.Expression tt)

-- digits that must stand there, and what follows them, stop where a cause stands
digits_stop : {B : Type 0} {Is : List ℕ → B → Type 0} {Other : Stop → Type 0} {text : List ℕ}
    (f : ℕ × List ℕ → B × List ℕ) (at : List ℕ) → Caused Is Other text (digits_at at >>= λ n. Ok (f n))
unfolding digits_at
digits_stop {Is} {Other} {text} f at =
    literal_step (λ r. Caused Is Other text (r >>= λ n. Ok (f n))) (run is_ascii_digit at) _
    (λ is short. went _) (stopped stop.Expression tt)

-- letters that are no function's name are no word of the table
no_function : (name : List ℕ) → function_of name ≡ None → (f : Fun) → IsWord function_words name f → ⊥
unfolding function_of function_word
no_function name none f is =
    let Known : List ℕ → Fun → Type 0 = λ w f. function_of w ≡ Some f in
    let known = each function_words Known (refl also refl also refl also refl also refl also tt) name f is in
    cc

-- what stands after the longest run of such bytes does not begin with one
pub run_ends : (p : ℕ → Bool) (text : List ℕ) → begins p (behind_run p text) ≡ false
run_ends p [] = refl
run_ends p (b ∷ text) = go (run_ends p text) (p b) refl
  where
    go : begins p (behind_run p text) ≡ false → (t : Bool) → p b ≡ t
        → begins p (drop (cond (not (not t)) (1 + prefix_len (λ b. not (not (p b))) text) 0) (b ∷ text)) ≡ false
    go further true passes =
        let count : ℕ = prefix_len (λ b. not (not (p b))) text in
        let e : 1 + count ≡ suc count = omega arith in
        ap (λ n. begins p (drop n (b ∷ text))) e ∙ further
    go further false other = other

-- The operators are those of `rank`. `First` is the grammar of the first operand and `Operand` of
-- the others; `first` and `operand` read them. `Other` is what only a statement lacks where it
-- stops.
module _ (Other : Stop → Type 0) (rank : Rank) (First Operand : List ℕ → Tree → Type 0)
    (first operand : List ℕ → Read Tree)
    (operand-sound : Reads Operand operand) (operand-stops : Stops Other Operand operand) where
  -- a text is a chain of this rank, from its first operand on
  abbrev IsOne : List ℕ → Tree → Type 0
  IsOne = IsChain rank First Operand

  -- The next two: a chain of operators stops where a cause stands, if its operands do.
  chain_stops : (n : ℕ) (text t at : List ℕ) (left : Tree) → text ≡ t ++ at → IsOne t left
      → Caused IsOne Other text (chain (operator rank) operand n left at)
  unfolding chain operator
  chain_stops zero text t at left here is = went (left, at)
  chain_stops (suc n) text t at left here is =
      leading (λ o. Caused IsOne Other text (joined_by left at o operand (chain (operator rank) operand n)))
      (operator_words rank) at
      (λ word next op is_word leads_it.
      after _ (t ++ word) (simp (here, leads_it, append_assoc))
      (λ u right is_u. (
        [],
        t ++ (word ++ u),
        Joined op left right,
        simp (append_assoc, append-nil),
        more t word u op left right is is_word is_u,
      ))
      (operand-sound next) (operand-stops next)
      (λ u rest right is_u stands.
      chain_stops n text (t ++ (word ++ u)) rest (Joined op left right) (simp (here, leads_it, stands, append_assoc))
      (more t word u op left right is is_word is_u)))
      (went (left, at))

  chained_stops : Reads First first → Stops Other First first → Stops Other IsOne (chained rank first operand)
  chained_stops first-sound first-stops text =
      after _ [] refl (λ t e is. ([], t, e, simp append-nil, one t e is)) (first-sound text) (first-stops text)
      (λ t rest e is stands. chain_stops (length rest) text t rest e stands (one t e is))

-- `Inner` says what may stand in brackets, and `inner` reads it. `Other` is what only a statement
-- lacks where it stops.
module _ (Other : Stop → Type 0) (inner : List ℕ → Read Tree) (Inner : List ℕ → Tree → Type 0)
    (inner-sound : Reads Inner inner) (inner-stops : Stops Other Inner inner) where
  -- the reading of brackets stops where a cause stands
  pub bracket-stops : Stops Other (IsBracketed Inner) (bracket_at inner)
  unfolding bracket_at
  bracket-stops text =
      word_stop _ (codes "[") text (λ opened here.
      after _ (codes "[") here (λ t e is. (codes "]", codes "[" ++ (t ++ codes "]"), e, refl, closed t e is))
      (inner-sound opened) (inner-stops opened)
      (λ t rest e is stands. word_stop _ (codes "]") rest (λ behind ends. went (e, behind))))

  -- the reading of a variable stops where a cause stands
  pub variable-stops : Stops Other (IsVariable Inner) (variable_at inner)
  unfolding variable_at variable_behind
  variable-stops text = word_stop _ (codes "#") text (λ rest here. go rest here (begins is_ascii_digit rest))
    where
      go : (rest : List ℕ) → text ≡ codes "#" ++ rest → (b : Bool) → Caused (IsVariable Inner) Other text
          (cond b (digits_at rest >>= λ n. Ok (Fixed n.0, n.1)) (bracket_at inner rest >>= λ e. Ok (Computed e.0, e.1)))
      go rest here true = digits_stop (λ n. (Fixed n.0, n.1)) rest
      go rest here false = joins_stop (codes "#") Computed computed here (bracket-stops rest)

  -- a prim without brackets is one wherever it stands
  plain_prim : (t : List ℕ) (e : Tree) → IsPlain t e → IsPrim Inner t e
  plain_prim _ _ (number t micro is) = number t micro is
  plain_prim _ _ (variable _ _ (fixed t n is)) = variable (codes "#" ++ t) (Fixed n) (fixed t n is)
  plain_prim _ _ (variable _ _ (computed _ _ (closed t e is))) = absurd is
  plain_prim _ _ (bracket _ _ (closed t e is)) = absurd is
  plain_prim _ _ (function _ _ _ _ is_name (closed t e is)) = absurd is

  -- The next seven: a function, a number, an operand, one with a sign, a product, the first of a
  -- sum and a sum stop where a cause stands.
  function-stops : (text : List ℕ) → begins is_letter text ≡ true
      → Caused (IsPrim Inner) Other text (function_at inner text)
  unfolding function_at function_of function_word
  function-stops text letter =
      let name : List ℕ = run is_letter text in
      let rest : List ℕ = behind_run is_letter text in
      meant (λ o. function_of name ≡ o → Caused (IsPrim Inner) Other text (function_reading inner o rest)) function_words name
      (λ f is_name known.
      joins_stop name (Applied f) (λ t e is. function name t f e is_name is) (run_splits is_letter text)
      (bracket-stops rest))
      (λ unknown.
      stopped stop.Function (record {
        before = [];
        name = name;
        rest = rest;
        stands = run_splits is_letter text;
        letters = run_all is_letter text;
        some = subst (λ xs. begins is_letter xs ≡ true) (run_splits is_letter text) letter;
        ends = run_ends is_letter text;
        unknown = no_function name unknown;
        place = λ p e is. ([], e, subst (λ xs. IsPrim Inner xs e) (sym (append-nil p)) (plain_prim p e is));
      })) refl

  number-stops : Stops Other (IsPrim Inner) number_at
  unfolding number_at
  number-stops text =
      literal_step (Caused (IsPrim Inner) Other text) (run is_number_byte text) _ (λ is short. went _)
      (stopped stop.Expression tt)

  prim-stops : Stops Other (IsPrim Inner) (prim_at inner)
  unfolding prim_at
  prim-stops text = go (begins (λ b. b == 35) text) (begins (λ b. b == 91) text) (begins is_letter text) refl
    where
      go : (a b c : Bool) → begins is_letter text ≡ c → Caused (IsPrim Inner) Other text
          (cond a (variable_at inner text >>= looked)
          (cond b (bracket_at inner text) (cond c (function_at inner text) (number_at text))))
      go true b c letter = joins_stop [] look variable refl (variable-stops text)
      go false true c letter = turns bracket (bracket-stops text)
      go false false true letter = function-stops text letter
      go false false false letter = number-stops text

  signed-stops : Stops Other (IsSigned Inner) (signed_at inner)
  unfolding signed_at sign
  signed-stops text =
      leading (λ o. Caused (IsSigned Inner) Other text (signed_by inner o text)) sign_words text
      (λ word rest minus is_word here.
      joins_stop word (Signed minus) (λ t e is. signed word t minus e is_word is) here (prim-stops rest))
      (turns plain (prim-stops text))

  product-stops : Stops Other (IsProduct Inner) (product_at inner)
  unfolding product_at
  product-stops =
      let sound = prim-sound inner Inner inner-sound in
      chained_stops Other Product _ _ _ _ sound prim-stops sound prim-stops

  first-stops : Stops Other (IsChain Product (IsSigned Inner) (IsPrim Inner)) (first_at inner)
  first-stops =
      chained_stops Other Product _ _ _ _ (prim-sound inner Inner inner-sound) prim-stops
      (signed-sound inner Inner inner-sound) signed-stops

  sum-stops : Stops Other (IsSum Inner) (sum_at inner)
  sum-stops text =
      subst (Caused (IsSum Inner) Other text) (sym (sum_is inner text))
      (chained_stops Other Sum _ _ _ _ (product-sound inner Inner inner-sound) product-stops
      (first-sound inner Inner inner-sound) first-stops text)

-- the reading of an expression stops where a cause stands, whatever its depth
pub within-stops : (Other : Stop → Type 0) (n : ℕ) → Stops Other (IsWithin n) (expression_inside n)
unfolding expression_inside
within-stops Other zero text = stopped stop.Expression tt
within-stops Other (suc n) text = sum-stops Other (expression_inside n) (IsWithin n) (within-sound n) (within-stops Other n) text
