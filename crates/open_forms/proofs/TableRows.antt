-- The G codes of a block that reads in full are those of its system's table. For Accepts.
use Rattle.std.proofs.Common.{◌≡◌, ℕ, zero, suc, ◌*◌, ◌/◌, ◌%◌, ◌==◌, Bool, true, false, cond, not, ◌&&◌, ◌||◌, List, [], ◌∷◌, Option, Some, None, ℤ, pos, negsuc, neg_ℤ, unsigned_abs, refl, sym, ◌∙◌, ap, subst, arith, eqb-true, eq-eqb}
use Rattle.std.specs.List.{list_any, list_all, filter_map, cons_option, find}
use Rattle.std.proofs.lemmas.Bool.{and_parts}
use Rattle.std.proofs.lemmas.Bool.Decides.{nat_tests}
use Rattle.nc_number.specs.Arithmetic.{whole_of}
use Rattle.nc_number.proofs.Bools.{neither, not_true}
use Rattle.line_text.specs.declared.body.Word.{Word}
use Rattle.code_tables.specs.declared.row.Row.{Row}
use Rattle.code_tables.specs.declared.kind.CodeKind.{CodeKind}
use Rattle.code_tables.specs.Codes.{row_of}
use Rattle.code_tables.specs.declared.system.System.{System}
use Rattle.code_tables.specs.declared.system.System.TheVariants.{A, B}
use Rattle.code_tables.specs.Systems.{rows_of_system}
use Rattle.block_words.specs.declared.word.FlowWord.{FlowWord}
use Rattle.block_words.specs.Words.{is_computed}
use Rattle.block_words.specs.Codes.{natural_number, row_of_number, row_of_word as row_of_read, is_dwell, is_setting, is_macro_call}
use Rattle.block_forms.specs.Refusals.{is_refused_row, is_unknown_code}
use Rattle.open_forms.specs.Words.{written_micro, whole_of_written, whole_of_word}
use Rattle.open_forms.specs.Codes.{is_g}
use Rattle.open_forms.specs.Refusals.{row_of_word, is_no_row, takes_p}
use Rattle.open_forms.proofs.ReadWords.{IsSaid, AreSaid, none, one_more, same_row}

-- What a search finds passes its test, and each test that all of the list pass.
found_passes : {X : Type 0} (p q : X → Bool) (xs : List X) (x : X) → find p xs ≡ Some x → list_all q xs ≡ true → (p x ≡ true) × (q x ≡ true)
found_passes p q [] x found all = absurd (cc)
found_passes {X} p q (y ∷ ys) x found all = go (p y) refl (λ rest. found_passes p q ys x rest parts.1) found
  where
    parts : (q y ≡ true) × (list_all q ys ≡ true)
    parts = and_parts (q y) (list_all q ys) all

    go : (b : Bool) → p y ≡ b → (find p ys ≡ Some x → (p x ≡ true) × (q x ≡ true)) → cond b (Some y) (find p ys) ≡ Some x
        → (p x ≡ true) × (q x ≡ true)
    go true e further here = let same : y ≡ x = cc in (subst (λ z. p z ≡ true) same e, subst (λ z. q z ≡ true) same parts.0)
    go false e further rest = further rest

-- The row that the table has for a code is of this code, and passes what all rows pass.
row_passes : (system : System) (q : Row → Bool) (code : ℕ) (row : Row) → row_of (rows_of_system system) code ≡ Some row
    → list_all q (rows_of_system system) ≡ true → (row.code ≡ code) × (q row ≡ true)
row_passes system q code row found all =
    let both = found_passes (λ (r : Row). r.code == code) q (rows_of_system system) row found all in
    (eqb-true row.code code both.0, both.1)

-- What all rows of both tables pass, all rows of each system's table pass.
pub in_each : (q : Row → Bool) → list_all q (rows_of_system A) ≡ true → list_all q (rows_of_system B) ≡ true → (system : System)
    → list_all q (rows_of_system system) ≡ true
in_each q in_a in_b A = in_a
in_each q in_a in_b B = in_b

-- A number of millionths with the whole number k is k times 1,000,000.
whole_pos : (a k : ℕ) → natural_number (whole_of (pos a)) ≡ Some k → a ≡ k * 1000000
whole_pos a k is = go (a % 1000000 == 0) refl is
  where
    go : (b : Bool) → (a % 1000000 == 0) ≡ b → natural_number (cond b (Some (pos (a / 1000000))) None) ≡ Some k → a ≡ k * 1000000
    go true e is = let same : a / 1000000 ≡ k = cc in let none : a % 1000000 ≡ 0 = eqb-true _ _ e in omega (arith, same, none)
    go false e is = absurd (cc)

-- A number below 0 has no whole number that is a code.
whole_neg : (a k : ℕ) → natural_number (whole_of (negsuc a)) ≡ Some k → ⊥
whole_neg a k is = go (suc a % 1000000) (suc a / 1000000) refl refl is
  where
    go : (m q : ℕ) → suc a % 1000000 ≡ m → suc a / 1000000 ≡ q
        → natural_number (cond (unsigned_abs (neg_ℤ (pos m)) == 0) (Some (neg_ℤ (pos q))) None) ≡ Some k → ⊥
    go zero zero rest quotient is = absurd (omega (arith, rest, quotient))
    go zero (suc q) rest quotient is = absurd (cc)
    go (suc m) q rest quotient is =
        let some : (suc m == 0) ≡ false = grind (arith, nat_tests) in
        let no : natural_number None ≡ Some k = rw some at is in absurd (cc)

-- If a word writes out the whole number k, it writes k times 1,000,000 millionths.
written_whole : (w : Option ℤ) (k : ℕ) → whole_of_written w ≡ Some k → w ≡ Some (pos (k * 1000000))
written_whole None k is = absurd (cc)
written_whole (Some (pos a)) k is = ap (λ n. Some (pos n)) (whole_pos a k is)
written_whole (Some (negsuc a)) k is = absurd (whole_neg a k is)

-- k times 1,000,000 millionths are the whole number k.
whole_written : (k : ℕ) → whole_of_written (Some (pos (k * 1000000))) ≡ Some k
whole_written k =
    let none : (k * 1000000) % 1000000 ≡ 0 = omega arith in
    let same : (k * 1000000) / 1000000 ≡ k = omega arith in
    rw (none, same) refl

-- Both tests say the same.
abbrev agree : Bool → Bool → Bool
agree true b = b
agree false b = not b

-- There is a row, and it is of this kind.
abbrev of_kind : (CodeKind → Bool) → Option Row → Bool
of_kind is_kind None = false
of_kind is_kind (Some row) = is_kind row.kind

-- There is a number, and it passes the test.
abbrev of_number : (ℤ → Bool) → Option ℤ → Bool
of_number p None = false
of_number p (Some z) = p z

-- In the table of the system this code, and no other, is of the kind.
pub record IsKindOf (system : System) (is_kind : CodeKind → Bool) (code : ℕ) : Type 0 where
  -- Each row is of the kind exactly if it is of the code.
  pub alone : list_all (λ (row : Row). agree (is_kind row.kind) (row.code == code)) (rows_of_system system) ≡ true
  -- The table has a row of the code, and it is of the kind.
  pub there : of_kind is_kind (row_of (rows_of_system system) code) ≡ true

-- A G word is of the kind exactly if it is of that code.
kind_of_word : (system : System) (is_kind : CodeKind → Bool) (code : ℕ) → IsKindOf system is_kind code → (w : Option ℤ)
    → of_number (is_g (code * 1000000)) w ≡ of_kind is_kind (row_of_number system (whole_of_written w))
kind_of_word system is_kind code of None = refl
kind_of_word system is_kind code of (Some z) = go (is_g (code * 1000000) z) refl (whole_of_written (Some z)) refl
  where
    is_that : (y : ℤ) → is_g (code * 1000000) y ≡ true → y ≡ pos (code * 1000000)
    is_that (pos n) e = ap pos (eqb-true n (code * 1000000) e)
    is_that (negsuc n) e = absurd (cc)

    is_none : (k : ℕ) → is_g (code * 1000000) z ≡ false → whole_of_written (Some z) ≡ Some k → (row : Option Row)
        → row_of (rows_of_system system) k ≡ row → false ≡ of_kind is_kind row
    is_none k other whole None found = refl
    is_none k other whole (Some row) found = kind (is_kind row.kind) refl
      where
        kind : (b : Bool) → is_kind row.kind ≡ b → false ≡ b
        kind false e = refl
        kind true e =
            let both = row_passes system (λ (r : Row). agree (is_kind r.kind) (r.code == code)) k row found of.alone in
            let same : (row.code == code) ≡ true = subst (λ b. agree b (row.code == code) ≡ true) e both.1 in
            let k_is : k ≡ code = sym both.0 ∙ eqb-true row.code code same in
            let z_is : Some z ≡ Some (pos (code * 1000000)) = written_whole (Some z) k whole ∙ ap (λ n. Some (pos (n * 1000000))) k_is in
            let own : is_g (code * 1000000) z ≡ true = let e : z ≡ pos (code * 1000000) = cc in rw e (eq-eqb _ _ refl) in
            cc

    go : (b : Bool) → is_g (code * 1000000) z ≡ b → (k : Option ℕ) → whole_of_written (Some z) ≡ k → b ≡ of_kind is_kind (row_of_number system k)
    go true e k whole =
        let code_is : k ≡ Some code = sym whole ∙ ap (λ y. whole_of_written (Some y)) (is_that z e) ∙ whole_written code in
        rw code_is (sym of.there)
    go false e None whole = refl
    go false e (Some k) whole = is_none k e whole (row_of (rows_of_system system) k) refl

-- A text of the words is a G code of so many millionths exactly if a word has a row of the kind.
pub same_kind : (system : System) (is_kind : CodeKind → Bool) (code : ℕ) → IsKindOf system is_kind code → (texts : List Word) (words : List FlowWord)
    → AreSaid texts words
    → list_any (is_g (code * 1000000)) (filter_map written_micro texts) ≡ list_any (λ (row : Row). is_kind row.kind) (filter_map (row_of_read system) words)
same_kind system is_kind code of _ _ none = refl
same_kind system is_kind code of _ _ (one_more text word texts words is others) =
    go (written_micro text) (row_of_read system word)
    (kind_of_word system is_kind code of (written_micro text) ∙ ap (of_kind is_kind) (same_row system text word is))
    (same_kind system is_kind code of texts words others)
  where
    go : (w : Option ℤ) (r : Option Row) → of_number (is_g (code * 1000000)) w ≡ of_kind is_kind r
        → list_any (is_g (code * 1000000)) (filter_map written_micro texts) ≡ list_any (λ (row : Row). is_kind row.kind) (filter_map (row_of_read system) words)
        → list_any (is_g (code * 1000000)) (cons_option w (filter_map written_micro texts))
        ≡ list_any (λ (row : Row). is_kind row.kind) (cons_option r (filter_map (row_of_read system) words))
    go None None e rest = rest
    go None (Some row) e rest = rw (sym e) rest
    go (Some z) None e rest = rw e rest
    go (Some z) (Some row) e rest = rw (e, rest) refl

-- In both systems 65 is the one code of a macro call.
pub macro_is : (system : System) → IsKindOf system is_macro_call 65
macro_is A = record { alone = refl; there = refl }
macro_is B = record { alone = refl; there = refl }

-- In both systems 10 is the one code of a setting.
pub setting_is : (system : System) → IsKindOf system is_setting 10
setting_is A = record { alone = refl; there = refl }
setting_is B = record { alone = refl; there = refl }

-- A G text takes the P exactly if a word is a dwell or a setting.
pub same_takes : (system : System) (texts : List Word) (words : List FlowWord) → AreSaid texts words
    → list_any (λ (t : Word). takes_p (row_of_word system t)) texts
    ≡ (list_any (λ (row : Row). is_dwell row.kind) (filter_map (row_of_read system) words)
    || list_any (λ (row : Row). is_setting row.kind) (filter_map (row_of_read system) words))
same_takes system _ _ none = refl
same_takes system _ _ (one_more text word texts words is others) =
    rw (same_row system text word is, same_takes system texts words others) (go (row_of_read system word))
  where
    either : (a b c d : Bool) → ((a || b) || (c || d)) ≡ ((a || c) || (b || d))
    either true b c d = refl
    either false true true d = refl
    either false true false d = refl
    either false false c d = refl

    dwells : Bool
    dwells = list_any (λ (row : Row). is_dwell row.kind) (filter_map (row_of_read system) words)

    sets : Bool
    sets = list_any (λ (row : Row). is_setting row.kind) (filter_map (row_of_read system) words)

    go : (r : Option Row) → (takes_p r || (dwells || sets))
        ≡ (list_any (λ (row : Row). is_dwell row.kind) (cons_option r (filter_map (row_of_read system) words))
        || list_any (λ (row : Row). is_setting row.kind) (cons_option r (filter_map (row_of_read system) words)))
    go None = refl
    go (Some row) = either (is_dwell row.kind) (is_setting row.kind) dwells sets

-- The G word of the text has a row in the table of the system.
record HasRow (system : System) (text : Word) : Type 0 where
  -- Its row.
  row : Row
  -- It is the row of the word.
  found : row_of_word system text ≡ Some row
  -- The text writes out the row's code.
  written : written_micro text ≡ Some (pos (row.code * 1000000))
  -- The row passes what all rows pass.
  passes : (q : Row → Bool) → list_all q (rows_of_system system) ≡ true → q row ≡ true

-- A row that is found for a number has this number as its code.
number_row : (system : System) (n : Option ℕ) (row : Row) → row_of_number system n ≡ Some row → n ≡ Some row.code
number_row system None row e = absurd (cc)
number_row system (Some k) row e =
    ap Some (sym (row_passes system (λ _. true) k row e (in_each (λ _. true) refl refl system)).0)

-- A row that is found for a number passes what all rows pass.
row_passes_all : (system : System) (n : Option ℕ) (row : Row) → row_of_number system n ≡ Some row → (q : Row → Bool)
    → list_all q (rows_of_system system) ≡ true → q row ≡ true
row_passes_all system None row e q all = absurd (cc)
row_passes_all system (Some k) row e q all = (row_passes system q k row e all).1

-- A G word that is written out and known has a row.
has_row : (system : System) (text : Word) (word : FlowWord) → IsSaid text word → is_computed word.value ≡ false
    → is_unknown_code system word ≡ false → HasRow system text
has_row system text word is plain known = go (row_of_read system word) refl
  where
    go : (r : Option Row) → row_of_read system word ≡ r → HasRow system text
    go None e =
        let no : (not (is_computed word.value) && is_refused_row (row_of_read system word)) ≡ true = rw (plain, e) refl in absurd (cc)
    go (Some row) e =
        let here : row_of_number system (whole_of_word text) ≡ Some row = same_row system text word is ∙ e in
        record {
          row = row;
          found = here;
          written = written_whole (written_micro text) row.code (number_row system (whole_of_word text) row here);
          passes = row_passes_all system (whole_of_word text) row here;
        }

-- A test that no code of the table passes, no G text of words that are known passes.
pub no_such_g : (system : System) (p : ℤ → Bool) → list_all (λ (row : Row). not (p (pos (row.code * 1000000)))) (rows_of_system system) ≡ true
    → (texts : List Word) (words : List FlowWord) → AreSaid texts words → list_any (is_unknown_code system) words ≡ false
    → list_any (λ (w : FlowWord). is_computed w.value) words ≡ false → list_any p (filter_map written_micro texts) ≡ false
no_such_g system p all _ _ none known plain = refl
no_such_g system p all _ _ (one_more text word texts words is others) known plain =
    let knows = neither _ _ known in
    let plains = neither _ _ plain in
    let own = has_row system text word is plains.0 knows.0 in
    let not_this : p (pos (own.row.code * 1000000)) ≡ false = not_true _ (own.passes (λ (row : Row). not (p (pos (row.code * 1000000)))) all) in
    rw (own.written, not_this) (no_such_g system p all texts words others knows.1 plains.1)

-- Each G text of words that are known and written out has a row.
pub each_has_row : (system : System) (texts : List Word) (words : List FlowWord) → AreSaid texts words → list_any (is_unknown_code system) words ≡ false
    → list_any (λ (w : FlowWord). is_computed w.value) words ≡ false → list_any (λ (t : Word). is_no_row (row_of_word system t)) texts ≡ false
each_has_row system _ _ none known plain = refl
each_has_row system _ _ (one_more text word texts words is others) known plain =
    let knows = neither _ _ known in
    let plains = neither _ _ plain in
    let own = has_row system text word is plains.0 knows.0 in
    rw own.found (each_has_row system texts words others knows.1 plains.1)
