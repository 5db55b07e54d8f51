-- The rows of a parse, in which `clap` keeps what an argument was given, as a list of uses: an
-- argument and its text each. For Steps, Stories and all that rest on them: not for Building and
-- FromMatches.
use Rattle.std.proofs.Common.{◌≡◌, Bool, true, false, not, cond, ◌&&◌, ◌||◌, List, [], ◌∷◌, ◌++◌, map, filter, Option, Some, None, is_some, refl, sym, ap, subst, ◌∙◌}
use Rattle.std.proofs.Math.Bool.{and-false}
use Rattle.std.specs.List.{find, list_any, slice_get}
use Rattle.std.specs.Option.{option_and_then, option_map_or}
use Rattle.std.specs.Str.{bytes_eq}
use Rattle.std.proofs.lemmas.Bool.{and_parts}
use Rattle.std.proofs.lemmas.List.{append-nil, map-append}
use Rattle.std.proofs.lemmas.Slice.Eq.{bytes_eq-Decides}
use Rattle.clap.specs.Facts.{explicit_source}
use Rattle.clap.specs.Takes.{is_given}
use Rattle.clap.specs.Walk.{Row, Text, at_row, first_of, has_row, more_values, with_values, without}
use Rattle.clap.specs.declared.builder.value_parser.Reading.TheVariants.{AsWritten}
use Rattle.clap.specs.declared.parser.matches.ValueSource.TheVariants.{CommandLine}
use Rattle.command_words.specs.Listed.{Marked, stand_once, text_in}

-- An argument's name and its text.
abbrev pub Used : Type 0
Used = Marked

-- The row that clap keeps of a use.
abbrev pub row_of_use : Used → Row
row_of_use one = record { id = one.0; values = one.1 ∷ []; count = None; source = Some CommandLine; reading = AsWritten }

-- The text of the first use of an argument.
abbrev pub value_in : Text → List Used → Option Text
value_in = text_in

-- The first text in the rows is that of the uses.
pub first_of-uses : (id : Text) (uses : List Used) → first_of id (map row_of_use uses) ≡ value_in id uses
first_of-uses id [] = refl
first_of-uses id (one ∷ uses) =
    elim (bytes_eq one.0 id) as (λ b. option_and_then (λ r. slice_get r.values 0) (cond b (Some (row_of_use one)) (find (λ r. bytes_eq r.id id) (map row_of_use uses))) ≡ cond b (Some one.1) (value_in id uses))
    [ true ↦ refl | false ↦ first_of-uses id uses ]

-- An argument has a row exactly if it was used.
pub has_row-uses : (id : Text) (uses : List Used) → has_row id (map row_of_use uses) ≡ is_some (value_in id uses)
has_row-uses id [] = refl
has_row-uses id (one ∷ uses) =
    elim (bytes_eq one.0 id) as (λ b. (b || has_row id (map row_of_use uses)) ≡ is_some (cond b (Some one.1) (value_in id uses)))
    [ true ↦ refl | false ↦ has_row-uses id uses ]

-- An argument counts as given exactly if it was used.
pub is_given-uses : (id : Text) (uses : List Used) → is_given id (map row_of_use uses) ≡ is_some (value_in id uses)
is_given-uses id [] = refl
is_given-uses id (one ∷ uses) =
    elim (bytes_eq one.0 id) as (λ b. option_map_or (λ r. explicit_source r.source) (cond b (Some (row_of_use one)) (find (λ r. bytes_eq r.id id) (map row_of_use uses))) false ≡ is_some (cond b (Some one.1) (value_in id uses)))
    [ true ↦ refl | false ↦ is_given-uses id uses ]

-- A change of the row of an argument that was not used adds a row.
at_row-uses : (id : Text) (change : Row → List Row) (missing : List Row) (uses : List Used) → value_in id uses ≡ None
    → at_row id change missing (map row_of_use uses) ≡ map row_of_use uses ++ missing
at_row-uses id change missing [] none = refl
at_row-uses id change missing (one ∷ uses) none =
    let here : (b : Bool) → cond b (Some one.1) (value_in id uses) ≡ None
    → cond b (change (row_of_use one) ++ map row_of_use uses) (row_of_use one ∷ at_row id change missing (map row_of_use uses)) ≡ row_of_use one ∷ (map row_of_use uses ++ missing)
    = elim [ true ↦ λ some. cc | false ↦ λ gone. ap (λ rows. row_of_use one ∷ rows) (at_row-uses id change missing uses gone) ] in
    here (bytes_eq one.0 id) none

-- A first use adds its row at the end.
pub used-uses : (id text : Text) (uses : List Used) → value_in id uses ≡ None
    → with_values id AsWritten CommandLine (text ∷ []) (without id (map row_of_use uses)) ≡ map row_of_use (uses ++ (id, text) ∷ [])
used-uses id text uses none =
    ap (with_values id AsWritten CommandLine (text ∷ [])) (at_row-uses id (λ _. []) [] uses none ∙ append-nil (map row_of_use uses))
    ∙ at_row-uses id (more_values CommandLine (text ∷ [])) (row_of_use (id, text) ∷ []) uses none
    ∙ sym (map-append row_of_use uses ((id, text) ∷ []))

-- The name is one of the options.
abbrev pub is_known : List Text → Text → Bool
is_known options id = list_any (λ own. bytes_eq own id) options

-- The use is one of an option.
abbrev pub is_marked : List Text → Used → Bool
is_marked options one = is_known options one.0

-- The use is one of a name.
abbrev pub is_name : List Text → Used → Bool
is_name options one = not (is_marked options one)

-- Texts that pass the test of equality are equal.
pub same_text : (a b : Text) → bytes_eq a b ≡ true → a ≡ b
same_text a b e = (bytes_eq-Decides a b).0 e

-- Each text passes the test of equality with itself.
pub same_bytes : (a : Text) → bytes_eq a a ≡ true
same_bytes a = (bytes_eq-Decides a a).1 refl

-- If two texts pass the test of equality, they pass it the other way round.
bytes_eq_refl : (a b : Text) → bytes_eq b a ≡ true → bytes_eq a b ≡ true
bytes_eq_refl a b e = (bytes_eq-Decides a b).1 (sym (same_text b a e))

-- If two texts fail the test of equality, they fail it the other way round.
pub flipped : (a b : Text) → bytes_eq a b ≡ false → bytes_eq b a ≡ false
flipped a b e = go (bytes_eq b a) refl
  where
    go : (same : Bool) → bytes_eq b a ≡ same → same ≡ false
    go true same = sym (bytes_eq_refl a b same) ∙ e
    go false same = refl

-- An option's name differs from one that is none.
known_differs : (options : List Text) (a id : Text) → is_known options a ≡ true → is_known options id ≡ false → bytes_eq a id ≡ false
known_differs options a id e f = go (bytes_eq a id) refl
  where
    go : (same : Bool) → bytes_eq a id ≡ same → same ≡ false
    go true same = sym e ∙ ap (is_known options) (same_text a id same) ∙ f
    go false same = refl

-- A name that is no option's differs from an option's name.
pub unknown_differs : (options : List Text) (a id : Text) → is_known options a ≡ false → is_known options id ≡ true → bytes_eq a id ≡ false
unknown_differs options a id e f = flipped id a (known_differs options id a f e)

-- The text of a name is found among the uses of names.
pub value_in-names : (options : List Text) (id : Text) → is_known options id ≡ false → (uses : List Used) → value_in id uses ≡ value_in id (filter (is_name options) uses)
value_in-names options id other [] = refl
value_in-names options id other (one ∷ uses) =
    let rest = value_in-names options id other uses in
    let here : (b : Bool) → is_marked options one ≡ b
    → cond (bytes_eq one.0 id) (Some one.1) (value_in id uses) ≡ value_in id (cond (not b) (one ∷ filter (is_name options) uses) (filter (is_name options) uses))
    = elim [ true ↦ λ e. rw (known_differs options one.0 id e other) rest | false ↦ λ e. ap (cond (bytes_eq one.0 id) (Some one.1)) rest ] in
    here (is_marked options one) refl

-- The text of an option is found among the uses of options.
pub value_in-marked : (options : List Text) (id : Text) → is_known options id ≡ true → (uses : List Used) → value_in id uses ≡ value_in id (filter (is_marked options) uses)
value_in-marked options id is [] = refl
value_in-marked options id is (one ∷ uses) =
    let rest = value_in-marked options id is uses in
    let here : (b : Bool) → is_marked options one ≡ b
    → cond (bytes_eq one.0 id) (Some one.1) (value_in id uses) ≡ value_in id (cond b (one ∷ filter (is_marked options) uses) (filter (is_marked options) uses))
    = elim [ true ↦ λ e. ap (cond (bytes_eq one.0 id) (Some one.1)) rest | false ↦ λ e. rw (unknown_differs options one.0 id e is) rest ] in
    here (is_marked options one) refl

-- which options stand once

-- What is not in the first list is found in the second.
value_in-append : (id : Text) (a b : List Used) → value_in id a ≡ None → value_in id (a ++ b) ≡ value_in id b
value_in-append id [] b none = refl
value_in-append id (one ∷ a) b none =
    let here : (same : Bool) → cond same (Some one.1) (value_in id a) ≡ None → cond same (Some one.1) (value_in id (a ++ b)) ≡ value_in id b
    = elim [ true ↦ λ some. cc | false ↦ λ gone. value_in-append id a b gone ] in
    here (bytes_eq one.0 id) none

-- A use that stands in a list is found.
is_there : (id text : Text) (a more : List Used) → is_some (value_in id (a ++ (id, text) ∷ more)) ≡ true
is_there id text [] more = rw (same_bytes id) refl
is_there id text (one ∷ a) more =
    elim (bytes_eq one.0 id) as (λ b. is_some (cond b (Some one.1) (value_in id (a ++ (id, text) ∷ more))) ≡ true)
    [ true ↦ refl | false ↦ is_there id text a more ]

-- What is not some is none.
is_none : (o : Option Text) → not (is_some o) ≡ true → o ≡ None
is_none None e = refl
is_none (Some text) e = cc

-- If neither of two gives a text, the test failed and the rest has none.
none_parts : (same : Bool) (text : Text) (o : Option Text) → cond same (Some text) o ≡ None → (same ≡ false) × (o ≡ None)
none_parts true text o e = cc
none_parts false text o e = (refl, e)

-- Options of which each is given once still are, after another one.
pub once_push : (id text : Text) (marked : List Used) → value_in id marked ≡ None → stand_once marked ≡ true → stand_once (marked ++ (id, text) ∷ []) ≡ true
once_push id text [] none once = refl
once_push id text (one ∷ marked) none once =
    let parts = and_parts (not (is_some (value_in one.0 marked))) (stand_once marked) once in
    let apart = none_parts (bytes_eq one.0 id) one.1 (value_in id marked) none in
    let gone : value_in one.0 (marked ++ (id, text) ∷ []) ≡ None
    = value_in-append one.0 marked ((id, text) ∷ []) (is_none (value_in one.0 marked) parts.0) ∙ rw (flipped one.0 id apart.0) refl in
    rw (gone, once_push id text marked apart.1 parts.1) refl

-- An option that is given again is given twice.
pub stands_twice : (id text earlier : Text) (marked more : List Used) → value_in id marked ≡ Some earlier → stand_once (marked ++ (id, text) ∷ more) ≡ false
stands_twice id text earlier [] more e = cc
stands_twice id text earlier (one ∷ marked) more e = here (stands_twice id text earlier marked more) (bytes_eq one.0 id) refl e
  where
    here : (value_in id marked ≡ Some earlier → stand_once (marked ++ (id, text) ∷ more) ≡ false) → (same : Bool) → bytes_eq one.0 id ≡ same
        → cond same (Some one.1) (value_in id marked) ≡ Some earlier
        → (not (is_some (value_in one.0 (marked ++ (id, text) ∷ more))) && stand_once (marked ++ (id, text) ∷ more)) ≡ false
    here again true same found =
        let there : is_some (value_in one.0 (marked ++ (id, text) ∷ more)) ≡ true
        = subst (λ x. is_some (value_in x (marked ++ (id, text) ∷ more)) ≡ true) (sym (same_text one.0 id same)) (is_there id text marked more) in
        rw there refl
    here again false same found = rw (again found) (and-false (not (is_some (value_in one.0 (marked ++ (id, text) ∷ more)))))
