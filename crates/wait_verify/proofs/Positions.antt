-- A pair at all positions of its free switches: it is accepted or refused, and not both; it has one
-- refusal at most; its labels at them are one list. For the laws of src/laws.rt and for `verdict`
-- (src/verifying.rt).
use Rattle.std.proofs.Common.{◌≡◌, ◌≢◌, ℕ, zero, suc, ◌<◌, ◌≤◌, ◌⊎◌, inl, inr, Bool, true, false, List, [], ◌∷◌, ◌++◌, ◌==◌, Result, Ok, Err, refl, ap, sym, subst, ◌∙◌, arith}
use Rattle.std.proofs.lemmas.Bool.{cases_eq, cases_lt}
use Rattle.std.proofs.lemmas.List.{append-nil}
use Rattle.std.specs.Int.Bits.{or_zero_r}
use Rattle.std.proofs.Math.Dec.{eqb-suc-zero}
use Rattle.cell_settings.specs.Cell.{Cell, settings_of}
use Rattle.block_order.specs.declared.program.ControlProgram.{ControlProgram}
use Rattle.flow_laws.specs.Answers.{CantBothFail, HasOneFirst, HasSomeFirst}
use Rattle.pair_order.specs.Pairs.{IsPair, IsNeverStuck}
use Rattle.nc_verify.specs.declared.refusal.Refusal.{Refusal}
use Rattle.nc_verify.specs.Refusals.{at_position}
use Rattle.nc_verify.proofs.NotBoth.{one_cell}
use Rattle.nc_verify.proofs.SomeAnswer.{ByLists, OneList}
use Rattle.wait_verify.specs.declared.standing.Standing.{Standing}
use Rattle.wait_verify.specs.declared.switches.TheConstants.{LAST_POSITION}
use Rattle.wait_verify.specs.Asked.{Asked, at}
use Rattle.wait_verify.specs.Switches.{cell_of, cell_or_line, free_switches, is_position, positions_to}
use Rattle.wait_verify.specs.Verdict.{Judged, AreAcceptedAt, IsRefusalAt, standing_of, IsStandingAt, AreListed, IsSomeAccepted, AreAcceptedTo, AreAccepted, IsToldRefusal, IsLaterRefusal, IsRefusalOf, IsPositionOf, IsNeverStuckAt}
use Rattle.wait_verify.specs.Verdict.IsRefusalOf.{first, later}
use Rattle.wait_verify.proofs.NotBoth.{not_both}
use Rattle.wait_verify.proofs.OneRefusal.{one_refusal}
use Rattle.wait_verify.proofs.SomeAnswer.{some_answer}

-- One position more.

-- The list of positions with one position more, and the labels there.
listed_push : (asked : Asked) (positions : List ℕ) (standings : List Standing) (position : ℕ) (standing : Standing)
    → AreListed asked positions standings → IsStandingAt asked position standing
    → AreListed asked (positions ++ position ∷ []) (standings ++ standing ∷ [])
listed_push asked [] [] position standing all is = (is, tt)
listed_push asked [] (x ∷ xs) position standing all is = absurd all
listed_push asked (p ∷ ps) [] position standing all is = absurd all
listed_push asked (p ∷ ps) (x ∷ xs) position standing all is = (all.0, listed_push asked ps xs position standing all.1 is)

-- A pair is accepted up to one position more, if it is accepted at that one.
pub accepted_more : (asked : Asked) (free n : ℕ) (standings : List Standing) (standing : Standing) → AreAcceptedTo asked free n standings
    → is_position free (suc n) ≡ true → IsStandingAt asked (suc n) standing
    → AreAcceptedTo asked free (suc n) (standings ++ standing ∷ [])
accepted_more asked free n standings standing all here is = record {
  each = λ position least greatest free_there. elim (cases_eq position (suc n)) [
    | inl same ↦ subst (λ p. IsSomeAccepted (at p asked)) (sym same) (is.0, is.1)
    | inr other ↦ all.each position least (omega (arith, greatest, other)) free_there
  ];
  listed = rw here (listed_push asked (positions_to n free) standings (suc n) standing all.listed is);
}

-- A pair is accepted up to a number that is no position, if it is up to the one before.
pub accepted_same : (asked : Asked) (free n : ℕ) (standings : List Standing) → AreAcceptedTo asked free n standings
    → is_position free (suc n) ≡ false → AreAcceptedTo asked free (suc n) standings
accepted_same asked free n standings all here = record {
  each = λ position least greatest free_there. elim (cases_eq position (suc n)) [
    | inl same ↦ absurd (let e : true ≡ false = sym free_there ∙ ap (is_position free) same ∙ here in cc)
    | inr other ↦ all.each position least (omega (arith, greatest, other)) free_there
  ];
  listed = rw here (nothing_more (positions_to n free) all.listed);
}
  where
    nothing_more : (positions : List ℕ) → AreListed asked positions standings → AreListed asked (positions ++ []) standings
    nothing_more positions is = subst (λ (ps : List ℕ). AreListed asked ps standings) (sym (append-nil positions)) is

-- Not both.

-- The pair is accepted at each position of its free switches.
pub at_each : (asked : Asked) (judged : Judged) → AreAccepted asked judged → (position : ℕ) → IsPositionOf asked position
    → IsSomeAccepted (at position asked)
at_each asked judged ok position is = elim (cases_eq position 0) [
  | inl same ↦ subst (λ p. IsSomeAccepted (at p asked)) (sym same) (judged, ok.first)
  | inr other ↦ ok.others.each position (omega (arith, other)) is.within
      (subst (λ c. is_position (free_switches asked c) position ≡ true)
      (one_cell is.cell ok.cell (settings_of asked.texts.settings) is.settings_are ok.settings_are) is.is)
]

-- No pair is both accepted and refused.
pub accepted_or_refused : ByLists → (asked : Asked) (judged : Judged) (told : Refusal) → AreAccepted asked judged → IsRefusalOf asked told → ⊥
accepted_or_refused lists asked judged told ok (first refused) = not_both lists (at 0 asked) judged told ok.first refused
accepted_or_refused lists asked judged told ok (later cell other read accepted refused) =
    let there = at_each asked judged ok refused.position
    (record { cell = cell; settings_are = read; within = refused.greatest; is = refused.is }) in
    not_both lists (at refused.position asked) there.0 refused.refused.0 there.1 refused.refused.1

-- One refusal.

-- Two refusals that are told of one position are one.
same_told : HasOneFirst → (asked : Asked) (position : ℕ) (a b : Refusal) → IsToldRefusal asked position a → IsToldRefusal asked position b → a ≡ b
same_told law asked position a b x y =
    x.2 ∙ ap (at_position position) (one_refusal law (at position asked) x.0 y.0 x.1 y.1) ∙ sym y.2

-- A pair is not refused first at a position below another one at which it is refused first.
not_lower : ByLists → (asked : Asked) (free : ℕ) (a b : Refusal) (x : IsLaterRefusal asked free a) (y : IsLaterRefusal asked free b)
    → x.position < y.position → ⊥
not_lower lists asked free a b x y less =
    let there = y.lower x.position x.least less x.is in
    not_both lists (at x.position asked) there.0 x.refused.0 there.1 x.refused.1

-- There is one first refusal at a later position.
one_later : HasOneFirst → ByLists → (asked : Asked) (free : ℕ) (a b : Refusal) → IsLaterRefusal asked free a → IsLaterRefusal asked free b → a ≡ b
one_later law lists asked free a b x y = elim (cases_lt x.position y.position) [
  | inl lower ↦ absurd (not_lower lists asked free a b x y lower)
  | inr reached ↦ elim (cases_lt y.position x.position) [
    | inl higher ↦ absurd (not_lower lists asked free b a y x higher)
    | inr also ↦
        let same : x.position ≡ y.position = omega (arith, reached, also) in
        same_told law asked y.position a b (subst (λ p. IsToldRefusal asked p a) same x.refused) y.refused
  ]
]

-- A pair has one refusal at most.
pub one_for_all : HasOneFirst → ByLists → (asked : Asked) (a b : Refusal) → IsRefusalOf asked a → IsRefusalOf asked b → a ≡ b
one_for_all law lists asked a b (first x) (first y) = one_refusal law (at 0 asked) a b x y
one_for_all law lists asked a b (first x) (later cell judged read accepted y) =
    absurd (not_both lists (at 0 asked) judged a accepted x)
one_for_all law lists asked a b (later cell judged read accepted x) (first y) =
    absurd (not_both lists (at 0 asked) judged b accepted y)
one_for_all law lists asked a b (later cell judged read accepted x) (later other own again too y) =
    let same : cell ≡ other = one_cell cell other (settings_of asked.texts.settings) read again in
    one_later law lists asked (free_switches asked other) a b (subst (λ c. IsLaterRefusal asked (free_switches asked c) a) same x) y

-- Some answer.

-- Up to a number a pair is accepted at each position of these switches, or it is refused at one.
some_to : HasSomeFirst → OneList → ByLists → (asked : Asked) (free n : ℕ) → n ≤ LAST_POSITION
    → CantBothFail ((standings : List Standing) × AreAcceptedTo asked free n standings) ((told : Refusal) × IsLaterRefusal asked free told)
some_to law unforked lists asked free zero within unaccepted unrefused =
    unaccepted ([], record { each = λ position least greatest is. absurd (omega (arith, least, greatest)); listed = tt })
some_to law unforked lists asked free (suc n) within unaccepted unrefused =
    some_to law unforked lists asked free n (omega (arith, within)) (λ has. go (is_position free (suc n)) refl has.0 has.1) unrefused
  where
    go : (b : Bool) → is_position free (suc n) ≡ b → (standings : List Standing) → AreAcceptedTo asked free n standings → ⊥
    go false is standings has = unaccepted (standings, accepted_same asked free n standings has is)
    go true is standings has =
        some_answer law unforked lists (at (suc n) asked)
        (λ own. unaccepted (
          standings ++ standing_of (suc n) own.0 ∷ [],
          accepted_more asked free n standings (standing_of (suc n) own.0) has is (own.0, own.1, refl),
        ))
        (λ own. unrefused (
          at_position (suc n) own.0,
          record {
            position = suc n;
            least = omega arith;
            greatest = within;
            is = is;
            lower = λ other least less there. has.each other least (omega (arith, less)) there;
            refused = (own.0, own.1, refl);
          },
        ))

-- A pair is accepted or refused.
pub some_for_all : HasSomeFirst → OneList → ByLists → (asked : Asked)
    → CantBothFail ((judged : Judged) × AreAccepted asked judged) ((told : Refusal) × IsRefusalOf asked told)
some_for_all law unforked lists asked unaccepted unrefused =
    some_answer law unforked lists (at 0 asked) (λ own. go (settings_of asked.texts.settings) refl own.0 own.1)
    (λ own. unrefused (own.0, first own.1))
  where
    go : (read : Result Cell ℕ) → settings_of asked.texts.settings ≡ read → (judged : Judged) → AreAcceptedAt (at 0 asked) judged → ⊥
    go (Err line) is judged ok =
        absurd (let e : ◌≡◌ {A = Result Cell ℕ} (Ok judged.cell) (Err line) = sym ok.orders.settings_are ∙ ap (cell_or_line 0) is in cc)
    go (Ok cell) is judged ok =
        some_to law unforked lists asked (free_switches asked cell) LAST_POSITION (omega arith)
        (λ has. unaccepted (judged, record { cell = cell; settings_are = is; first = ok; standings = has.0; others = has.1 }))
        (λ own. unrefused (own.0, later cell judged is ok own.1))

-- Never stuck.

-- At each position no path waits in vain.
pub never_stuck_at_each : ((left right : List ControlProgram) → IsPair left right → IsNeverStuck left right) → (asked : Asked) (judged : Judged)
    → AreAccepted asked judged → (position : ℕ) → IsPositionOf asked position → IsNeverStuckAt (at position asked)
never_stuck_at_each law asked judged ok position is =
    let there = at_each asked judged ok position is in (
      there.0,
      there.1,
      law there.0.left there.0.right (record {
        left_unforked = there.1.pair.left_unforked;
        right_unforked = there.1.pair.right_unforked;
        equal = there.1.pair.same;
      }),
    )

-- Without a free switch.

-- If no switch is free, the first position is the only one.
pub none_free : (asked : Asked) (n : ℕ) → AreAcceptedTo asked 0 n []
none_free asked zero = record { each = λ position least greatest is. absurd (omega (arith, least, greatest)); listed = tt }
none_free asked (suc n) = accepted_same asked 0 n [] (none_free asked n) (no_position n)
  where
    no_position : (m : ℕ) → is_position 0 (suc m) ≡ false
    no_position m = ap (λ (k : ℕ). k == 0) (or_zero_r (suc m)) ∙ eqb-suc-zero m
