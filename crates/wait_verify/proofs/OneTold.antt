-- What is told of an accepted pair is one text. Proofs of other crates use it.
use Rattle.std.proofs.Common.{◌≡◌, ℕ, List, [], ◌∷◌, Ok, refl, ap, sym, subst, ◌∙◌}
use Rattle.nc_number.specs.declared.path.Path.TheVariants.{One, Two}
use Rattle.nc_text.specs.declared.tape.Program.{Program}
use Rattle.cell_settings.specs.Cell.{Cell, settings_of}
use Rattle.block_order.specs.declared.program.ControlProgram.{ControlProgram}
use Rattle.label_list.specs.declared.labelled.Labelled.{Labelled}
use Rattle.label_list.specs.Lists.{path_labels}
use Rattle.nc_verify.specs.Verdict.{skips_of}
use Rattle.nc_verify.proofs.NotBoth.{one_cell}
use Rattle.open_order.specs.Trusted.{TrustView, no_trust, with_tape}
use Rattle.wait_verify.specs.declared.standing.Standing.{Standing}
use Rattle.wait_verify.specs.declared.switches.TheConstants.{LAST_POSITION}
use Rattle.wait_verify.specs.Asked.{Asked, at}
use Rattle.wait_verify.specs.Switches.{cell_of, free_switches, positions_to}
use Rattle.wait_verify.specs.Hangings.{hangings_to}
use Rattle.wait_verify.specs.Printed.{waits_text}
use Rattle.wait_verify.specs.Verdict.{Judged, AreAcceptedAt, IsLeftOrder, IsRightOrder, AreListed, AreAccepted, IsTold, premises_of, trust_of, standing_of, with_hangings}
use Rattle.wait_verify.proofs.NotBoth.{same_order, same_programs}

-- Two judgements of one pair at one position are one.
pub record AreSame (judged other : Judged) : Type 0 where
  pub cell : judged.cell ≡ other.cell
  pub left_tape : judged.left_tape ≡ other.left_tape
  pub right_tape : judged.right_tape ≡ other.right_tape
  pub left : judged.left ≡ other.left
  pub right : judged.right ≡ other.right

-- A pair is judged in one way at a position.
same_judged : (asked : Asked) (judged other : Judged) → AreAcceptedAt asked judged → AreAcceptedAt asked other → AreSame judged other
same_judged asked judged other is too =
    let orders = is.orders in
    let others = too.orders in
    let cell : judged.cell ≡ other.cell = one_cell judged.cell other.cell (cell_of asked) orders.settings_are others.settings_are in
    let one : IsLeftOrder asked other.cell judged.left_tape judged.left =
    subst (λ c. IsLeftOrder asked c judged.left_tape judged.left) cell orders.left_is in
    let two : IsRightOrder asked other.cell judged.right_tape judged.right =
    subst (λ c. IsRightOrder asked c judged.right_tape judged.right) cell orders.right_is in
    record {
      cell = cell;
      left_tape =
          same_programs (premises_of asked other.cell) (skips_of One other.cell) asked.texts.left judged.left_tape other.left_tape
          judged.left other.left one others.left_is;
      right_tape =
          same_programs (premises_of asked other.cell) (skips_of Two other.cell) asked.texts.right judged.right_tape other.right_tape
          judged.right other.right two others.right_is;
      left =
          same_order (premises_of asked other.cell) (skips_of One other.cell) asked.texts.left judged.left_tape other.left_tape
          judged.left other.left one others.left_is;
      right =
          same_order (premises_of asked other.cell) (skips_of Two other.cell) asked.texts.right judged.right_tape other.right_tape
          judged.right other.right two others.right_is;
    }

-- The labels of a pair at a position are one standing.
same_standing : (asked : Asked) (position : ℕ) (judged other : Judged) (a b : Standing) → AreAcceptedAt (at position asked) judged
    → AreAcceptedAt (at position asked) other → a ≡ standing_of position judged → b ≡ standing_of position other → a ≡ b
same_standing asked position judged other a b is too x y =
    let same = same_judged (at position asked) judged other is too in
    x ∙ (λ i. record { switches = position; one = path_labels (same.left i); two = path_labels (same.right i) }) ∙ sym y

-- The labels of a pair at given positions are one list.
listed_once : (asked : Asked) (positions : List ℕ) (a b : List Standing) → AreListed asked positions a → AreListed asked positions b → a ≡ b
listed_once asked [] [] [] x y = refl
listed_once asked [] [] (q ∷ b) x y = absurd y
listed_once asked [] (p ∷ a) b x y = absurd x
listed_once asked (position ∷ positions) [] b x y = absurd x
listed_once asked (position ∷ positions) (p ∷ a) [] x y = absurd y
listed_once asked (position ∷ positions) (p ∷ a) (q ∷ b) x y =
    let same : p ≡ q = same_standing asked position x.0.0 y.0.0 p q x.0.1 y.0.1 x.0.2 y.0.2 in
    let rest : a ≡ b = listed_once asked positions a b x.1 y.1 in
    λ i. same i ∷ rest i

-- the answers to one question about the waits of a pair have one text
pub one_text : (asked : Asked) (judged other : Judged) (left left' right right' : List Labelled) (trust trust' : TrustView)
    → IsTold asked judged left right trust → IsTold asked other left' right' trust'
    → waits_text left right trust ≡ waits_text left' right' trust'
one_text asked judged other left left' right right' trust trust' is too =
    let same = same_judged (at 0 asked) judged other is.accepted.first too.accepted.first in
    let cell : is.accepted.cell ≡ too.accepted.cell =
    one_cell is.accepted.cell too.accepted.cell (settings_of asked.texts.settings) is.accepted.settings_are too.accepted.settings_are in
    let standings : is.accepted.standings ≡ too.accepted.standings =
    listed_once asked (positions_to LAST_POSITION (free_switches asked too.accepted.cell)) is.accepted.standings too.accepted.standings
    (subst (λ c. AreListed asked (positions_to LAST_POSITION (free_switches asked c)) is.accepted.standings) cell is.accepted.others.listed)
    too.accepted.others.listed in
    let first : standing_of 0 judged ≡ standing_of 0 other =
    same_standing asked 0 judged other (standing_of 0 judged) (standing_of 0 other) is.accepted.first too.accepted.first refl refl in
    let lefts : left ≡ left' = is.left_are ∙ ap path_labels same.left ∙ sym too.left_are in
    let rights : right ≡ right' = is.right_are ∙ ap path_labels same.right ∙ sym too.right_are in
    let trusted : trust_of asked judged ≡ trust_of asked other =
    λ i. with_tape (premises_of asked (same.cell i)) (with_tape (premises_of asked (same.cell i)) no_trust (same.left_tape i)) (same.right_tape i) in
    let hanging : hangings_to 9 (standing_of 0 judged ∷ is.accepted.standings) ≡ hangings_to 9 (standing_of 0 other ∷ too.accepted.standings) =
    λ i. hangings_to 9 (first i ∷ standings i) in
    let trusts : trust ≡ trust' = is.trust_is ∙ (λ i. with_hangings (trusted i) (hanging i)) ∙ sym too.trust_is in
    λ i. waits_text (lefts i) (rights i) (trusts i)
