-- What is answered of a pair by its answers at the positions of its free switches: for
-- `stand_at_others` and `verdict` (src/verifying.rt).
use Rattle.std.proofs.Common.{◌≡◌, ℕ, suc, ◌+◌, ◌<◌, ◌≤◌, Bool, true, false, List, [], ◌∷◌, ◌++◌, Ok, refl, ap, sym, subst, ◌∙◌, arith}
use Rattle.nc_number.specs.declared.fault.Failing.{Failing}
use Rattle.cell_settings.specs.Cell.{Cell, settings_of}
use Rattle.block_order.specs.Answers.{IfFault}
use Rattle.label_list.specs.declared.labelled.Labelled.{Labelled}
use Rattle.nc_verify.specs.declared.refusal.Refusal.{Refusal}
use Rattle.nc_verify.proofs.Refused.{by_refusal}
use Rattle.open_order.specs.Trusted.{TrustView}
use Rattle.wait_verify.specs.declared.standing.Standing.{Standing}
use Rattle.wait_verify.specs.declared.switches.TheConstants.{LAST_POSITION}
use Rattle.wait_verify.specs.Asked.{Asked, at}
use Rattle.wait_verify.specs.Switches.{free_switches, is_position}
use Rattle.wait_verify.specs.Hangings.{hangings_to}
use Rattle.wait_verify.specs.Verdict.{Judged, IsToldAt, AreAcceptedAt, IsRefusalAt, IsStandingAt, AreAcceptedTo, IsToldRefusal, HasOthers, IsLaterRefusal, standing_of, with_hangings, IsTold, IsRefusalOf}
use Rattle.wait_verify.specs.Verdict.IsRefusalOf.{first, later}
use Rattle.wait_verify.proofs.Positions.{accepted_more, accepted_same}

-- The labels at the first position alone.
pub no_others : (asked : Asked) (free : ℕ) (own : Standing) (standings : List Standing) → standings ≡ own ∷ []
    → HasOthers asked free 0 own standings
no_others asked free own standings is =
    ([], is, record { each = λ position least greatest there. absurd (omega (arith, least, greatest)); listed = tt })

-- The labels with those at one position more.
pub others_more : (asked : Asked) (free n position : ℕ) (own : Standing) (standings : List Standing) (standing : Standing)
    → position ≡ n + 1 → HasOthers asked free n own standings → is_position free position ≡ true → IsStandingAt asked position standing
    → HasOthers asked free (n + 1) own (standings ++ standing ∷ [])
others_more asked free n position own standings standing place has here is =
    let next : suc n ≡ n + 1 = omega arith in
    let at_next : position ≡ suc n = omega (arith, place) in
    subst (λ k. HasOthers asked free k own (standings ++ standing ∷ [])) next (
      has.0 ++ standing ∷ [],
      ap (λ (l : List Standing). l ++ standing ∷ []) has.1,
      accepted_more asked free n has.0 standing has.2 (subst (λ k. is_position free k ≡ true) at_next here)
          (subst (λ k. IsStandingAt asked k standing) at_next is),
    )

-- The labels up to a number that is no position.
pub others_same : (asked : Asked) (free n position : ℕ) (own : Standing) (standings : List Standing) → position ≡ n + 1
    → HasOthers asked free n own standings → is_position free position ≡ false → HasOthers asked free (n + 1) own standings
others_same asked free n position own standings place has here =
    let next : suc n ≡ n + 1 = omega arith in
    let at_next : position ≡ suc n = omega (arith, place) in
    subst (λ k. HasOthers asked free k own standings) next
    (has.0, has.1, accepted_same asked free n has.0 has.2 (subst (λ k. is_position free k ≡ false) at_next here))

-- A refusal at a position, behind positions at which the pair is accepted, is the first one.
pub refused_later : (asked : Asked) (free n position : ℕ) (own : Standing) (standings : List Standing) (error : Failing Refusal)
    → position ≡ n + 1 → n < LAST_POSITION → HasOthers asked free n own standings → is_position free position ≡ true
    → IfFault error (IsToldRefusal asked position) → IfFault error (IsLaterRefusal asked free)
refused_later asked free n position own standings error place within has here refused =
    by_refusal (IsToldRefusal asked position) (IsLaterRefusal asked free) error
    (λ told is. record {
      position = position;
      least = omega (arith, place);
      greatest = omega (arith, place, within);
      is = here;
      lower = λ other least less there. has.2.each other least (omega (arith, less, place)) there;
      refused = is;
    }) refused

-- A pair is refused at the first position.
pub first_refused : (asked : Asked) (error : Failing Refusal) → IfFault error (IsRefusalAt (at 0 asked)) → IfFault error (IsRefusalOf asked)
first_refused asked error refused =
    by_refusal (IsRefusalAt (at 0 asked)) (IsRefusalOf asked) error (λ told own. first own) refused

-- A pair is refused at a later position.
pub other_refused : (asked : Asked) (cell : Cell) (judged : Judged) (free : ℕ) (error : Failing Refusal)
    → settings_of asked.texts.settings ≡ Ok cell → AreAcceptedAt (at 0 asked) judged → free ≡ free_switches asked cell
    → IfFault error (IsLaterRefusal asked free) → IfFault error (IsRefusalOf asked)
other_refused asked cell judged free error read accepted same refused =
    by_refusal (IsLaterRefusal asked free) (IsRefusalOf asked) error
    (λ told own. later cell judged read accepted (subst (λ f. IsLaterRefusal asked f told) same own)) refused

-- What is told of a pair that is accepted at each position.
pub told_whole : (asked : Asked) (cell : Cell) (judged : Judged) (free : ℕ) (own : Standing) (standings : List Standing)
    (one two l r : List Labelled) (before trust : TrustView) → settings_of asked.texts.settings ≡ Ok cell
    → free ≡ free_switches asked cell → IsToldAt (at 0 asked) judged one two before
    → own ≡ record { switches = 0; one = one; two = two } → HasOthers asked free LAST_POSITION own standings → l ≡ own.one
    → r ≡ own.two → trust ≡ with_hangings before (hangings_to 9 standings) → IsTold asked judged l r trust
told_whole asked cell judged free own standings one two l r before trust read same told own_is has l_is r_is trust_is =
    let here : own ≡ standing_of 0 judged =
    own_is ∙ (λ i. record { switches = 0; one = told.left_are i; two = told.right_are i }) in
    let all : standings ≡ standing_of 0 judged ∷ has.0 = has.1 ∙ (λ i. here i ∷ has.0) in
    record {
      accepted = record {
        cell = cell;
        settings_are = read;
        first = told.accepted;
        standings = has.0;
        others = subst (λ f. AreAcceptedTo asked f LAST_POSITION has.0) same has.2;
      };
      left_are = l_is ∙ ap (λ (s : Standing). s.one) here;
      right_are = r_is ∙ ap (λ (s : Standing). s.two) here;
      trust_is = trust_is ∙ (λ i. with_hangings (told.trust_is i) (hangings_to 9 (all i)));
    }
