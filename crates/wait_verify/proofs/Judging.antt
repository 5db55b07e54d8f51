-- What is answered of three texts at a position of the switches, by the answers to their parts: for
-- `judge_at` (src/verifying.rt).
use Rattle.std.proofs.Common.{◌≡◌, ℕ, List, Ok, subst, sym}
use Rattle.nc_number.specs.declared.fault.Failing.{Failing}
use Rattle.nc_number.specs.declared.path.Path.{Path}
use Rattle.nc_number.specs.declared.path.Path.TheVariants.{One, Two}
use Rattle.nc_text.specs.declared.tape.Program.{Program}
use Rattle.cell_settings.specs.Cell.{Cell}
use Rattle.block_order.specs.declared.program.ControlProgram.{ControlProgram}
use Rattle.block_order.specs.Answers.{IfFault}
use Rattle.label_list.specs.declared.labelled.Labelled.{Labelled}
use Rattle.label_list.specs.Accepted.{IsAcceptedPair}
use Rattle.label_list.specs.Lists.{path_labels}
use Rattle.nc_verify.specs.declared.refusal.Refusal.{Refusal}
use Rattle.nc_verify.specs.Verdict.{skips_of, dialect_in, IsPairRefusal}
use Rattle.nc_verify.proofs.Refused.{by_refusal}
use Rattle.open_order.specs.declared.premises.Premises.{Premises}
use Rattle.open_order.specs.Trusted.{TrustView, no_trust, with_tape}
use Rattle.wait_verify.specs.Asked.{Asked}
use Rattle.wait_verify.specs.Switches.{cell_of}
use Rattle.wait_verify.specs.Verdict.{premises_of, IsOrderOf, IsTapeRefusal, Judged, AreOrders, IsRefusalAt, IsToldAt}
use Rattle.wait_verify.specs.Verdict.IsRefusalAt.{left, right, pair}

-- The premises that the code made are those of the question under the settings of this cell.
pub record IsPremises (asked : Asked) (cell : Cell) (premises : Premises) : Type 0 where
  -- the code system and the waits of the settings
  pub dialect : premises.dialect ≡ dialect_in cell
  -- the programs that the tapes may lack
  pub outside : premises.outside ≡ asked.outside

-- Premises whose two fields are those of the question are the premises of the question.
same : (asked : Asked) (cell : Cell) (premises : Premises) → IsPremises asked cell premises → premises ≡ premises_of asked cell
same asked cell premises is = λ i. record { dialect = is.dialect i; outside = is.outside i }

-- An order by these premises is one of the question.
order_is : (asked : Asked) (cell : Cell) (premises : Premises) (skips : ℕ) (path : Path) (text : List ℕ) (tape : List Program)
    (own : List ControlProgram) → IsPremises asked cell premises → skips ≡ skips_of path cell
    → IsOrderOf premises skips text tape own → IsOrderOf (premises_of asked cell) (skips_of path cell) text tape own
order_is asked cell premises skips path text tape own is switches ordered =
    subst (λ p. IsOrderOf p (skips_of path cell) text tape own) (same asked cell premises is)
    (subst (λ n. IsOrderOf premises n text tape own) switches ordered)

-- A refusal by these premises is one of the question.
refusal_is : (asked : Asked) (cell : Cell) (premises : Premises) (skips : ℕ) (path : Path) (text : List ℕ) (told : Refusal)
    → IsPremises asked cell premises → skips ≡ skips_of path cell → IsTapeRefusal premises skips path text told
    → IsTapeRefusal (premises_of asked cell) (skips_of path cell) path text told
refusal_is asked cell premises skips path text told is switches refused =
    subst (λ p. IsTapeRefusal p (skips_of path cell) path text told) (same asked cell premises is)
    (subst (λ n. IsTapeRefusal premises n path text told) switches refused)

-- If path 1's tape is refused, the pair is.
pub left_refused : (asked : Asked) (cell : Cell) (premises : Premises) (skips : ℕ) (error : Failing Refusal)
    → cell_of asked ≡ Ok cell → IsPremises asked cell premises → skips ≡ skips_of One cell
    → IfFault error (IsTapeRefusal premises skips One asked.texts.left) → IfFault error (IsRefusalAt asked)
left_refused asked cell premises skips error read is switches refused =
    by_refusal (IsTapeRefusal premises skips One asked.texts.left) (IsRefusalAt asked) error
    (λ told own. left cell read (refusal_is asked cell premises skips One asked.texts.left told is switches own)) refused

-- If path 1's tape has an order and path 2's tape is refused, the pair is.
pub right_refused : (asked : Asked) (cell : Cell) (premises : Premises) (first skips : ℕ) (tape : List Program)
    (own : List ControlProgram) (error : Failing Refusal) → cell_of asked ≡ Ok cell
    → IsPremises asked cell premises → first ≡ skips_of One cell → IsOrderOf premises first asked.texts.left tape own
    → skips ≡ skips_of Two cell → IfFault error (IsTapeRefusal premises skips Two asked.texts.right)
    → IfFault error (IsRefusalAt asked)
right_refused asked cell premises first skips tape own error read is switches ordered others refused =
    by_refusal (IsTapeRefusal premises skips Two asked.texts.right) (IsRefusalAt asked) error
    (λ told fault. right cell tape own read (order_is asked cell premises first One asked.texts.left tape own is switches ordered)
    (refusal_is asked cell premises skips Two asked.texts.right told is others fault)) refused

-- If the settings are allowed and each tape has an order by the code's premises, both have orders.
pub orders_are : (asked : Asked) (judged : Judged) (premises : Premises) (first second : ℕ)
    → cell_of asked ≡ Ok judged.cell → IsPremises asked judged.cell premises → first ≡ skips_of One judged.cell
    → second ≡ skips_of Two judged.cell → IsOrderOf premises first asked.texts.left judged.left_tape judged.left
    → IsOrderOf premises second asked.texts.right judged.right_tape judged.right → AreOrders asked judged
orders_are asked judged premises first second read is switches others one two = record {
  settings_are = read;
  left_is = order_is asked judged.cell premises first One asked.texts.left judged.left_tape judged.left is switches one;
  right_is = order_is asked judged.cell premises second Two asked.texts.right judged.right_tape judged.right is others two;
}

-- If the two orders are no accepted pair, the pair is refused.
pub pair_refused : (asked : Asked) (judged : Judged) (error : Failing Refusal) → AreOrders asked judged
    → IfFault error (IsPairRefusal judged.left judged.right) → IfFault error (IsRefusalAt asked)
pair_refused asked judged error orders refused =
    by_refusal (IsPairRefusal judged.left judged.right) (IsRefusalAt asked) error (λ told own. pair judged orders own) refused

-- The labels and the trust of an accepted pair are what is told of it.
pub pair_told : (asked : Asked) (judged : Judged) (premises : Premises) (l r : List Labelled) (trust : TrustView) → AreOrders asked judged
    → IsPremises asked judged.cell premises → IsAcceptedPair judged.left judged.right → l ≡ path_labels judged.left
    → r ≡ path_labels judged.right
    → trust ≡ with_tape premises (with_tape premises no_trust judged.left_tape) judged.right_tape → IsToldAt asked judged l r trust
pair_told asked judged premises l r trust orders is accepted one two taken = record {
  accepted = record { orders = orders; pair = accepted };
  left_are = one;
  right_are = two;
  trust_is = subst (λ p. trust ≡ with_tape p (with_tape p no_trust judged.left_tape) judged.right_tape)
      (same asked judged.cell premises is) taken;
}
