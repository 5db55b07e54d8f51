-- The events that are due to texts and an order, from what came of their verdict.
-- For the proof of `events_due` (src/happening.rt).
use Rattle.std.proofs.Common.{◌≡◌, ℕ, List, [], true, map, Result, Ok, Err, IfOk, subst}
use Rattle.nc_number.specs.declared.fault.Failing.{Failing}
use Rattle.nc_number.specs.declared.fault.Failing.TheVariants.{Fault}
use Rattle.block_order.specs.Answers.{IfFault}
use Rattle.nc_restart.specs.Pair.{IsPairOf}
use Rattle.nc_verify.specs.declared.refusal.Refusal.{Refusal}
use Rattle.nc_verify.specs.declared.verified.Verified.{Verified}
use Rattle.nc_verify.specs.Verdict.{Texts, IsRefusalOf}
use Rattle.lathe_calls.specs.declared.event.Event.{Event}
use Rattle.lathe_calls.specs.Order.{AreDue, AreEventsOf, is_order, path_at, ran, refused}

-- Texts and an order whose bytes name paths, and what came of their verdict. `status_of` and
-- `list_of` read the status and the events of a record of the code.
module _ {H E : Type 0} (status_of : H → ℕ) (list_of : H → List Event) (order : List ℕ) (texts : Texts) (ordered : is_order order ≡ true) where
  -- the events of the pair of accepted texts are due
  pub due_of_pair : (result : Result H E) (pair : Verified) → IsPairOf texts pair
      → IfOk result (λ h. AreEventsOf pair (map path_at order) (status_of h) (list_of h))
      → IfOk result (λ h. AreDue order texts (status_of h) (list_of h))
  due_of_pair (Ok h) pair is are = ran pair ordered is are
  due_of_pair (Err e) pair is are = tt

  -- no events and status 1 are due if the texts are refused
  pub due_of_refusal : (result : Result H E) (error : Failing Refusal) → IfFault error (IsRefusalOf texts)
      → IfOk result (λ h. (status_of h ≡ 1) × (list_of h ≡ []) × ((refusal : Refusal) × (error ≡ Fault refusal)))
      → IfOk result (λ h. AreDue order texts (status_of h) (list_of h))
  due_of_refusal (Ok h) error of_texts (status, none, it) =
      rw (status, none) (refused ordered (subst (λ e. IfFault e (IsRefusalOf texts)) it.1 of_texts))
  due_of_refusal (Err e) error of_texts it = tt
