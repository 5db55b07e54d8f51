-- The plan of a shelf, sink or turret in memory: which of its calls, numbered from 1, are to fail.
-- For src/plan.rt and the forms in memory of this crate. No other crate cites it; tests meet it in
-- the contracts of the forms.
use Rattle.std.specs.Prelude.{◌≡◌, ℕ, ◌+◌, ◌^◌, ◌↔◌, Bool, true, ◌==◌, ◌&&◌, nat_lt, nat_le, List, count_by}
use Rattle.std.specs.List.{list_any}
use Rattle.nc_outside.specs.Faults.{CountsFault}
use Rattle.nc_number.specs.Faults.{next}

-- the numbers of the calls that are to fail, and how many calls have been made
pub record PlanView : Type 0 where
  -- the numbers of the calls that are to fail
  pub failing : List ℕ
  -- how many calls have been made
  pub calls : ℕ

-- a plan of which no call has been made
abbrev pub fresh_plan : List ℕ → PlanView
fresh_plan failing = record { failing = failing; calls = 0 }

-- the plan when one call more has been made
abbrev pub plan_after_call : PlanView → PlanView
plan_after_call plan = record { failing = plan.failing; calls = next plan.calls }

-- the next call is planned to fail; calls past the last number of a u64 have no number, and are not
abbrev pub fails_next : PlanView → Bool
fails_next plan = nat_lt (plan.calls + 1) (2 ^ 64) && list_any (λ number. number == plan.calls + 1) plan.failing

-- the call of that number has been made
abbrev pub has_come : ℕ → ℕ → Bool
has_come calls number = nat_lt 0 number && nat_le number calls

-- how many of the planned faults have come
abbrev pub fault_count : PlanView → ℕ
fault_count plan = count_by (has_come plan.calls) plan.failing

-- A call that goes by a plan fails exactly if the plan says so, and counts that fault.
pub record FailsAsPlanned (old new : PlanView) (failed : Type 0) : Type 0 where
  -- the call fails exactly if the plan says so
  pub planned : failed ↔ (fails_next old ≡ true)
  -- the fault is counted
  pub fault : CountsFault (fault_count old) (fault_count new) failed
