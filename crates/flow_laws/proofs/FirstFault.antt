-- A tape that is not sound has one first fault: the two laws of src/order.rt on first faults.
use Rattle.std.proofs.Common.{◌≡◌, ℕ, ◌<◌, ◌≤◌, ◌⊎◌, inl, inr, List, refl, sym, subst, arith}
use Rattle.nc_number.specs.declared.cause.Cause.{Cause}
use Rattle.nc_number.specs.Causes.{cause_number}
use Rattle.nc_number.proofs.CauseTable.{number_has_one_cause}
use Rattle.nc_number.proofs.Counts.{same_or_below}
use Rattle.block_order.specs.declared.program.ControlProgram.{ControlProgram}
use Rattle.block_order.specs.Faults.{Stage, Fitting, Finding, Waiting, HasFault, IsClear, IsClearBefore, IsNoLater, IsFirst}
use Rattle.flow_laws.specs.Answers.{HasOneFirst, HasSomeFirst}
use Rattle.flow_laws.proofs.Least.{none_at_all}

-- Of two faults each of which is no later than the other, line and number are the same.
same_place : (line other_line n m : ℕ) → (line < other_line) ⊎ ((line ≡ other_line) × (n ≤ m))
    → (other_line < line) ⊎ ((other_line ≡ line) × (m ≤ n)) → (line ≡ other_line) × (n ≡ m)
same_place line other_line n m (inl a) (inl b) = absurd (omega arith)
same_place line other_line n m (inl a) (inr b) = absurd (omega (arith, b.0))
same_place line other_line n m (inr a) (inl b) = absurd (omega (arith, a.0))
same_place line other_line n m (inr a) (inr b) = (a.0, omega (arith, a.1, b.1))

-- The fault is the first of this stage, and the stages before have none. A stage is one of the
-- three in which faults are looked for: programs and loops (Fitting), jumps and calls (Finding),
-- waits (Waiting).
record IsFirstIn (tape : List ControlProgram) (stage : Stage) (line : ℕ) (cause : Cause) : Type 0 where
  -- The stages before have no fault.
  before : IsClearBefore tape stage
  -- It is a fault of this stage.
  holds : HasFault tape stage line cause
  -- No other fault of the stage comes earlier.
  least : (other_line : ℕ) (other : Cause) → HasFault tape stage other_line other → IsNoLater line cause other_line other

-- Two first faults of one stage are one line and one cause.
one_of_stage : (tape : List ControlProgram) (stage : Stage) (line other_line : ℕ) (cause other : Cause)
    → IsFirstIn tape stage line cause → IsFirstIn tape stage other_line other → (line ≡ other_line) × (cause ≡ other)
one_of_stage tape stage line other_line cause other a b =
    let same = same_place line other_line (cause_number cause) (cause_number other) (a.least other_line other b.holds)
    (b.least line cause a.holds) in
    (same.0, number_has_one_cause cause other same.1)

-- Two first faults of a tape are of one stage, and so one line and one cause.
one_of_stages : (tape : List ControlProgram) (stage other_stage : Stage) (line other_line : ℕ) (cause other : Cause)
    → IsFirstIn tape stage line cause → IsFirstIn tape other_stage other_line other → (line ≡ other_line) × (cause ≡ other)
one_of_stages tape Fitting Fitting line other_line cause other a b = one_of_stage tape Fitting line other_line cause other a b
one_of_stages tape Finding Finding line other_line cause other a b = one_of_stage tape Finding line other_line cause other a b
one_of_stages tape Waiting Waiting line other_line cause other a b = one_of_stage tape Waiting line other_line cause other a b
one_of_stages tape Fitting Finding line other_line cause other a b = absurd (b.before line cause a.holds)
one_of_stages tape Fitting Waiting line other_line cause other a b = absurd (b.before.0 line cause a.holds)
one_of_stages tape Finding Waiting line other_line cause other a b = absurd (b.before.1 line cause a.holds)
one_of_stages tape Finding Fitting line other_line cause other a b = absurd (a.before other_line other b.holds)
one_of_stages tape Waiting Fitting line other_line cause other a b = absurd (a.before.0 other_line other b.holds)
one_of_stages tape Waiting Finding line other_line cause other a b = absurd (a.before.1 other_line other b.holds)

-- A first fault of a tape is the first of its stage.
in_its_stage : (tape : List ControlProgram) (line : ℕ) (cause : Cause) → (first : IsFirst tape line cause)
    → IsFirstIn tape first.stage line cause
in_its_stage tape line cause first = record { before = first.before; holds = first.holds; least = first.least }

-- The law: a tape has one first fault.
pub one_first : HasOneFirst
one_first tape line other_line cause other a b =
    one_of_stages tape a.stage b.stage line other_line cause other (in_its_stage tape line cause a)
    (in_its_stage tape other_line other b)

-- The line has a fault of the stage whose cause has this number.
abbrev HasNumber : List ControlProgram → Stage → ℕ → ℕ → Type 0
HasNumber tape stage line n = (cause : Cause) × HasFault tape stage line cause × (cause_number cause ≡ n)

-- A fault of the least number on its line is no later than others on that line or after it.
no_later_than : (tape : List ControlProgram) (stage : Stage) (line other_line n : ℕ) (cause other : Cause) → cause_number cause ≡ n
    → ((m : ℕ) → HasNumber tape stage line m → n ≤ m) → HasFault tape stage other_line other → line ≤ other_line
    → IsNoLater line cause other_line other
no_later_than tape stage line other_line n cause other own least fault le = elim (same_or_below line other_line le) [
  | inl same ↦
      let no_less : n ≤ cause_number other =
      least (cause_number other) (other, subst (λ l. HasFault tape stage l other) (sym same) fault, refl) in
      inr (same, omega (arith, own, no_less))
  | inr less ↦ inl less
]

-- A stage without a first fault is clear, if those before it are.
clear_stage : (tape : List ControlProgram) (stage : Stage) → ((line : ℕ) × (cause : Cause) × IsFirst tape line cause → ⊥)
    → IsClearBefore tape stage → IsClear tape stage
clear_stage tape stage none before line cause fault =
    none_at_all (λ l. (c : Cause) × HasFault tape stage l c)
    (λ l some below. none_at_all (HasNumber tape stage l)
    (λ n own least. none (
      l,
      own.0,
      record {
        stage = stage;
        before = before;
        holds = own.1;
        least = λ other_line other has.
            no_later_than tape stage l other_line n own.0 other own.2 least has (below other_line (other, has));
      },
    ))
    (cause_number some.0) (some.0, some.1, refl))
    line (cause, fault)

-- The law: no tape is neither sound nor has a first fault.
pub sound_or_first : HasSomeFirst
sound_or_first tape unsound none =
    let fits : IsClear tape Fitting = clear_stage tape Fitting none tt in
    let finds : IsClear tape Finding = clear_stage tape Finding none fits in
    let waits : IsClear tape Waiting = clear_stage tape Waiting none (fits, finds) in
    unsound (record { fits = fits; finds = finds; waits = waits })
