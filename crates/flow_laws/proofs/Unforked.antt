-- The faults of waits deny exactly that a tape has one list of labels: the law
-- `a_tape_has_one_list_where_no_wait_is_at_fault` (src/order.rt). What a stretch and a loud program
-- are is said in specs/Waits.
use Rattle.std.proofs.Common.{◌≡◌, ℕ, ◌⊎◌, inl, inr, List, Some, refl, ap, ◌∙◌}
use Rattle.nc_number.specs.declared.cause.Cause.{Cause}
use Rattle.nc_number.specs.declared.cause.Cause.TheVariants.{BranchAtWait, WaitTooDeep}
use Rattle.block_order.specs.declared.control.Control.TheVariants.{Call}
use Rattle.block_order.specs.declared.program.ControlBlock.{ControlBlock}
use Rattle.block_order.specs.declared.program.ControlProgram.{ControlProgram}
use Rattle.block_order.specs.Order.{blocks, main_number, control_at, control_of}
use Rattle.block_order.specs.Labels.{Chain, IsStraight, IsUnforked}
use Rattle.block_order.specs.Faults.{Stage, Waiting, HasFault, Stands, Strays, twice, mismatch, lost, unknown, strays, deep, jump, loop, back, IsClear, IsFreeOf}
use Rattle.block_order.proofs.CallChains.{chain_before}
use Rattle.block_order.proofs.Faultless.{nothing_strays, chains_are_short}
use Rattle.flow_laws.specs.Waits.{AreWaitFaultsExact}

-- In a straight tape, in which nothing leads from one stretch to another, no block may pass a wait.
no_stray : (tape : List ControlProgram) (program place : ℕ) (block : ControlBlock) → IsStraight tape → Stands tape program place block
    → Strays tape program place block → ⊥
no_stray tape program place block is stands (jump target counts to differ) =
    differ (is.jumps program place target block.control counts (ap (λ o. control_of o) stands) to)
no_stray tape program place block is stands (loop head counts own differ) = differ (is.loops program head place counts own)
no_stray tape program place block is stands (back n noisy other own) =
    other (is.backs program place n noisy (ap (λ o. control_of o) stands ∙ ap (λ c. Some c) own))

-- The cause is 65, and something leads from one stretch to another; or it is 66, and a chain of
-- nine calls of loud programs begins in the main program.
abbrev IsWaitFault : List ControlProgram → Cause → Type 0
IsWaitFault tape cause =
    ((cause ≡ BranchAtWait) × (IsStraight tape → ⊥)) ⊎ ((cause ≡ WaitTooDeep) × Chain tape 9 (main_number tape))

-- A fault of the stage of waits is a 65, on a tape that is not straight, or a 66, on one in whose
-- main program a chain of nine calls of loud programs begins.
wait_fault : (tape : List ControlProgram) (stage : Stage) (line : ℕ) (cause : Cause) → HasFault tape stage line cause → stage ≡ Waiting
    → IsWaitFault tape cause
wait_fault tape _ _ _ (twice before after program is again) e = absurd cc
wait_fault tape _ _ _ (mismatch program place block on at is) e = absurd cc
wait_fault tape _ _ _ (lost program place n block cause stands jumps none) e = absurd cc
wait_fault tape _ _ _ (unknown program place called repeats block stands calls none) e = absurd cc
wait_fault tape _ _ _ (strays program place block stands is) e = inl (refl, λ own. no_stray tape program place block own stands is)
wait_fault tape _ _ _ (deep program place called repeats block by stands calls noisy) e =
    let at : control_at (blocks tape program) place ≡ Some (Call called repeats) =
    ap (λ o. control_of o) stands ∙ ap (λ c. Some c) calls in
    inr (refl, chain_before tape 8 1 (main_number tape) program by (place, called, repeats, at, noisy, tt))

-- A straight tape has no fault 65.
no_strays : (tape : List ControlProgram) → IsStraight tape → IsFreeOf tape BranchAtWait
no_strays tape own line fault = elim (wait_fault tape Waiting line BranchAtWait fault refl) [
  | inl stray ↦ stray.1 own
  | inr other ↦ absurd (let e : BranchAtWait ≡ WaitTooDeep = other.0 in cc)
]

-- A tape in whose main program no chain of nine calls of loud programs begins has no fault 66.
no_deep : (tape : List ControlProgram) → (Chain tape 9 (main_number tape) → ⊥) → IsFreeOf tape WaitTooDeep
no_deep tape own line fault = elim (wait_fault tape Waiting line WaitTooDeep fault refl) [
  | inl other ↦ absurd (let e : WaitTooDeep ≡ BranchAtWait = other.0 in cc)
  | inr chain ↦ own chain.1
]

-- A tape with one list of labels has no fault of waits.
clear : (tape : List ControlProgram) → IsUnforked tape → IsClear tape Waiting
clear tape un line cause fault = elim (wait_fault tape Waiting line cause fault refl) [
  | inl stray ↦ stray.1 un.straight
  | inr chain ↦ un.chains chain.1
]

-- The law: 65 and 66 are exactly what denies one list of labels.
pub exact : (tape : List ControlProgram) → AreWaitFaultsExact tape
exact tape = record {
  strays = (nothing_strays tape, no_strays tape);
  deep = (chains_are_short tape, no_deep tape);
  both = (
    λ own. record {
      straight = nothing_strays tape (λ line. own line BranchAtWait);
      chains = chains_are_short tape (λ line. own line WaitTooDeep);
    },
    clear tape,
  );
}
