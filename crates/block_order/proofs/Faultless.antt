-- A tape without faults of waits has one list of labels: the law
-- `a_tape_without_faults_is_unforked`. A program counts if it is the main one or loud: it has a
-- wait or an end, or calls one that has. A stretch is the run of its blocks up to and with a wait,
-- an end, an M99 without a number or a call of a loud program.
use Rattle.std.proofs.Common.{◌≡◌, ◌≢◌, ℕ, zero, suc, ◌+◌, Bool, true, false, ◌==◌, List, [], ◌∷◌, Some, slice_get, refl, sym, subst, arith, eqb-true}
use Rattle.std.proofs.lemmas.Bool.{eqb-false}
use Rattle.nc_number.specs.declared.cause.Cause.TheVariants.{BranchAtWait, WaitTooDeep}
use Rattle.block_order.specs.declared.control.Control.{Control}
use Rattle.block_order.specs.declared.control.Control.TheVariants.{EndLoop, Call, BackTo}
use Rattle.block_order.specs.declared.program.ControlBlock.{ControlBlock}
use Rattle.block_order.specs.declared.program.ControlProgram.{ControlProgram}
use Rattle.block_order.specs.Order.{blocks, main_number, control_at, IsLoop}
use Rattle.block_order.specs.Loud.{loud, stretch}
use Rattle.block_order.specs.Labels.{IsTarget, Chain, Counts, IsStraight, IsUnforked}
use Rattle.block_order.specs.Faults.{Waiting, IsReachedBy, strays, deep, jump, loop, back, IsClear, IsFreeOf}
use Rattle.block_order.proofs.Searches.{loop_facts}

-- Numbers that don't differ are the same.
same_number : (a b : ℕ) → (a ≢ b → ⊥) → a ≡ b
same_number a b never = go (a == b) refl
  where
    go : (same : Bool) → (a == b) ≡ same → a ≡ b
    go true e = eqb-true a b e
    go false e = absurd (never (eqb-false a b e))

-- A place with a control has a block of that control.
pub block_of_control : (bs : List ControlBlock) (place : ℕ) (c : Control) → control_at bs place ≡ Some c
    → (block : ControlBlock) × (slice_get bs place ≡ Some block) × (block.control ≡ c)
block_of_control [] place c is = absurd cc
block_of_control (b ∷ bs) zero c is = let same : b.control ≡ c = cc in (b, refl, same)
block_of_control (b ∷ bs) (suc place) c is = block_of_control bs place c is

-- If no block has the fault 65, no jump of a program that counts leads to another stretch.
jumps_straight : (tape : List ControlProgram) → IsFreeOf tape BranchAtWait → (program place target : ℕ) (c : Control)
    → Counts tape program
    → control_at (blocks tape program) place ≡ Some c → IsTarget tape program place c target
    → stretch (loud tape) (blocks tape program) place ≡ stretch (loud tape) (blocks tape program) target
jumps_straight tape free program place target c counts is to =
    let b = block_of_control (blocks tape program) place c is in
    let own : IsTarget tape program place b.0.control target =
    subst (λ x. IsTarget tape program place x target) (sym b.2) to in
    same_number (stretch (loud tape) (blocks tape program) place) (stretch (loud tape) (blocks tape program) target)
    (λ differ. free b.0.line (strays program place b.0 b.1 (jump target counts own differ)))

-- If no block has the fault 65, no loop of a program that counts ends in another stretch than it
-- begins in.
loops_straight : (tape : List ControlProgram) → IsFreeOf tape BranchAtWait → (program head close : ℕ) → Counts tape program
    → IsLoop (blocks tape program) head close
    → stretch (loud tape) (blocks tape program) head ≡ stretch (loud tape) (blocks tape program) close
loops_straight tape free program head close counts is_loop =
    let facts = loop_facts (blocks tape program) head close is_loop in
    let b = block_of_control (blocks tape program) close (EndLoop facts.name) facts.is_close in
    same_number (stretch (loud tape) (blocks tape program) head) (stretch (loud tape) (blocks tape program) close)
    (λ differ. free b.0.line (strays program close b.0 b.1 (loop head counts is_loop differ)))

-- If no block has the fault 65, an M99 P stands in no loud program but the main one.
backs_main : (tape : List ControlProgram) → IsFreeOf tape BranchAtWait → (program place n : ℕ) → loud tape program ≡ true
    → control_at (blocks tape program) place ≡ Some (BackTo n) → program ≡ main_number tape
backs_main tape free program place n noisy is =
    let b = block_of_control (blocks tape program) place (BackTo n) is in
    same_number program (main_number tape)
    (λ differ. free b.0.line (strays program place b.0 b.1 (back n noisy differ b.2)))

-- Without the fault 65 nothing leads from one stretch to another.
pub nothing_strays : (tape : List ControlProgram) → IsFreeOf tape BranchAtWait → IsStraight tape
nothing_strays tape free = record {
  jumps = jumps_straight tape free;
  loops = loops_straight tape free;
  backs = backs_main tape free;
}

-- If n calls of loud programs lead from the main program to this one, and n and m are eight, no
-- chain of m + 1 further calls begins in it.
no_ninth : (tape : List ControlProgram) → IsFreeOf tape WaitTooDeep → (m n program : ℕ) → n + m ≡ 8
    → IsReachedBy tape n (main_number tape) program → Chain tape (suc m) program → ⊥
no_ninth tape free zero n program eight reached (place, called, repeats, is, noisy, rest) =
    let b = block_of_control (blocks tape program) place (Call called repeats) is in
    let all : n ≡ 8 = omega (arith, eight) in
    let eighth = subst (λ k. IsReachedBy tape k (main_number tape) program) all reached in
    free b.0.line (deep program place called repeats b.0 eighth b.1 b.2 noisy)
no_ninth tape free (suc m) n program eight reached (place, called, repeats, is, noisy, rest) =
    no_ninth tape free m (suc n) called (omega (arith, eight)) (program, place, repeats, reached, is, noisy) rest

-- Without the fault 66 no chain of nine calls of loud programs begins in the main program.
pub chains_are_short : (tape : List ControlProgram) → IsFreeOf tape WaitTooDeep → Chain tape 9 (main_number tape) → ⊥
chains_are_short tape free chain = no_ninth tape free 8 0 (main_number tape) refl refl chain

-- A tape without faults of waits is unforked: all its runs come to one list of labels.
pub faultless_unforked : (tape : List ControlProgram) → IsClear tape Waiting → IsUnforked tape
faultless_unforked tape clear = record {
  straight = nothing_strays tape (λ line. clear line BranchAtWait);
  chains = chains_are_short tape (λ line. clear line WaitTooDeep);
}
