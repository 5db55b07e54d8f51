-- What block_order's check says of a tape's programs (O numbers that differ, loops that fit, lines
-- that rise) is what this crate needs of each. For the proof of `waiting_fault` (src/waiting.rt).
use Rattle.std.proofs.Common.{◌≡◌, ℕ, zero, suc, ◌<◌, ◌≤◌, ◌⊎◌, inl, inr, List, [], ◌∷◌, length, Some, slice_index_or, refl, ap, sym, ◌∙◌, arith}
use Rattle.std.specs.List.{slice_get, Contains}
use Rattle.nc_number.proofs.Counts.{same_or_below}
use Rattle.nc_number.specs.declared.cause.Cause.TheVariants.{LoopMismatch}
use Rattle.block_order.specs.declared.program.ControlBlock.{ControlBlock}
use Rattle.block_order.specs.declared.program.ControlProgram.{ControlProgram}
use Rattle.block_order.specs.Order.{blocks}
use Rattle.block_order.specs.Loops.{IsMismatch}
use Rattle.block_order.specs.Shape.{IsReadTape}
use Rattle.block_order.specs.Faults.{Fitting, IsClear, mismatch}
use Rattle.wait_order.specs.TapeFaults.{AreProgramsOf}
use Rattle.wait_order.proofs.Leading.{stands_at}
use Rattle.block_order.proofs.Findable.{own_blocks}
use Rattle.block_order.proofs.Lines.{rise-own, block-order, blocks-few}
use Rattle.block_order.proofs.Mismatched.{mismatch-within}

-- A program at a place of the tape is one of its programs.
among : (tape : List ControlProgram) (i : ℕ) (p : ControlProgram) → slice_get tape i ≡ Some p → Contains tape p
among [] i p e = absurd cc
among (x ∷ xs) zero p e = let same : x ≡ p = cc in (0, omega arith, same)
among (x ∷ xs) (suc i) p e = let r = among xs i p e in let within = r.1 in (suc r.0, omega arith, r.2)

-- Each program of a listed tape whose programs and loops fit is the first of its number, with few
-- blocks, fitting loops and rising lines.
pub programs_are : (tape : List ControlProgram) → IsReadTape tape → IsClear tape Fitting → AreProgramsOf tape
programs_are tape listed clear i p at = record {
  own = own_blocks tape i p clear at;
  few = (let few = listed.few in omega (arith, blocks-few tape i p at));
  fits = λ place is. fit place is;
  rising = λ j k one other le e f. rise j k one other e f (same_or_below j k le);
}
  where
    fit : (place : ℕ) → IsMismatch p.blocks place → ⊥
    fit place is = go p.blocks refl (mismatch-within p.blocks place is)
      where
        go : (bs : List ControlBlock) → p.blocks ≡ bs → place < length p.blocks → ⊥
        go [] e within = absurd (let long = ap length e in omega arith)
        go (b ∷ bs) e within =
            let block = slice_index_or p.blocks place b in
            clear block.line LoopMismatch
            (mismatch p place block (among tape i p at) (stands_at p.blocks place b within) is)

    rise : (j k : ℕ) (one other : ControlBlock) → slice_get p.blocks j ≡ Some one → slice_get p.blocks k ≡ Some other
        → (j ≡ k) ⊎ (j < k) → one.line ≤ other.line
    rise j k one other e f (inl same) =
        let both : Some one ≡ Some other = sym e ∙ (ap (λ x. slice_get p.blocks x) same ∙ f) in
        let it : one ≡ other = cc in
        let lines : one.line ≡ other.line = ap (λ b. b.line) it in
        omega arith
    rise j k one other e f (inr less) =
        let own = rise-own tape 0 i p listed.lines at in
        let below = block-order p.blocks p.line j k one other own.1.1 e f less in
        omega arith
