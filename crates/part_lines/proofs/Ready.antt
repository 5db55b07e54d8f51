-- Steps of the loops over the blocks of a program: the lines so far at the next block and behind
-- the last one, and what follows from a call that did not fail. `line` gives, by O number and
-- place, the line of a block that is looked for, `quiet` the least line of a quiet program (one
-- that comes to no wait and no end). For the proofs of src/listing.rt and src/quiet.rt.
use Rattle.std.proofs.Common.{◌≡◌, ℕ, ◌+◌, ◌<◌, ◌≤◌, List, [], ◌∷◌, length, drop, get_or, Option, None, Result, Ok, Err, OnOk, IfOk, ap, subst, ◌∙◌, arith, suc}
use Rattle.std.proofs.Math.Seq.{drop-cons}
use Rattle.std.proofs.Math.ListN.{drop_of_length-le}
use Rattle.block_order.specs.declared.control.Control.TheVariants.{Next}
use Rattle.block_order.specs.declared.program.ControlBlock.{ControlBlock}
use Rattle.block_order.specs.declared.program.ControlProgram.{ControlProgram}
use Rattle.part_lines.specs.declared.piece.PieceLines.{PieceLines}
use Rattle.part_lines.specs.Pieces.{IsSoFar}

-- If P gives Q and P is so unless the call failed, Q is so unless it failed.
pub on_ok : {A E : Type 0} (P Q : Type 0) (r : Result A E) → (P → Q) → OnOk r P → OnOk r Q
on_ok P Q (Ok x) follows p = follows p
on_ok P Q (Err e) follows p = tt

-- If P gives Q of each value and P is so of the value that a call answers, Q is so of it.
pub if_ok : {A E : Type 0} (P Q : A → Type 0) (r : Result A E) → ((x : A) → P x → Q x) → IfOk r P → IfOk r Q
if_ok P Q (Ok x) follows p = follows x p
if_ok P Q (Err e) follows p = tt

-- A block that is read from a list at a place past its end.
abbrev pub no_block : ControlBlock
no_block = record { line = 0; sequence = None; control = Next }

-- At a place within the blocks those that are left are the block there and the ones behind it.
pub so_far_at : (tape : List ControlProgram) (line : ℕ → ℕ → Option ℕ) (quiet : ℕ → Option ℕ) (p : ℕ) (own : PieceLines)
    (bs : List ControlBlock) (i : ℕ) → i < length bs
    → IsSoFar tape line quiet p own i (drop i bs) → IsSoFar tape line quiet p own i (get_or bs i no_block ∷ drop (i + 1) bs)
so_far_at tape line quiet p own bs i within so =
    let next : suc i ≡ i + 1 = omega arith in
    subst (λ xs. IsSoFar tape line quiet p own i xs) (drop-cons bs i no_block within ∙ ap (λ k. get_or bs i no_block ∷ drop k bs) next) so

-- Behind the last block none is left.
pub so_far_past : (tape : List ControlProgram) (line : ℕ → ℕ → Option ℕ) (quiet : ℕ → Option ℕ) (p : ℕ) (own : PieceLines)
    (bs : List ControlBlock) (i : ℕ) → length bs ≤ i → IsSoFar tape line quiet p own i (drop i bs) → IsSoFar tape line quiet p own i []
so_far_past tape line quiet p own bs i past so = subst (λ xs. IsSoFar tape line quiet p own i xs) (drop_of_length-le bs past) so
