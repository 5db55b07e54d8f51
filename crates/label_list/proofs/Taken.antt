-- What a call of a loud program gives to the labels of the program that makes it. A loud program
-- has a wait or an end, or calls one that has. For the proof of `take_call` (src/listing.rt). The
-- file's name stands for the labels that are taken.
use Rattle.std.proofs.Common.{◌≡◌, ℕ, zero, suc, ◌+◌, ◌<◌, true, List, ◌++◌, length, ap, sym, subst, ◌∙◌, arith, append_assoc}
use Rattle.std.proofs.lemmas.List.{length-append}
use Rattle.nc_number.specs.declared.limits.TheConstants.{MOST_LABELS}
use Rattle.block_order.specs.declared.control.Control.TheVariants.{Call}
use Rattle.block_order.specs.declared.program.ControlProgram.{ControlProgram}
use Rattle.block_order.specs.Loud.{loud}
use Rattle.label_list.specs.declared.fault.PairFault.{PairFault}
use Rattle.label_list.specs.declared.labelled.Labelled.{Labelled}
use Rattle.label_list.specs.declared.piece.Ending.{Ending}
use Rattle.label_list.specs.declared.piece.Ending.TheVariants.{Stops, Returns}
use Rattle.label_list.specs.Lists.{times, labels_of_program}
use Rattle.loud_calls.specs.Calls.{IsShortCall}
use Rattle.label_list.specs.Pieces.{copies, stop_of, labels_to_come, from_block, IsAppended, IsTooLong, IsPiece, IsTaken, FailsAt}
use Rattle.label_list.proofs.Joined.{times_repeated}

-- The old labels, more behind them, and the rest are the new ones and the rest.
joined : (old new more behind : List Labelled) → new ≡ old ++ more → old ++ (more ++ behind) ≡ new ++ behind
joined old new more behind e = sym (append_assoc old more behind) ∙ ap (λ xs. xs ++ behind) (sym e)

-- A call of a loud program gives its labels as often as it runs, and what comes by how it ends.
call_gives : (tape : List ControlProgram) (line q r n : ℕ) (back : ℕ → List Labelled) (xs behind : List Labelled) (ending : Ending)
    → loud tape q ≡ true → 0 < r → IsPiece tape q xs ending → IsShortCall tape n (Call q r)
    → from_block tape n back line (Call q r) behind ≡ copies ending r xs ++ labels_to_come (stop_of ending) back behind
call_gives tape line q zero n back xs behind ending noisy some piece short = absurd (omega arith)
call_gives tape line q (suc r) n back xs behind Stops noisy some piece short =
    rw noisy (piece.are n (λ at_line. times r (λ k. labels_of_program tape n q (λ at_line. k)) behind) (short noisy))
call_gives tape line q (suc r) n back xs behind (Returns l) noisy some piece short =
    rw noisy (times_repeated (suc r) (λ k. labels_of_program tape n q (λ at_line. k)) xs behind (λ k. piece.are n (λ at_line. k) (short noisy)))

-- If the labels of a loud program are added as often as it runs, its call is taken.
pub taken_call : (tape : List ControlProgram) (line q r : ℕ) (old new xs : List Labelled) (ending : Ending)
    → loud tape q ≡ true → 0 < r → IsPiece tape q xs ending → IsAppended old new (copies ending r xs)
    → IsTaken tape line (Call q r) old new (stop_of ending)
taken_call tape line q r old new xs ending noisy some piece appended =
    record {
      few = appended.few;
      are = λ n back behind short.
          ap (λ ys. old ++ ys) (call_gives tape line q r n back xs behind ending noisy some piece short)
          ∙ joined old new (copies ending r xs) (labels_to_come (stop_of ending) back behind) appended.are;
    }

-- Labels that are too many are too many whatever follows.
too_long : (old more behind : List Labelled) → MOST_LABELS < length old + length more → MOST_LABELS < length (old ++ (more ++ behind))
too_long old more behind h = omega (arith, h, length-append old (more ++ behind), length-append more behind)

-- If the labels of a called program, as often as it runs, are too many behind the old ones, the
-- calling program is too long.
pub fails_call : (tape : List ControlProgram) (line q r : ℕ) (old xs : List Labelled) (ending : Ending) (fault : PairFault)
    → loud tape q ≡ true → 0 < r → IsPiece tape q xs ending → IsTooLong old (copies ending r xs) fault
    → FailsAt tape line (Call q r) old fault
fails_call tape line q r old xs ending fault noisy some piece long =
    record {
      is = long.is;
      long = λ n back behind short.
          subst (λ ys. MOST_LABELS < length (old ++ ys)) (sym (call_gives tape line q r n back xs behind ending noisy some piece short))
          (too_long old (copies ending r xs) (labels_to_come (stop_of ending) back behind) long.long);
    }
