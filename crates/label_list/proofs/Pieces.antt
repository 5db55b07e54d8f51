-- The labels of a program as they grow block by block come to those of the whole program, or to too
-- many. A chain of calls is one of calls of loud programs, which have a wait or an end or call one
-- that has. For the proofs of src/listing.rt and src/piece.rt.
use Rattle.std.proofs.Common.{◌≡◌, ℕ, zero, suc, ◌+◌, ◌-◌, ◌<◌, ◌≤◌, true, List, [], ◌∷◌, ◌++◌, length, drop, get_or, Some, None, refl, ap, sym, subst, ◌∙◌, arith}
use Rattle.std.proofs.lemmas.List.{append-nil, length-append}
use Rattle.std.proofs.Math.Seq.{drop-cons}
use Rattle.std.proofs.Math.ListN.{drop_of_length-le}
use Rattle.nc_number.specs.declared.fault.Failing.{Failing}
use Rattle.nc_number.specs.declared.fault.Failing.TheVariants.{Fault, NoMemory}
use Rattle.nc_number.specs.declared.limits.TheConstants.{MOST_LABELS}
use Rattle.block_order.specs.declared.control.Control.{Control}
use Rattle.block_order.specs.declared.control.Control.TheVariants.{Next, Goto, While, Do, EndLoop, Wait, End, Call, Back, BackTo}
use Rattle.block_order.specs.declared.label.Label.TheVariants as label
use Rattle.block_order.specs.declared.program.ControlBlock.{ControlBlock}
use Rattle.block_order.specs.declared.program.ControlProgram.{ControlProgram}
use Rattle.block_order.specs.Answers.{IfFault}
use Rattle.block_order.specs.Loud.{loud}
use Rattle.block_order.specs.Order.{blocks, main_number, program_of}
use Rattle.loud_calls.specs.Calls.{IsShort, IsShortCall}
use Rattle.label_list.specs.declared.fault.PairFault.{PairFault}
use Rattle.label_list.specs.declared.labelled.Labelled.{Labelled}
use Rattle.label_list.specs.declared.piece.Ending.{Ending}
use Rattle.label_list.specs.declared.piece.Ending.TheVariants.{Stops, Returns}
use Rattle.label_list.specs.Lists.{label_with_line, times, blocks_labels, off_line, labels_of_program, path_labels}
use Rattle.label_list.specs.Pieces.{labels_to_come, from_block, IsAppended, IsTooLong, IsPiece, IsTaken, IsSoFar, IsLong, FailsAt, FailsInCall, FailsLong, IsListTooLong}

-- If P gives Q of each fault, and P is so of the fault of an error, Q is so of it.
pub by_fault : (P Q : PairFault → Type 0) (error : Failing PairFault) → ((fault : PairFault) → P fault → Q fault)
    → IfFault error P → IfFault error Q
by_fault P Q (Fault fault) follows p = follows fault p
by_fault P Q NoMemory follows p = tt

-- Before the first block there is no label, and all blocks are left.
pub so_far_start : (tape : List ControlProgram) (p : ℕ) → IsSoFar tape p [] (blocks tape p)
unfolding labels_of_program
so_far_start tape p = record {
  few = omega arith;
  calls = λ place c is. (place, is);
  are = λ n back short. refl;
}

-- If no chain of n + 1 calls begins in a program, none of n calls begins in a program that a block
-- of it calls.
short_call : (tape : List ControlProgram) (n p : ℕ) (labels : List Labelled) (b : ControlBlock) (rest : List ControlBlock)
    → IsSoFar tape p labels (b ∷ rest) → IsShort tape (suc n) p → IsShortCall tape n b.control
short_call tape n p labels b rest so short = go b.control refl
  where
    go : (c : Control) → b.control ≡ c → IsShortCall tape n c
    go (Call q r) is = λ noisy chain.
        let at_place = so.calls 0 b.control refl in
        short (at_place.0, q, r, at_place.1 ∙ ap (λ k. Some k) is, noisy, chain)
    go Next is = tt
    go (Goto n) is = tt
    go (While m) is = tt
    go (Do m) is = tt
    go (EndLoop m) is = tt
    go (Wait code) is = tt
    go End is = tt
    go Back is = tt
    go (BackTo n) is = tt

-- The labels of the blocks that are left.
abbrev pub left_labels : List ControlProgram → ℕ → ℕ → (ℕ → List Labelled) → List ControlBlock → List Labelled
left_labels tape p n back rest =
    blocks_labels (loud tape) (λ q behind. labels_of_program tape n q (λ line. behind)) back (off_line (program_of tape p)) rest

-- If the program goes on at a block that was taken, the labels so far are the new ones, with one
-- block less left.
pub so_far_next : (tape : List ControlProgram) (p : ℕ) (old new : List Labelled) (b : ControlBlock) (rest : List ControlBlock)
    → IsSoFar tape p old (b ∷ rest) → IsTaken tape b.line b.control old new None → IsSoFar tape p new rest
so_far_next tape p old new b rest so taken = record {
  few = taken.few;
  calls = λ place c is. so.calls (suc place) c is;
  are = λ n back short.
      so.are n back short
      ∙ taken.are n back (left_labels tape p n back rest) (short_call tape n p old b rest so short);
}

-- If a program ends, its labels do not hang on what would come if it went on.
ending_alone : (ending : Ending) (back : ℕ → List Labelled) (behind : List Labelled)
    → labels_to_come (Some ending) back behind ≡ labels_to_come (Some ending) back []
ending_alone Stops back behind = refl
ending_alone (Returns line) back behind = refl

-- If the program ends at a block that was taken, the new labels are its piece.
pub piece_at : (tape : List ControlProgram) (p : ℕ) (old new : List Labelled) (b : ControlBlock) (rest : List ControlBlock) (ending : Ending)
    → IsSoFar tape p old (b ∷ rest) → IsTaken tape b.line b.control old new (Some ending) → IsPiece tape p new ending
piece_at tape p old new b rest ending so taken = record {
  few = taken.few;
  are = λ n back short. go n back short;
}
  where
    go : (n : ℕ) (back : ℕ → List Labelled) → IsShort tape n p → labels_of_program tape n p back ≡ new ++ labels_to_come (Some ending) back []
    go zero back short = absurd (short tt)
    go (suc n) back short =
        so.are n back short
        ∙ (taken.are n back (left_labels tape p n back rest) (short_call tape n p old b rest so short)
        ∙ ap (λ ys. new ++ ys) (ending_alone ending back (left_labels tape p n back rest)))

-- If no block is left, the labels so far with `Off` behind them are the piece of a program that
-- stops.
pub piece_off : (tape : List ControlProgram) (p line : ℕ) (old new : List Labelled) → IsSoFar tape p old [] → line ≡ off_line (program_of tape p)
    → IsAppended old new (label_with_line label.Off line ∷ []) → IsPiece tape p new Stops
piece_off tape p line old new so is appended = record {
  few = appended.few;
  are = λ n back short. go n back short;
}
  where
    go : (n : ℕ) (back : ℕ → List Labelled) → IsShort tape n p → labels_of_program tape n p back ≡ new ++ []
    go zero back short = absurd (short tt)
    go (suc n) back short =
        so.are n back short ∙ (ap (λ k. old ++ (label_with_line label.Off k ∷ [])) (sym is) ∙ (sym appended.are ∙ sym (append-nil new)))

-- If there is no room for the `Off` behind the last block, the program has too many labels.
pub fails_off : (tape : List ControlProgram) (p line : ℕ) (old : List Labelled) (fault : PairFault) → IsSoFar tape p old []
    → IsTooLong old (label_with_line label.Off line ∷ []) fault → FailsLong tape p fault
fails_off tape p line old fault so long = record {
  is = long.is;
  long = λ n back short. go n back short;
}
  where
    go : (n : ℕ) (back : ℕ → List Labelled) → IsShort tape n p → MOST_LABELS < length (labels_of_program tape n p back)
    go zero back short = absurd (short tt)
    go (suc n) back short =
        omega (arith, ap length (so.are n back short), long.long, length-append old (label_with_line label.Off (off_line (program_of tape p)) ∷ []))

-- If there are too many labels with a block of the program, the program has too many.
pub fails_at : (tape : List ControlProgram) (p : ℕ) (old : List Labelled) (b : ControlBlock) (rest : List ControlBlock) (fault : PairFault)
    → IsSoFar tape p old (b ∷ rest) → FailsAt tape b.line b.control old fault → FailsLong tape p fault
fails_at tape p old b rest fault so fails = record {
  is = fails.is;
  long = λ n back short. go n back short;
}
  where
    go : (n : ℕ) (back : ℕ → List Labelled) → IsShort tape n p → MOST_LABELS < length (labels_of_program tape n p back)
    go zero back short = absurd (short tt)
    go (suc n) back short =
        subst (λ ys. MOST_LABELS < length ys) (sym (so.are n back short))
        (fails.long n back (left_labels tape p n back rest) (short_call tape n p old b rest so short))

-- If a called loud program has too many labels, so have a call of it and what follows.
called_long : (tape : List ControlProgram) (n q r line : ℕ) (back : ℕ → List Labelled) (behind : List Labelled) → loud tape q ≡ true → 0 < r
    → IsLong tape q → IsShort tape n q → MOST_LABELS < length (from_block tape n back line (Call q r) behind)
called_long tape n q zero line back behind noisy some long short = absurd (omega arith)
called_long tape n q (suc r) line back behind noisy some long short =
    rw noisy (long n (λ at_line. times r (λ k. labels_of_program tape n q (λ at_line. k)) behind) short)

-- If a called program has too many labels, so has the calling one.
pub fails_in_call : (tape : List ControlProgram) (p : ℕ) (old : List Labelled) (b : ControlBlock) (rest : List ControlBlock) (fault : PairFault)
    → IsSoFar tape p old (b ∷ rest) → FailsInCall tape b.control fault → FailsLong tape p fault
fails_in_call tape p old b rest fault so fails = record {
  is = fails.is;
  long = λ n back short. go n back short;
}
  where
    go : (n : ℕ) (back : ℕ → List Labelled) → IsShort tape n p → MOST_LABELS < length (labels_of_program tape n p back)
    go zero back short = absurd (short tt)
    go (suc n) back short =
        let behind = left_labels tape p n back rest in
        let call = fails.call in
        let short' : IsShortCall tape n (Call fails.program call.repeats) =
        subst (λ c. IsShortCall tape n c) call.is (short_call tape n p old b rest so short) in
        let long : MOST_LABELS < length (from_block tape n back b.line (Call fails.program call.repeats) behind) =
        called_long tape n fails.program call.repeats b.line back behind call.is_loud call.some fails.long (short' call.is_loud) in
        let here : MOST_LABELS < length (from_block tape n back b.line b.control behind) =
        subst (λ c. MOST_LABELS < length (from_block tape n back b.line c behind)) (sym call.is) long in
        omega (arith, here, ap length (so.are n back short), length-append old (from_block tape n back b.line b.control behind))

-- A block that is read from a list at a place past its end.
abbrev pub no_block : ControlBlock
no_block = record { line = 0; sequence = None; control = Next }

-- At a place within the blocks those that are left are the block there and the ones behind it.
pub so_far_at : (tape : List ControlProgram) (p : ℕ) (labels : List Labelled) (bs : List ControlBlock) (i : ℕ) → i < length bs
    → IsSoFar tape p labels (drop i bs) → IsSoFar tape p labels (get_or bs i no_block ∷ drop (i + 1) bs)
so_far_at tape p labels bs i within so =
    let next : suc i ≡ i + 1 = omega arith in
    subst (λ xs. IsSoFar tape p labels xs) (drop-cons bs i no_block within ∙ ap (λ k. get_or bs i no_block ∷ drop k bs) next) so

-- Behind the last block none is left.
pub so_far_past : (tape : List ControlProgram) (p : ℕ) (labels : List Labelled) (bs : List ControlBlock) (i : ℕ) → length bs ≤ i
    → IsSoFar tape p labels (drop i bs) → IsSoFar tape p labels []
so_far_past tape p labels bs i past so = subst (λ xs. IsSoFar tape p labels xs) (drop_of_length-le bs past) so

-- If no chain of n calls begins in a program, none of n - 1 calls begins in a program that a block
-- of it calls.
pub short_left : (tape : List ControlProgram) (n p : ℕ) (labels : List Labelled) (b : ControlBlock) (rest : List ControlBlock)
    → IsSoFar tape p labels (b ∷ rest) → IsShort tape n p → IsShortCall tape (n - 1) b.control
short_left tape zero p labels b rest so short = absurd (short tt)
short_left tape (suc n) p labels b rest so short =
    let e : suc n - 1 ≡ n = omega arith in
    rw e (short_call tape n p labels b rest so short)

-- The list of a path is the piece of its main program, and `Again` behind it if that returns.
pub path_whole : (tape : List ControlProgram) (main : ℕ) (labels : List Labelled) (ending : Ending) → main ≡ main_number tape
    → IsShort tape 9 (main_number tape) → IsPiece tape main labels ending
    → path_labels tape ≡ labels ++ labels_to_come (Some ending) (λ line. label_with_line label.Again line ∷ []) []
unfolding path_labels
path_whole tape main labels ending is short piece =
    (subst (λ p. IsPiece tape p labels ending) is piece).are 9 (λ line. label_with_line label.Again line ∷ []) short

-- If the main program has too many labels whatever follows, the list of the path is too long.
pub path_long : (tape : List ControlProgram) (main : ℕ) (fault : PairFault) → main ≡ main_number tape
    → IsShort tape 9 (main_number tape) → FailsLong tape main fault → IsListTooLong (path_labels tape) fault
unfolding path_labels
path_long tape main fault is short fails = record {
  is = fails.is;
  long = subst (λ p. IsLong tape p) is fails.long 9 (λ line. label_with_line label.Again line ∷ []) short;
}
