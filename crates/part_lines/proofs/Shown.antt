-- The lines of a program as they grow by a line, a wait and a call, and that they come to the lines
-- of the whole program. A loud program has a wait or an end, or calls one that has; the others are
-- quiet. A chain of calls is one of calls of loud programs. `line` gives, by O number and place,
-- the line of a block that is looked for, `quiet` the least line of a quiet program. For the proofs
-- of src/piece.rt and src/listing.rt. The file's name stands for the lines that a piece shows
-- (`shown_lines`).
use Rattle.std.proofs.Common.{◌≡◌, ℕ, zero, suc, ◌+◌, ◌-◌, ◌<◌, true, false, Bool, List, [], ◌∷◌, ◌++◌, length, drop, get_or, Option, Some, None, refl, ap, sym, ◌∙◌, arith}
use Rattle.std.proofs.Math.Seq.{drop-cons}
use Rattle.block_order.specs.declared.control.Control.{Control}
use Rattle.block_order.specs.declared.control.Control.TheVariants.{Next, Goto, While, Do, EndLoop, Wait, End, Call, Back, BackTo}
use Rattle.block_order.specs.declared.program.ControlBlock.{ControlBlock}
use Rattle.block_order.specs.declared.program.ControlProgram.{ControlProgram}
use Rattle.block_order.specs.Order.{blocks}
use Rattle.block_order.specs.Loud.{loud}
use Rattle.part_lines.specs.declared.piece.Ending.{Ending}
use Rattle.part_lines.specs.declared.piece.Ending.TheVariants.{Stops, Returns}
use Rattle.part_lines.specs.declared.piece.PieceLines.{PieceLines}
use Rattle.part_lines.specs.Lines.{Lines, with_first, times, seen_line, block_lines, blocks_lines, lines_of_run}
use Rattle.loud_calls.specs.Calls.{IsShort, IsShortCall}
use Rattle.part_lines.specs.Pieces.{shown_lines, lines_to_come, stop_of, IsSeen, AreJoined, AreAdded, IsPiece, IsTaken, IsSoFar, from_block}
use Rattle.part_lines.proofs.Lesser.{lesser_none, with_again}

-- To join a line n times, at least once, is to join it once.
times_again : (n : ℕ) (line : Option ℕ) (behind : Lines) → 0 < n → times n (with_first line) behind ≡ with_first line behind
times_again zero line behind some = absurd (omega arith)
times_again (suc zero) line behind some = refl
times_again (suc (suc n)) line behind some =
    ap (with_first line) (times_again (suc n) line behind (omega arith)) ∙ with_again line behind

-- Two functions that agree on all lines give the same n times over.
times_same : (n : ℕ) (f g : Lines → Lines) (behind : Lines) → ((xs : Lines) → f xs ≡ g xs) → times n f behind ≡ times n g behind
times_same zero f g behind same = refl
times_same (suc n) f g behind same = ap f (times_same n f g behind same) ∙ same (times n g behind)

-- A function n times after once is the function n + 1 times.
pub times_more : (n : ℕ) (f : Lines → Lines) (behind : Lines) → times n f (f behind) ≡ times (n + 1) f behind
times_more zero f behind = refl
times_more (suc n) f behind =
    let e : suc (n + 1) ≡ suc n + 1 = omega arith in
    ap f (times_more n f behind) ∙ ap (λ k. times k f behind) e

-- The lines so far, with the parts of a piece that are left to join, are those before with the
-- whole piece.
abbrev pub IsJoinedSoFar : PieceLines → PieceLines → Lines → PieceLines → Type 0
IsJoinedSoFar old now rest more = (behind : Lines) → shown_lines now (rest ++ with_first more.last behind) ≡ shown_lines old (shown_lines more behind)

-- One part more of a called program is joined.
pub joined_next : (old now seen next more : PieceLines) (bs : Lines) (i : ℕ) (line : Option ℕ) → i < length bs
    → IsSeen now seen (get_or bs i line) → ((behind : Lines) → shown_lines next behind ≡ shown_lines seen (None ∷ behind))
    → IsJoinedSoFar old now (drop i bs) more → IsJoinedSoFar old next (drop (i + 1) bs) more
joined_next old now seen next more bs i line within one two so behind =
    let rest = drop (i + 1) bs ++ with_first more.last behind in
    let e : suc i ≡ i + 1 = omega arith in
    let own : drop i bs ≡ get_or bs i line ∷ drop (i + 1) bs = drop-cons bs i line within ∙ ap (λ k. get_or bs i line ∷ drop k bs) e in
    two rest
    ∙ (one (None ∷ rest)
    ∙ (ap (λ o. shown_lines now (o ∷ rest)) (lesser_none (get_or bs i line))
    ∙ (ap (λ xs. shown_lines now (xs ++ with_first more.last behind)) (sym own) ∙ so behind)))

-- A list of no length is empty.
pub empty_is : (xs : Lines) → length xs ≡ 0 → xs ≡ []
empty_is [] e = refl
empty_is (x ∷ xs) e = absurd (omega arith)

-- A program without a wait that is run n times, at least once, gives its line once.
pub waitless_joined : (old new more : PieceLines) (n : ℕ) → 0 < n → more.done.items ≡ [] → IsSeen old new more.last → AreJoined old new n more
waitless_joined old new more n some none is behind =
    is behind ∙ ap (shown_lines old) (sym (times_same n (shown_lines more) (with_first more.last) behind (λ xs. rw none refl) ∙ times_again n more.last behind some))

module _ (tape : List ControlProgram) (line : ℕ → ℕ → Option ℕ) (quiet : ℕ → Option ℕ) where
  -- A call of a quiet program puts nothing behind its block.
  pub quiet_taken : (q r : ℕ) (old : PieceLines) → loud tape q ≡ false → IsTaken tape line quiet (Call q r) old old None
  quiet_taken q r old e n back behind short = rw e refl

  -- A call that runs its program no time puts nothing behind its block.
  pub unrepeated_taken : (q : ℕ) (old : PieceLines) → IsTaken tape line quiet (Call q 0) old old None
  unrepeated_taken q old n back behind short = go (loud tape q) refl
    where
      go : (b : Bool) → loud tape q ≡ b → shown_lines old (from_block tape line quiet n back (Call q 0) behind) ≡ shown_lines old behind
      go true e = rw e refl
      go false e = rw e refl

  -- A call of a loud program puts the program's lines behind its block, as often as it runs.
  pub loud_taken : (q r : ℕ) (old new piece : PieceLines) (ending : Ending) → loud tape q ≡ true → 0 < r
      → IsPiece tape line quiet q piece ending → AreAdded ending old new r piece
      → IsTaken tape line quiet (Call q r) old new (stop_of ending)
  loud_taken q zero old new piece ending noisy some is added n back behind short = absurd (omega arith)
  loud_taken q (suc r) old new piece Stops noisy some is added n back behind short =
      rw noisy (ap (shown_lines old) (is n (times r (λ k. lines_of_run tape line quiet n q k) behind) (short noisy)) ∙ sym (added (None ∷ [])))
  loud_taken q (suc r) old new piece Returns noisy some is added n back behind short =
      rw noisy (ap (shown_lines old) (times_same (suc r) (λ k. lines_of_run tape line quiet n q k) (shown_lines piece) behind (λ k. is n k (short noisy)))
      ∙ sym (added behind))

  -- A wait ends the part.
  pub wait_taken : (code : ℕ) (old new : PieceLines) → ((behind : Lines) → shown_lines new behind ≡ shown_lines old (None ∷ behind))
      → IsTaken tape line quiet (Wait code) old new None
  wait_taken code old new is n back behind short = sym (is behind)

  -- Before the first block the lines so far are none, and all blocks are left.
  pub so_far_start : (p : ℕ) (own : PieceLines) → ((behind : Lines) → shown_lines own behind ≡ behind)
      → IsSoFar tape line quiet p own 0 (blocks tape p)
  unfolding lines_of_run
  so_far_start p own none = record {
    calls = λ i c is. (i, is);
    are = λ n back short. sym (none (blocks_lines (loud tape) quiet (λ q behind. lines_of_run tape line quiet n q behind) (line p) back 0 (blocks tape p)));
  }

  -- If no chain of n + 1 calls begins in a program, none of n calls begins in a program that a
  -- block of it calls.
  short_call : (n p : ℕ) (own : PieceLines) (i : ℕ) (b : ControlBlock) (rest : List ControlBlock)
      → IsSoFar tape line quiet p own i (b ∷ rest) → IsShort tape (suc n) p → IsShortCall tape n b.control
  short_call n p own i b rest so short = go b.control refl
    where
      go : (c : Control) → b.control ≡ c → IsShortCall tape n c
      go (Call q r) is = λ noisy chain.
          let at_place = so.calls 0 b.control refl in
          short (at_place.0, q, r, at_place.1 ∙ ap (λ k. Some k) is, noisy, chain)
      go Next is = tt
      go (Goto n) is = tt
      go (While m) is = tt
      go (Do m) is = tt
      go (EndLoop m) is = tt
      go (Wait code) is = tt
      go End is = tt
      go Back is = tt
      go (BackTo n) is = tt

  -- The lines of the blocks that are left.
  abbrev pub left_lines : ℕ → ℕ → Lines → ℕ → List ControlBlock → Lines
  left_lines p n back i rest = blocks_lines (loud tape) quiet (λ q behind. lines_of_run tape line quiet n q behind) (line p) back i rest

  -- If a block's line is seen and what comes behind it is taken, the lines of the program are the
  -- new ones with those of the blocks that are left.
  taken_on : (n p : ℕ) (back : Lines) (old mid new : PieceLines) (i : ℕ) (b : ControlBlock) (rest : List ControlBlock) (ending : Option Ending)
      → IsSoFar tape line quiet p old i (b ∷ rest) → IsSeen old mid (seen_line (loud tape) quiet (line p i) b.control)
      → IsTaken tape line quiet b.control mid new ending → IsShort tape (suc n) p
      → lines_of_run tape line quiet (suc n) p back ≡ lines_to_come new ending back (left_lines p n back (suc i) rest)
  taken_on n p back old mid new i b rest ending so seen taken short =
      so.are n back short
      ∙ (sym (seen (block_lines (loud tape) (λ q behind. lines_of_run tape line quiet n q behind) back b.control (left_lines p n back (suc i) rest)))
      ∙ taken n back (left_lines p n back (suc i) rest) (short_call n p old i b rest so short))

  -- If the program goes on at a block that was taken, the lines so far are the new ones, with one
  -- block less left.
  pub so_far_next : (p : ℕ) (old mid new : PieceLines) (i : ℕ) (b : ControlBlock) (rest : List ControlBlock)
      → IsSoFar tape line quiet p old i (b ∷ rest) → IsSeen old mid (seen_line (loud tape) quiet (line p i) b.control)
      → IsTaken tape line quiet b.control mid new None → IsSoFar tape line quiet p new (suc i) rest
  so_far_next p old mid new i b rest so seen taken = record {
    calls = λ j c is. so.calls (suc j) c is;
    are = λ n back short. taken_on n p back old mid new i b rest None so seen taken short;
  }

  -- If a program ends, its lines do not hang on what would come if it went on.
  ending_alone : (new : PieceLines) (ending : Ending) (back behind : Lines)
      → lines_to_come new (Some ending) back behind ≡ lines_to_come new (Some ending) back []
  ending_alone new Stops back behind = refl
  ending_alone new Returns back behind = refl

  -- If the program ends at a block that was taken, the new lines are its piece.
  pub piece_at : (p : ℕ) (old mid new : PieceLines) (i : ℕ) (b : ControlBlock) (rest : List ControlBlock) (ending : Ending)
      → IsSoFar tape line quiet p old i (b ∷ rest) → IsSeen old mid (seen_line (loud tape) quiet (line p i) b.control)
      → IsTaken tape line quiet b.control mid new (Some ending) → IsPiece tape line quiet p new ending
  piece_at p old mid new i b rest ending so seen taken zero back short = absurd (short tt)
  piece_at p old mid new i b rest ending so seen taken (suc n) back short =
      taken_on n p back old mid new i b rest (Some ending) so seen taken short
      ∙ ending_alone new ending back (left_lines p n back (suc i) rest)

  -- If no block is left, the lines so far are the piece of a program that stops.
  pub piece_off : (p i : ℕ) (own : PieceLines) → IsSoFar tape line quiet p own i [] → IsPiece tape line quiet p own Stops
  piece_off p i own so zero back short = absurd (short tt)
  piece_off p i own so (suc n) back short = so.are n back short

  -- If no chain of n calls begins in a program, none of n - 1 calls begins in a program that a
  -- block of it calls.
  pub short_left : (n p : ℕ) (own : PieceLines) (i : ℕ) (b : ControlBlock) (rest : List ControlBlock)
      → IsSoFar tape line quiet p own i (b ∷ rest) → IsShort tape n p → IsShortCall tape (n - 1) b.control
  short_left zero p own i b rest so short = absurd (short tt)
  short_left (suc n) p own i b rest so short =
      let e : suc n - 1 ≡ n = omega arith in rw e (short_call n p own i b rest so short)
