-- Each move of a canned cycle ends at a position, if the start and the end are positions, and none
-- has a centre. `cycle` (src/rectangle.rt) rests on it.
use Rattle.std.proofs.Common.{ℕ, Bool, true, false, [], ◌∷◌, ℤ, Ok, Err, IfOk, if◌then◌else◌}
use Rattle.std.proofs.lemmas.List.Elements.{All-nil, All-cons}
use Rattle.nc_number.specs.declared.point.Point.{Point}
use Rattle.nc_number.specs.Arithmetic.{is_zero}
use Rattle.nc_number.specs.Position.{IsPosition}
use Rattle.nc_moves.specs.declared.motion.Move.{Move}
use Rattle.nc_moves.specs.declared.motion.Move.TheVariants.{Rapid, Feed, Thread}
use Rattle.motion_track.specs.declared.fault.MotionFault.{MotionFault}
use Rattle.motion_track.specs.Within.{IsMoveWithin, AreMovesWithin}
use Rattle.turn_cycles.specs.declared.rectangle.CycleKind.{CycleKind}
use Rattle.turn_cycles.specs.declared.rectangle.CycleKind.TheVariants.{G90, G92, G94}
use Rattle.turn_cycles.specs.Cycles.{corner, cycle_moves, cycle_of}

-- four moves within a range are moves within it
four_within : (far : ℕ) (a b c d : Move) → IsMoveWithin far a → IsMoveWithin far b → IsMoveWithin far c → IsMoveWithin far d → AreMovesWithin far (a ∷ b ∷ c ∷ d ∷ [])
four_within far a b c d at_a at_b at_c at_d =
    let P : Move → Type 0 = IsMoveWithin far in
    All-cons P a (b ∷ c ∷ d ∷ []) at_a (All-cons P b (c ∷ d ∷ []) at_b (All-cons P c (d ∷ []) at_c (All-cons P d [] at_d (All-nil P))))

-- the moves of each cycle are within the range, if its start and its end are positions
moves_within : (far : ℕ) (kind : CycleKind) (start end : Point) (feed : ℤ) (per_rev : Bool) → IsPosition start → IsPosition end → AreMovesWithin far (cycle_moves kind start end feed per_rev)
moves_within far G90 start end feed per_rev here there =
    four_within far (Rapid (corner end start)) (Feed end feed per_rev) (Feed (corner start end) feed per_rev) (Rapid start) ((there.0, here.1), tt) (there, tt) ((here.0, there.1), tt) (here, tt)
moves_within far G92 start end feed per_rev here there =
    four_within far (Rapid (corner end start)) (Thread end feed) (Rapid (corner start end)) (Rapid start) ((there.0, here.1), tt) (there, tt) ((here.0, there.1), tt) (here, tt)
moves_within far G94 start end feed per_rev here there =
    four_within far (Rapid (corner start end)) (Feed end feed per_rev) (Feed (corner end start) feed per_rev) (Rapid start) ((here.0, there.1), tt) (there, tt) ((there.0, here.1), tt) (here, tt)

-- what holds of a value holds of a call that may refuse it
given_unless : {A : Type 0} (b : Bool) (alarm : MotionFault) (a : A) (P : A → Type 0) → P a → IfOk (if b then Err alarm else Ok a) P
given_unless true alarm a P holds = tt
given_unless false alarm a P holds = holds

-- the moves of a cycle that is not refused are within the range
pub cycle_within : (far : ℕ) (kind : CycleKind) (start end : Point) (feed : ℤ) (per_rev : Bool) → IsPosition start → IsPosition end → IfOk (cycle_of kind start end feed per_rev) (AreMovesWithin far)
cycle_within far kind start end feed per_rev here there =
    given_unless (is_zero feed) _ (cycle_moves kind start end feed per_rev) (AreMovesWithin far) (moves_within far kind start end feed per_rev here there)
