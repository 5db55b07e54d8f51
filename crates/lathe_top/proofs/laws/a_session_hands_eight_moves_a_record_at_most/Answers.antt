-- For the proof of this law (src/laws.rt): what is due to a turret is its place, three rests and at
-- most seven things a record, which is less than the eight that the law says.
use Rattle.std.proofs.Common.{arith, ◌≤◌, ◌∷◌, [], ◌++◌, length, length-append}
use Rattle.nc_number.specs.Both.{of_path}
use Rattle.nc_outside.specs.declared.got.Got.TheVariants.{Rested}
use Rattle.nc_outside.specs.declared.rest.Rest.TheVariants.{End}
use Rattle.run_table.specs.declared.resting.Resting.{Resting}
use Rattle.run_table.specs.declared.resting.Resting.TheVariants.{Unasked, Asked, Rests}
use Rattle.run_table.specs.Draining.{rest_told}
use Rattle.run_table.specs.Made.{told_made}
use Rattle.lathe_top.proofs.laws.a_session_hands_eight_moves_a_record_at_most.Goals as goal

-- a turret is told one rest at most for a wait that is not recorded
one_rest : (r : Resting) → length (rest_told r) ≤ 1
one_rest Unasked = omega arith
one_rest (Asked code) = omega arith
one_rest (Rests code) = omega arith

pub returns : goal.returns
returns c = λ s limit upto resting path within few.
    let told = told_made s.pair path (length s.found) upto s.history in
    let rest = rest_told (of_path resting path) in
    omega (
      arith,
      within,
      few,
      length-append (told ++ rest) (Rested End ∷ []),
      length-append told rest,
      one_rest (of_path resting path),
      c.a_record_makes_seven_moves_at_most.ensures.tells s.pair path (length s.found) upto s.history,
    )
