-- How contracts read the structs of src/motion.rt as the records of Values and Motion, so that the
-- code of a motion can be compared with its definition.
use Rattle.std.specs.Prelude.{ℕ, List, Some, unwrap_or, Result, Ok, Err}
use Rattle.motion_track.specs.Centre.{IsLengthWithin}
use Rattle.nc_moves.specs.declared.motion.Move.{Move}
use Rattle.block_values.specs.declared.motion.Motion.{Motion as Drawn}
use Rattle.block_values.specs.declared.motion.MotionStep.{MotionStep}
use Rattle.block_values.specs.declared.motion.MotionWords.{MotionWords}
use Rattle.block_values.specs.Motion.{Motion}
use Rattle.block_values.specs.Values.{Values, nothing_said}

-- the words of a block as its motion has them; F, S and T, which no motion takes, are not said
abbrev pub motion_said : MotionWords → Values
motion_said words = record nothing_said {
  x = words.x;
  z = words.z;
  u = words.u;
  w = words.w;
  i = words.i;
  k = words.k;
  r = words.r;
  number = words.number;
  rest = Some words.rest;
}

-- the words that the motion of a block takes out of all its words; a dwell that is not said is 0
abbrev pub motion_part : Values → MotionWords
motion_part values = record {
  x = values.x;
  z = values.z;
  u = values.u;
  w = values.w;
  i = values.i;
  k = values.k;
  r = values.r;
  number = values.number;
  rest = unwrap_or values.rest 0;
}

-- no length of the words is longer than `far`, in 0.001 mm
pub record AreLengthsWithin (far : ℕ) (words : MotionWords) : Type 0 where
  pub x : IsLengthWithin far words.x
  pub z : IsLengthWithin far words.z
  pub u : IsLengthWithin far words.u
  pub w : IsLengthWithin far words.w
  pub i : IsLengthWithin far words.i
  pub k : IsLengthWithin far words.k
  pub r : IsLengthWithin far words.r

-- a motion of the code, as the record of specs/Motion
abbrev pub motion_view : Drawn → Motion
motion_view motion = record { moves = motion.moves; cycle = motion.cycle; offset = motion.offset }

-- a motion of the code as that record, or the fault for which there is none
abbrev pub drawn_motion : {F : Type 0} → Result Drawn F → Result Motion F
drawn_motion (Ok motion) = Ok (motion_view motion)
drawn_motion (Err fault) = Err fault

-- a step of the code with its moves, which stand in a list that was lent, as one motion
abbrev pub step_motion : MotionStep → List Move → Motion
step_motion step moves = record { moves = moves; cycle = step.cycle; offset = step.offset }

-- a step of the code with its moves as one motion, or the fault for which there is none
abbrev pub step_seen : {F : Type 0} → Result MotionStep F → List Move → Result Motion F
step_seen (Ok step) moves = Ok (step_motion step moves)
step_seen (Err fault) moves = Err fault
