-- Worked blocks: a block, the state before it, and what it comes to, so that a reader can check the
-- definitions of Effect against what a control does.
-- For the law `worked_blocks_come_to_these` (src/worked.rt) alone.
use Rattle.std.specs.Prelude.{◌≡◌, ℕ, true, false, List, [], ◌∷◌, slice_set, ℤ, pos, negsuc, neg_ℤ}
use Rattle.nc_number.specs.declared.point.Point.{Point}
use Rattle.nc_number.specs.declared.value.Var.{Var}
use Rattle.nc_number.specs.declared.value.Var.TheVariants.{Vacant, Is}
use Rattle.nc_moves.specs.declared.motion.Move.{Move}
use Rattle.nc_moves.specs.declared.motion.Move.TheVariants as move
use Rattle.nc_moves.specs.declared.motion.Centre.TheVariants.{Offset}
use Rattle.code_tables.specs.declared.system.System.{System}
use Rattle.code_tables.specs.declared.system.System.TheVariants.{A, B}
use Rattle.common_vars.specs.Common.{none_written}
use Rattle.local_levels.specs.Stack.{base_level, local}
use Rattle.modal_state.specs.Modal.{opening_modal}
use Rattle.offset_store.specs.Offsets.{no_offsets}
use Rattle.macro_expr.specs.declared.tree.Op.TheVariants.{Div}
use Rattle.macro_expr.specs.declared.tree.Rel.TheVariants.{Eq}
use Rattle.macro_expr.specs.Tree.{Tree, Number, Variable, Joined, Fixed as Numbered, ToNumber, Sentence, Assign, IfGoto}
use Rattle.block_order.specs.declared.control.Control.TheVariants.{Next, Call, Back, End}
use Rattle.block_order.specs.declared.frame.Frame.{Frame}
use Rattle.block_forms.specs.declared.called.CallKind.TheVariants.{Macro}
use Rattle.block_words.specs.declared.purpose.Purpose.TheVariants.{Other, MacroCall, Dwell, Return}
use Rattle.block_words.specs.declared.word.FlowWord.{FlowWord}
use Rattle.block_words.specs.declared.word.WordValue.TheVariants.{Fixed as Written, Computed}
use Rattle.path_state.specs.View.{Fixed, PathView}
use Rattle.path_state.specs.Effect.{Effect, Need, Done, AtEnd, Alarm, block_of_words, block_of_statement}

-- a point by X and Z, in 0.001 mm
abbrev pub point : ℤ → ℤ → Point
point x z = record { x = x; z = z }

-- a number, as one below zero
abbrev pub minus : ℕ → ℤ
minus n = neg_ℤ (pos n)

-- a cell whose paths share #500 to #599, with its reference position at 0
abbrev pub cell : Fixed
cell = record { home = point (pos 0) (pos 0); shared100 = 0; shared500 = 100 }

-- a path of the system at the first block of program 1, at this point
abbrev pub path_of : System → Point → PathView
path_of system at = record {
  place = record { program = 1; block = 0; left = 0 } ∷ [];
  calls = [];
  levels = base_level ∷ [];
  own = none_written;
  modal = opening_modal system;
  offsets = no_offsets;
  position = at;
  fixed = cell;
}

-- a path of system A at the first block of program 1, at this point
abbrev pub path_at : Point → PathView
path_at at = path_of A at

-- a word that is written out with a point, its value in millionths
abbrev pub word : ℕ → ℤ → FlowWord
word letter micro = record { letter = letter; value = Written (record { value = micro; point = true }) }

-- a word whose value is an expression
abbrev pub word_of_tree : ℕ → Tree → FlowWord
word_of_tree letter tree = record { letter = letter; value = Computed false tree }

-- the moves of a block that is done or ends; none of any other
abbrev pub moves_in : Effect → List Move
moves_in (Done path write moves) = moves
moves_in (AtEnd path moves) = moves
moves_in other = []

-- what `#i` of the running level holds behind a block that is done
abbrev pub local_in : ℕ → Effect → Var
local_in i (Done path write moves) = local i path.levels
local_in i other = Vacant

-- the place behind a block that is done
abbrev pub place_in : Effect → List Frame
place_in (Done path write moves) = path.place
place_in other = []

-- what a block of words of system A comes to that calls no macro, with nothing read
abbrev pub words_done : PathView → List FlowWord → Effect
words_done path words = block_of_words [] cell path Other A words Next []

-- what a block of words of system B comes to that calls no macro, from X50. Z2.
abbrev pub done_in_b : List FlowWord → Effect
done_in_b words = block_of_words [] cell (path_of B (point (pos 50000) (pos 2000))) Other B words Next []

-- what a block comes to that is a statement, with these values read
abbrev pub statement_done : PathView → Sentence → List Var → Effect
statement_done path sentence reads = block_of_statement [] cell path sentence reads

-- The worked blocks: each field is one, and what it comes to. Words are written by the letter's
-- byte and the value in 0.000001: A 65, F 70, G 71, I 73, K 75, M 77, P 80, S 83, U 85, W 87, X 88,
-- Z 90. Points are in 0.001 mm.
pub record WorkedBlocks : Type 0 where
  -- G90 X40. Z-20. F0.2 from X50. Z2.: to X, a cut to Z, a cut back to X, and home along Z
  pub cycle : moves_in (words_done (path_at (point (pos 50000) (pos 2000)))
      (word 71 (pos 90000000) ∷ word 88 (pos 40000000) ∷ word 90 (negsuc 19999999) ∷ word 70 (pos 200000) ∷ []))
      ≡ move.Rapid (point (pos 40000) (pos 2000)) ∷ move.Feed (point (pos 40000) (negsuc 19999)) (pos 200000) true
      ∷ move.Feed (point (pos 50000) (negsuc 19999)) (pos 200000) true ∷ move.Rapid (point (pos 50000) (pos 2000)) ∷ []
  -- G00 X5. X#1 with #1 vacant goes to X5.
  pub vacant : moves_in (words_done (path_at (point (pos 0) (pos 0)))
      (word 71 (pos 0) ∷ word 88 (pos 5000000) ∷ word_of_tree 88 (Variable 1) ∷ []))
      ≡ move.Rapid (point (pos 5000) (pos 0)) ∷ []
  -- S[1.5] X#500 is alarm 64 without a read
  pub range : words_done (path_at (point (pos 0) (pos 0))) (word_of_tree 83 (Number (pos 1500000)) ∷ word_of_tree 88 (Variable 500) ∷ [])
      ≡ Alarm 64 (pos 0)
  -- #1=1/3 is 0.333333
  pub third : local_in 1 (statement_done (path_at (point (pos 0) (pos 0)))
      (Assign (Numbered 1) (Joined Div (Number (pos 1000000)) (Number (pos 3000000)))) []) ≡ Is (pos 333333)
  -- #9999=1/0 is alarm 30, #4001=1/0 alarm 2, and #4001=#500 needs a read first
  pub nameless : statement_done (path_at (point (pos 0) (pos 0)))
      (Assign (Numbered 9999) (Joined Div (Number (pos 1000000)) (Number (pos 0)))) [] ≡ Alarm 30 (pos 0)
  pub zero_divisor : statement_done (path_at (point (pos 0) (pos 0)))
      (Assign (Numbered 4001) (Joined Div (Number (pos 1000000)) (Number (pos 0)))) [] ≡ Alarm 2 (pos 0)
  pub read_first : statement_done (path_at (point (pos 0) (pos 0))) (Assign (Numbered 4001) (Variable 500)) [] ≡ Need 500
  -- IF [#1 EQ 0] GOTO 90 with #1 vacant: the next block follows
  pub differs : place_in (statement_done (path_at (point (pos 0) (pos 0)))
      (IfGoto (record { left = Variable 1; rel = Eq; right = Number (pos 0) }) (ToNumber 90)) [])
      ≡ record { program = 1; block = 1; left = 0 } ∷ []
  -- G65 P1000 A1. opens a call, and its level has #1
  pub called : place_in (block_of_words [] cell (path_at (point (pos 0) (pos 0))) MacroCall A
      (word 71 (pos 65000000) ∷ word 80 (pos 1000000000) ∷ word 65 (pos 1000000) ∷ []) (Call 1000 1) [])
      ≡ record { program = 1000; block = 0; left = 0 } ∷ record { program = 1; block = 0; left = 0 } ∷ []
  pub argument : local_in 1 (block_of_words [] cell (path_at (point (pos 0) (pos 0))) MacroCall A
      (word 71 (pos 65000000) ∷ word 80 (pos 1000000000) ∷ word 65 (pos 1000000) ∷ []) (Call 1000 1) [])
      ≡ Is (pos 1000000)
  -- T0101 with the geometry of tool 1 at X-1.: the programmed X is 10. while the machine stands at
  -- 9.
  pub programmed : local_in 1 (statement_done
      (record (path_at (point (pos 9000) (pos 0))) {
        modal = record (opening_modal A) { tool = 101; offset = 1 };
        offsets = record no_offsets { geometry = slice_set no_offsets.geometry 1 (point (minus 1000) (pos 0)) };
      })
      (Assign (Numbered 1) (Variable 5001)) []) ≡ Is (pos 10000000)
  -- G04 X1.5 rests 1,500 ms
  pub rest : moves_in (block_of_words [] cell (path_at (point (pos 0) (pos 0))) Dwell A
      (word 71 (pos 4000000) ∷ word 88 (pos 1500000) ∷ []) Next []) ≡ move.Dwell 1500 ∷ []
  -- G28 U0 W0 from X50. Z2.: to the intermediate point, and home
  pub home : moves_in (words_done (path_at (point (pos 50000) (pos 2000)))
      (word 71 (pos 28000000) ∷ word 85 (pos 0) ∷ word 87 (pos 0) ∷ []))
      ≡ move.Rapid (point (pos 50000) (pos 2000)) ∷ move.Rapid (point (pos 0) (pos 0)) ∷ []
  -- G02 X0 Z-10.01 I-10. K0 F0.1 from X20. Z0, and alarm 42 where Z is -10.011
  pub arc : moves_in (words_done (path_at (point (pos 20000) (pos 0)))
      (word 71 (pos 2000000) ∷ word 88 (pos 0) ∷ word 90 (minus 10010000) ∷ word 73 (minus 10000000)
      ∷ word 75 (pos 0) ∷ word 70 (pos 100000) ∷ []))
      ≡ move.Arc true (point (pos 0) (minus 10010)) (Offset (minus 10000) (pos 0)) (pos 100000) true ∷ []
  pub off_the_circle : words_done (path_at (point (pos 20000) (pos 0)))
      (word 71 (pos 2000000) ∷ word 88 (pos 0) ∷ word 90 (minus 10011000) ∷ word 73 (minus 10000000)
      ∷ word 75 (pos 0) ∷ word 70 (pos 100000) ∷ []) ≡ Alarm 42 (pos 0)
  -- G01 X1. with F vacant is alarm 44, and I beside G00 alarm 56
  pub no_feed : words_done (path_at (point (pos 0) (pos 0))) (word 71 (pos 1000000) ∷ word 88 (pos 1000000) ∷ [])
      ≡ Alarm 44 (pos 0)
  pub no_arc : words_done (path_at (point (pos 0) (pos 0))) (word 73 (pos 1000000) ∷ []) ≡ Alarm 56 (pos 0)
  -- G96 S200 M03: the speed at the surface, and then the auxiliary code
  pub speed : moves_in (words_done (path_at (point (pos 0) (pos 0)))
      (word 71 (pos 96000000) ∷ word 83 (pos 200000000) ∷ word 77 (pos 3000000) ∷ []))
      ≡ move.Speed true 200 ∷ move.Aux 3 ∷ []
  -- M99 in a macro with a repeat left begins it anew, with its arguments; without one it returns
  -- behind the call
  pub repeats : place_in (block_of_words [] cell
      (record (path_at (point (pos 0) (pos 0))) {
        place = record { program = 2; block = 7; left = 1 } ∷ record { program = 1; block = 4; left = 0 } ∷ [];
        calls = Macro ∷ [];
        levels = base_level ∷ base_level ∷ [];
      }) Return A (word 77 (pos 99000000) ∷ []) Back [])
      ≡ record { program = 2; block = 0; left = 0 } ∷ record { program = 1; block = 4; left = 0 } ∷ []
  pub returns : place_in (block_of_words [] cell
      (record (path_at (point (pos 0) (pos 0))) {
        place = record { program = 2; block = 7; left = 0 } ∷ record { program = 1; block = 4; left = 0 } ∷ [];
        calls = Macro ∷ [];
        levels = base_level ∷ base_level ∷ [];
      }) Return A (word 77 (pos 99000000) ∷ []) Back [])
      ≡ record { program = 1; block = 5; left = 0 } ∷ []
  -- X1. M30 from X0 Z0: the word beside M30 makes its move
  pub ends : moves_in (block_of_words [] cell (path_at (point (pos 0) (pos 0))) Other A
      (word 88 (pos 1000000) ∷ word 77 (pos 30000000) ∷ []) End []) ≡ move.Rapid (point (pos 1000) (pos 0)) ∷ []
  -- Of system B: G91 G01 X-5. Z-1. F0.2 goes so far, G77 X40. Z-20. F0.2 is the cycle that G90 is
  -- in A, G91 G53 X0 is alarm 56, and so is G91 G53 alone.
  pub incremental : moves_in (done_in_b (word 71 (pos 91000000) ∷ word 71 (pos 1000000) ∷ word 88 (minus 5000000)
      ∷ word 90 (minus 1000000) ∷ word 70 (pos 200000) ∷ []))
      ≡ move.Feed (point (pos 45000) (pos 1000)) (pos 200000) true ∷ []
  pub cycle_in_b : moves_in (done_in_b (word 71 (pos 77000000) ∷ word 88 (pos 40000000) ∷ word 90 (negsuc 19999999)
      ∷ word 70 (pos 200000) ∷ []))
      ≡ move.Rapid (point (pos 40000) (pos 2000)) ∷ move.Feed (point (pos 40000) (negsuc 19999)) (pos 200000) true
      ∷ move.Feed (point (pos 50000) (negsuc 19999)) (pos 200000) true ∷ move.Rapid (point (pos 50000) (pos 2000)) ∷ []
  pub in_machine : done_in_b (word 71 (pos 91000000) ∷ word 71 (pos 53000000) ∷ word 88 (pos 0) ∷ []) ≡ Alarm 56 (pos 0)
  pub in_machine_alone : done_in_b (word 71 (pos 91000000) ∷ word 71 (pos 53000000) ∷ []) ≡ Alarm 56 (pos 0)
  -- #1=#4003 is 90 at first in system B, and alarm 30 in A; #4003=0 is alarm 31 in B, and alarm 30
  -- in A
  pub absolute_in_b : local_in 1 (statement_done (path_of B (point (pos 0) (pos 0))) (Assign (Numbered 1) (Variable 4003)) [])
      ≡ Is (pos 90000000)
  pub absolute_in_a : statement_done (path_at (point (pos 0) (pos 0))) (Assign (Numbered 1) (Variable 4003)) [] ≡ Alarm 30 (pos 0)
  pub protected_in_b : statement_done (path_of B (point (pos 0) (pos 0))) (Assign (Numbered 4003) (Number (pos 0))) []
      ≡ Alarm 31 (pos 0)
  pub nameless_in_a : statement_done (path_at (point (pos 0) (pos 0))) (Assign (Numbered 4003) (Number (pos 0))) []
      ≡ Alarm 30 (pos 0)
