-- The words of a plain block, as its text has them, and what it is that they run as its move.
use Rattle.std.specs.Prelude.{◌≡◌, ℕ, Bool, true, false, ◌||◌, is_some, List, [], ◌∷◌, ◌++◌, Option, Some, None, ℤ, pos, ◌*ℤ◌, if◌then◌else◌}
use Rattle.nc_number.specs.declared.cause.Cause.TheVariants.{PositionRange}
use Rattle.nc_number.specs.Causes.{cause_number}
use Rattle.nc_number.specs.declared.point.Point.{Point}
use Rattle.nc_number.specs.Literals.{has_point}
use Rattle.nc_number.specs.Printed.{value_text}
use Rattle.nc_moves.specs.declared.motion.Move.{Move}
use Rattle.nc_moves.specs.declared.motion.Move.TheVariants.{Rapid, Feed}
use Rattle.offset_store.specs.Offsets.{plus}
use Rattle.block_words.specs.declared.word.FlowWord.{FlowWord}
use Rattle.block_words.specs.declared.word.WordValue.TheVariants.{Fixed}
use Rattle.rough_cycle.specs.declared.block.PlainBlock.{PlainBlock}
use Rattle.rough_cycle.specs.Moves.{point_after, IsClear}
use Rattle.path_state.specs.View.{PathView}
use Rattle.path_state.specs.Effect.{Effect, Done, Alarm, effect_of_body, block_at, effect_of}
use Rattle.path_state.specs.Statements.{Write}
use Rattle.nc_number.specs.declared.value.Var.{Var}
use Rattle.nc_moves.specs.Motion.{end_of}
use Rattle.block_order.specs.declared.control.Control.TheVariants.{Next}
use Rattle.block_order.specs.declared.program.ControlProgram.{ControlProgram}
use Rattle.block_forms.specs.declared.block.FlowBlock.{FlowBlock}
use Rattle.block_forms.specs.declared.words.FlowWords.{FlowWords}
use Rattle.tape_flow.specs.declared.flow.Flow.{Flow}
use Rattle.block_forms.specs.declared.body.FlowBody.TheVariants.{Words}
use Rattle.known_blocks.specs.declared.known.Known.{Known}
use Rattle.known_state.specs.Agreement.{shift_under}

-- a word that is written out
abbrev pub word : ℕ → ℤ → Bool → FlowWord
word letter value point = record { letter = letter; value = Fixed (record { value = value; point = point }) }

-- G01 or G00
abbrev pub code_word : Bool → FlowWord
code_word cuts = if cuts then word 71 (pos 1000000) false else word 71 (pos 0) false

-- the word of an axis, in 0.001 mm, if the block moves it
abbrev pub axis_words : ℕ → Option ℤ → List FlowWord
axis_words letter None = []
axis_words letter (Some at) = word letter (at *ℤ pos 1000) true ∷ []

-- F, if the block cuts
abbrev pub feed_words : Bool → ℤ → List FlowWord
feed_words cuts feed = if cuts then word 70 feed (has_point (value_text feed)) ∷ [] else []

-- the words of a plain block
abbrev pub words_of_plain : ℤ → PlainBlock → List FlowWord
words_of_plain feed block =
    code_word block.cuts ∷ (axis_words 88 block.x ++ (axis_words 90 block.z ++ feed_words block.cuts feed))

-- a path stands at a point as the program counts, and X and Z are where a block goes
pub record IsThere (point : Point) (path : PathView) : Type 0 where
  pub stands : path.position ≡ plus point (shift_under path.modal path.offsets)
  pub absolute : path.modal.incremental ≡ false

-- the one move of a plain block, to the point that it leads to; none if it names no axis
abbrev pub plain_moves : Point → Point → ℤ → Bool → PlainBlock → List Move
plain_moves shift from feed per_rev block =
    if is_some block.x || is_some block.z
    then (if block.cuts then Feed (plus (point_after from block) shift) feed per_rev else Rapid (plus (point_after from block) shift)) ∷ []
    else []

-- the effect is the move of the plain block, or the alarm of a point that the machine can't reach
abbrev pub RunsAs : PathView → Point → ℤ → PlainBlock → Effect → Type 0
RunsAs path from feed block (Done after write moves) =
    (moves ≡ plain_moves (shift_under path.modal path.offsets) from feed path.modal.per_rev block)
    × (write ≡ None)
    × IsThere (point_after from block) after
    × (shift_under after.modal after.offsets ≡ shift_under path.modal path.offsets)
    × (after.modal.per_rev ≡ path.modal.per_rev)
RunsAs path from feed block (Alarm number value) = number ≡ cause_number PositionRange
RunsAs path from feed block other = ⊥

-- A path does these blocks one after the other, each of them done, and nothing comes between that
-- moves it: the path behind them, and its moves. A wait or another program's turn changes nothing
-- here, since between plain blocks there is none.
pub data DoesAll (tape : List ControlProgram) : PathView → List FlowWords → PathView → List Move → Type 0 where
  -- no block
  none : (path : PathView) → DoesAll tape path [] path []
  -- a block and then the others; `path.place` aside, the path comes to the next block as the block
  -- before left it
  more : (path mid after : PathView) (words : FlowWords) (rest : List FlowWords) (reads : List Var) (write : Option Write)
      (first moves : List Move) → effect_of_body tape path.fixed path (Words words) Next reads ≡ Done mid write first
      → DoesAll tape mid rest after moves → DoesAll tape path (words ∷ rest) after (first ++ moves)

-- A path does the blocks of its flow from where it stands, one after the other; they are these words,
-- and each only goes on to the next: the path behind them, and its moves.
pub data DoesPart (flow : Flow) : PathView → List FlowWords → PathView → List Move → Type 0 where
  -- no block
  no_more : (path : PathView) → DoesPart flow path [] path []
  -- the block at which it stands, and then the others
  one : (path mid after : PathView) (block : FlowBlock) (words : FlowWords) (rest : List FlowWords) (reads : List Var)
      (write : Option Write) (first moves : List Move) → block_at flow.programs path.place ≡ Some block
      → block.body ≡ Words words → block.control ≡ Next → effect_of flow path reads ≡ Done mid write first
      → DoesPart flow mid rest after moves → DoesPart flow path (words ∷ rest) after (first ++ moves)

-- it is known that a path stands at a point, and that X and Z are where a block goes
pub record IsKnownStart (known : Known) (from : Point) : Type 0 where
  pub across : known.x ≡ Some from.x
  pub along : known.z ≡ Some from.z
  pub absolute : known.incremental ≡ Some false

-- these are the words of these plain blocks
abbrev pub AreWordsOf : ℤ → List FlowWords → List PlainBlock → Type 0
AreWordsOf feed [] [] = Unit {0}
AreWordsOf feed (w ∷ ws) (b ∷ bs) = (w.words ≡ words_of_plain feed b) × AreWordsOf feed ws bs
AreWordsOf feed ws bs = ⊥

-- each move leads to a whole point, as the program counts, and no whole point on the way lies inside
-- the contour; `shift` is how far the program's zero lies from the machine's
abbrev pub KeepOut : Point → List Point → Point → Point → List Move → Type 0
KeepOut p points shift from [] = Unit {0}
KeepOut p points shift from (move ∷ moves) =
    (to : Point) × (end_of move ≡ Some (plus to shift)) × IsClear p points from to × KeepOut p points shift to moves
