-- What threads are written out as, for the law `a_written_thread_is_clear` (src/law.rt).
use Rattle.std.specs.Prelude.{◌≡◌, ◌⊎◌, List, [], ◌∷◌, None, Some}
use Rattle.plain_block.specs.declared.block.PlainBlock.{PlainBlock}
use Rattle.plain_block.specs.Places.{after_all}
use Rattle.plain_form.specs.declared.answer.WrittenLine.{WrittenLine}
use Rattle.plain_form.specs.declared.scene.Scene.{Scene}
use Rattle.thread_cycle.specs.declared.cycle.ThreadCycle.{ThreadCycle}
use Rattle.thread_cycle.specs.Faults.{pass_fault_of}
use Rattle.thread_cycle.specs.Moves.{AreClear}
use Rattle.thread_cycle.specs.Passes.{thread_blocks}
use Rattle.cycle_words.specs.Scenes.{start_of}
use Rattle.thread_form.specs.Answers.{cycle_lines}
use Rattle.thread_form.specs.Coded.{coded_lines}

-- a cycle and its plain blocks, which a line has
pub record IsCycleLine (scene : Scene) (line : WrittenLine) (t : ThreadCycle) (plain : List PlainBlock) : Type 0 where
  -- it starts where the tool stands
  pub start : start_of scene ≡ Some t.start
  -- its passes have no fault
  pub fit : pass_fault_of t ≡ None
  -- the blocks are its own
  pub made : thread_blocks t ≡ Some plain
  -- each move is clear
  pub clear : AreClear t t.start plain
  -- they lead back
  pub back : after_all t.start plain ≡ t.start
  -- the line has them, or them and that of the code in force before it
  pub lines : (line.blocks ≡ coded_lines scene.system plain) ⊎ (line.blocks ≡ cycle_lines scene plain)

-- a line that goes, or has the plain blocks of such a cycle
abbrev pub IsThreadLine : Scene → WrittenLine → Type 0
IsThreadLine scene line = (line.blocks ≡ []) ⊎ ((t : ThreadCycle) × (plain : List PlainBlock) × IsCycleLine scene line t plain)

-- each of these lines is one
abbrev pub AreThreadLines : Scene → List WrittenLine → Type 0
AreThreadLines scene [] = Unit {0}
AreThreadLines scene (line ∷ lines) = IsThreadLine scene line × AreThreadLines scene lines
