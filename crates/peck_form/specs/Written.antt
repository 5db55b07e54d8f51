-- What grooves and holes are written out as, for the laws of src/law.rt.
use Rattle.std.specs.Prelude.{◌≡◌, ◌⊎◌, ℕ, List, [], ◌∷◌, ◌++◌, Option, Some, None, ℤ}
use Rattle.code_tables.specs.declared.system.System.{System}
use Rattle.line_text.specs.declared.body.Word.{Word}
use Rattle.nc_number.specs.declared.point.Point.{Point}
use Rattle.nc_text.specs.declared.tape.Block.{Block}
use Rattle.plain_block.specs.declared.block.PlainBlock.{PlainBlock}
use Rattle.plain_block.specs.Places.{after_all}
use Rattle.peck_cycle.specs.declared.drill.DrillCycle.{DrillCycle}
use Rattle.peck_cycle.specs.declared.groove.GrooveCycle.{GrooveCycle}
use Rattle.peck_cycle.specs.Axes.{place_along}
use Rattle.peck_cycle.specs.Drills.{way_out, place_back, in_blocks}
use Rattle.peck_cycle.specs.Faults.{hole_fault_of, groove_fault_of}
use Rattle.peck_cycle.specs.Grooves.{groove_blocks}
use Rattle.peck_cycle.specs.Safe.{AreSafe}
use Rattle.plain_form.specs.declared.answer.WrittenLine.{WrittenLine}
use Rattle.plain_form.specs.declared.scene.Scene.{Scene}
use Rattle.plain_form.specs.declared.settings.FormSettings.{FormSettings}
use Rattle.cycle_words.specs.Scenes.{start_of, words_of}
use Rattle.peck_form.specs.declared.hole.HoleSaid.{HoleSaid}
use Rattle.peck_form.specs.Groove.{plain_lines}
use Rattle.peck_form.specs.Holes.{hole_after, hole_to, level_of, bottom_of}
use Rattle.peck_form.specs.Run.{block_lines}
use Rattle.peck_form.specs.Turns.{turns_of}

-- a hole with what is in force: from the point R to the bottom, in and out of it
pub record IsHole (said : HoleSaid) (settings : FormSettings) (hole : DrillCycle) (inside : List PlainBlock) : Type 0 where
  -- the point R and the bottom are those that the words name
  pub level : ℤ
  pub bottom : ℤ
  pub level_said : level_of said ≡ Some level
  pub bottom_said : bottom_of said.bottom level ≡ Some bottom
  -- it is the hole between them
  pub is : hole ≡ hole_to said level bottom settings
  -- it has no fault
  pub fit : hole_fault_of hole ≡ None
  -- the blocks are its way in
  pub made : in_blocks hole ≡ Some inside
  -- no move of it is too deep, nor past the level where the run began, whatever level the tool comes
  -- from: that one, or the point R of the hole before it
  pub safe : (start from : Point) → place_along hole.pecks.along start ≡ said.start → AreSafe hole.pecks start from 0 (inside ++ way_out hole)
  -- it leads to the bottom
  pub deep : (from : Point) → place_along hole.pecks.along (after_all from inside) ≡ bottom
  -- and back to the level that is in force
  pub back : (from : Point) → place_along hole.pecks.along (after_all from (inside ++ way_out hole)) ≡ place_back said.returns hole

-- a line has such a hole at its place, as often as its words repeat it
pub record IsHoleLine (said : HoleSaid) (settings : FormSettings) (words : List Word) (line : WrittenLine) : Type 0 where
  pub hole : DrillCycle
  pub inside : List PlainBlock
  pub is : IsHole said settings hole inside
  pub beside : ℤ
  pub beside_said : said.beside ≡ Some beside
  pub lines : line.blocks ≡ block_lines said (turns_of settings) beside inside (way_out hole) words

-- lines have the holes of the blocks of a run, one after another, each with what is in force behind
-- its block
abbrev pub AreHoleLines : System → FormSettings → HoleSaid → List Block → List WrittenLine → Type 0
AreHoleLines system settings said blocks [] = Unit {0}
AreHoleLines system settings said [] (line ∷ lines) = ⊥
AreHoleLines system settings said (block ∷ blocks) (line ∷ lines) =
    IsHoleLine (hole_after said system (words_of block.body)) settings (words_of block.body) line
    × AreHoleLines system settings (hole_after said system (words_of block.body)) blocks lines

-- a groove from where the tool stands, and its plain blocks, which a line has
pub record IsGroove (scene : Scene) (line : WrittenLine) (groove : GrooveCycle) (plain : List PlainBlock) : Type 0 where
  -- it starts where the tool stands
  pub start : Point
  pub stands : start_of scene ≡ Some start
  -- it has no fault
  pub fit : groove_fault_of groove ≡ None
  -- the blocks are its own
  pub made : groove_blocks groove ≡ Some plain
  -- no move of it is too deep
  pub safe : AreSafe groove.pecks start start 0 plain
  -- they lead back
  pub back : after_all start plain ≡ start
  -- the line has them with some feed, and that of the code in force before them
  pub feed : Option ℤ
  pub lines : line.blocks ≡ plain_lines scene.motion feed plain

-- a line that goes, or has the plain blocks of such a groove
abbrev pub IsGrooveLine : Scene → WrittenLine → Type 0
IsGrooveLine scene line = (line.blocks ≡ []) ⊎ ((groove : GrooveCycle) × (plain : List PlainBlock) × IsGroove scene line groove plain)

-- each of these lines is one
abbrev pub AreGrooveLines : Scene → List WrittenLine → Type 0
AreGrooveLines scene [] = Unit {0}
AreGrooveLines scene (line ∷ lines) = IsGrooveLine scene line × AreGrooveLines scene lines
