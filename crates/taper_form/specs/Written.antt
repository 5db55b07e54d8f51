-- What cuts along tapers are written out as, for the laws of src/law.rt.
use Rattle.std.specs.Prelude.{◌≡◌, List, [], ◌∷◌, None, Some, ℤ, false}
use Rattle.code_tables.specs.declared.system.System.{System}
use Rattle.nc_number.specs.declared.point.Point.{Point}
use Rattle.nc_number.specs.Position.{IsPosition}
use Rattle.nc_text.specs.declared.tape.Block.{Block}
use Rattle.plain_block.specs.declared.block.PlainBlock.{PlainBlock}
use Rattle.plain_block.specs.Blocks.{straight_to}
use Rattle.plain_block.specs.declared.course.Course.TheVariants.{Cut}
use Rattle.plain_block.specs.Places.{point_after, after_all}
use Rattle.plain_form.specs.declared.answer.WrittenLine.{WrittenLine}
use Rattle.cycle_words.specs.Lines.{lines_of}
use Rattle.cycle_words.specs.Scenes.{words_of}
use Rattle.thread_form.specs.declared.taper.TaperSaid.{TaperSaid}
use Rattle.thread_form.specs.Taper.{said_after}
use Rattle.taper_form.specs.declared.kind.TaperKind.{TaperKind}
use Rattle.taper_form.specs.declared.cut.TaperCut.{TaperCut}
use Rattle.taper_form.specs.Cuts.{begin_of, is_crossed, cut_blocks, cut_fault}
use Rattle.taper_form.specs.Runs.{cut_to, feed_fault}

-- Four moves of a cut: one to where the taper's line begins, the cut along it, one off the part, and
-- one back.
pub record IsRound (cut : TaperCut) (blocks : List PlainBlock) : Type 0 where
  pub first : PlainBlock
  pub third : PlainBlock
  pub fourth : PlainBlock
  -- the second is the cut to the end that the words name
  pub four : blocks ≡ first ∷ straight_to Cut cut.target ∷ third ∷ fourth ∷ []
  -- it begins where the line begins
  pub begins : point_after cut.start first ≡ begin_of cut
  -- the last one ends where the tool stood before
  pub back : after_all cut.start blocks ≡ cut.start

-- a cut that may be made: the line lies within the travel, on one side of the start
pub record IsFit (cut : TaperCut) : Type 0 where
  pub target : IsPosition cut.target
  pub begin : IsPosition (begin_of cut)
  pub beside : is_crossed cut (begin_of cut) ≡ false

-- a line has the moves of the cut to the end in force, with the taper and the feed in force
pub record IsTaperLine (kind : TaperKind) (start : Point) (said : TaperSaid) (line : WrittenLine) : Type 0 where
  pub x : ℤ
  pub z : ℤ
  pub feed : ℤ
  pub x_said : said.x ≡ Some x
  pub z_said : said.z ≡ Some z
  pub feed_said : said.lead ≡ Some feed
  -- the feed is above 0
  pub feeds : feed_fault feed ≡ None
  -- it may be made
  pub fit : IsFit (cut_to kind start x z said.taper)
  pub lines : line.blocks ≡ lines_of (Some feed) (cut_blocks (cut_to kind start x z said.taper))

-- lines have the cuts of the blocks of a run, one after another, each with what is in force behind its
-- block
abbrev pub AreTaperLines : TaperKind → Point → TaperSaid → List Block → List WrittenLine → Type 0
AreTaperLines kind start said blocks [] = Unit {0}
AreTaperLines kind start said [] (line ∷ lines) = ⊥
AreTaperLines kind start said (block ∷ blocks) (line ∷ lines) =
    IsTaperLine kind start (said_after said (words_of block.body) start) line
    × AreTaperLines kind start (said_after said (words_of block.body) start) blocks lines
