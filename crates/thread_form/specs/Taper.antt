-- G92 (G78 in system B) with a taper, and the blocks that cut with its words in force. src/taper.rt
-- reads them. The letters are bytes: 70 F, 82 R, 85 U, 87 W, 88 X, 90 Z.
use Rattle.std.specs.Prelude.{ℕ, Bool, ◌||◌, ◌&&◌, List, [], ◌∷◌, ◌++◌, codes, Option, Some, None, ℤ, pos, ◌+ℤ◌, if◌then◌else◌}
use Rattle.code_tables.specs.declared.system.System.{System}
use Rattle.code_tables.specs.declared.system.System.TheVariants.{A, B}
use Rattle.line_text.specs.declared.body.Body.{Body}
use Rattle.line_text.specs.declared.body.Word.{Word}
use Rattle.nc_number.specs.declared.point.Point.{Point}
use Rattle.nc_text.specs.declared.tape.Block.{Block}
use Rattle.plain_block.specs.declared.block.PlainBlock.{PlainBlock}
use Rattle.plain_form.specs.declared.scene.Scene.{Scene}
use Rattle.plain_form.specs.declared.settings.FormSettings.{FormSettings}
use Rattle.plain_form.specs.declared.answer.FormAnswer.{FormAnswer}
use Rattle.plain_form.specs.declared.answer.FormAnswer.TheVariants.{Written}
use Rattle.plain_form.specs.declared.answer.WrittenLine.{WrittenLine}
use Rattle.plain_form.specs.declared.cause.PlainCause.{PlainCause}
use Rattle.plain_form.specs.declared.cause.PlainCause.TheVariants as cause
use Rattle.plain_form.specs.Said.{has_code}
use Rattle.thread_cycle.specs.declared.cycle.ThreadCycle.{ThreadCycle}
use Rattle.thread_cycle.specs.declared.fault.ThreadFault.{ThreadFault}
use Rattle.thread_cycle.specs.declared.rounding.RootRounding.TheVariants.{Down}
use Rattle.thread_cycle.specs.declared.tip.TipAngle.TheVariants.{Degrees0}
use Rattle.thread_cycle.specs.Faults.{pass_fault_of}
use Rattle.thread_cycle.specs.Passes.{thread_blocks}
use Rattle.cycle_words.specs.Numbers.{length_said, length_or, value_said, is_said}
use Rattle.cycle_words.specs.Causes.{first_cause, calculated_in, unexpected_in}
use Rattle.thread_form.specs.declared.taper.TaperSaid.{TaperSaid}
use Rattle.thread_form.specs.declared.taper.TaperStep.{TaperStep}
use Rattle.thread_form.specs.declared.taper.TaperStep.TheVariants.{Ends, Stops, Cuts}
use Rattle.thread_form.specs.declared.answers.ThreadWords.TheVariants.{OfRun}
use Rattle.thread_form.specs.Answers.{fault_cause}
use Rattle.thread_form.specs.Coded.{coded_lines}
use Rattle.thread_form.specs.TwoLines.{twice_cause}
use Rattle.cycle_words.specs.Scenes.{start_of, way_cause, words_of, says_ends, refused, has_motion}

-- the cycle's code, in millionths
abbrev pub taper_code : System → ℤ
taper_code A = pos 92000000
taper_code B = pos 78000000

-- a block begins such a run
abbrev pub is_taper : System → List Word → Bool
is_taper system words = has_code (taper_code system) words && is_said 82 words

abbrev pub begins_taper : System → Body → Bool
begins_taper system body = is_taper system (words_of body)

-- the letters that a block of a run may have
abbrev pub letters_of : System → List ℕ
letters_of A = codes "GXUZWRF"
letters_of B = codes "GXZRF"

-- why the words of a block of a run are refused
abbrev pub words_cause : System → List Word → Option PlainCause
words_cause system words =
    first_cause (first_cause (unexpected_in (letters_of system) (taper_code system ∷ []) words) (twice_cause words))
    (first_cause (calculated_in (codes "XUZWRF") words) (if says_ends words then None else Some cause.NoForm))

-- where an axis goes: to its word, or as far from the start, or where it went before
abbrev pub axis_next : Option ℤ → Option ℤ → ℤ → Option ℤ → Option ℤ
axis_next (Some to) way start before = Some to
axis_next None (Some way) start before = Some (start +ℤ way)
axis_next None None start before = before

-- the lead of a block: its own, or the one before
abbrev pub lead_next : Option ℤ → Option ℤ → Option ℤ
lead_next (Some lead) before = Some lead
lead_next None before = before

-- what is in force after a block
abbrev pub said_after : TaperSaid → List Word → Point → TaperSaid
said_after said words start = record {
  x = axis_next (length_said 88 words) (length_said 85 words) start.x said.x;
  z = axis_next (length_said 90 words) (length_said 87 words) start.z said.z;
  taper = length_or 82 said.taper words;
  lead = lead_next (value_said 70 words) said.lead;
}

-- the pass to an end: a cycle without depth, with one pass
abbrev pub pass_of : TaperSaid → Point → Point → ℤ → FormSettings → ThreadCycle
pass_of said start target lead settings = record {
  start = start;
  target = target;
  taper = said.taper;
  depth = 0;
  first = 0;
  least = 0;
  left = 0;
  finishing = 1;
  pull_out = settings.thread_pull_out;
  tip = Degrees0;
  rounding = Down;
  lead = lead;
}

-- the blocks of a pass, or that they are too many
abbrev pub blocks_step : System → Option (List PlainBlock) → TaperStep
blocks_step system None = Stops cause.Passes
blocks_step system (Some blocks) = Cuts (coded_lines system blocks)

-- what a pass is in the run: what it can't do, or its blocks
abbrev pub step_by : System → Option ThreadFault → Option (List PlainBlock) → TaperStep
step_by system (Some fault) blocks = Stops (fault_cause OfRun fault)
step_by system None blocks = blocks_step system blocks

abbrev pub pass_step : System → ThreadCycle → TaperStep
pass_step system t = step_by system (pass_fault_of t) (thread_blocks t)

-- the same with a lead, or without
abbrev pub lead_step : Option ℤ → System → TaperSaid → Point → Point → FormSettings → TaperStep
lead_step None system said start target settings = Stops cause.Feed
lead_step (Some lead) system said start target settings = pass_step system (pass_of said start target lead settings)

-- the same with its ends, or without one
abbrev pub ends_step : Option ℤ → Option ℤ → System → TaperSaid → Point → FormSettings → TaperStep
ends_step None z system said start settings = Stops (cause.Missing 88)
ends_step (Some x) None system said start settings = Stops (cause.Missing 90)
ends_step (Some x) (Some z) system said start settings = lead_step said.lead system said start (record { x = x; z = z }) settings

-- what a block is in the run, with what is in force after it
abbrev pub said_step : System → TaperSaid → Point → FormSettings → TaperStep
said_step system said start settings = ends_step said.x said.z system said start settings

-- the same, if its words are not refused
abbrev pub words_step : Option PlainCause → System → TaperSaid → Point → FormSettings → TaperStep
words_step (Some why) system said start settings = Stops why
words_step None system said start settings = said_step system said start settings

-- what a block is in the run
abbrev pub block_step : List Word → TaperSaid → Point → System → FormSettings → TaperStep
block_step words said start system settings =
    if has_motion system words then Ends else words_step (words_cause system words) system said start settings

-- after a block of the run: it ends, it is refused, or it goes on with the block's lines
abbrev pub after_step : ℕ → List WrittenLine → TaperStep → (List WrittenLine → FormAnswer) → FormAnswer
after_step line done Ends further = Written done
after_step line done (Stops why) further = refused line why
after_step line done (Cuts blocks) further = further (done ++ record { blocks = blocks } ∷ [])

-- the answer to the blocks of a run that are left, after the lines so far
unfoldable pub run_from : List Block → Point → Scene → FormSettings → TaperSaid → List WrittenLine → FormAnswer
run_from [] start scene settings said done = Written done
run_from (block ∷ blocks) start scene settings said done =
    after_step block.line done (block_step (words_of block.body) (said_after said (words_of block.body) start) start scene.system settings)
    (λ lines. run_from blocks start scene settings (said_after said (words_of block.body) start) lines)

-- what is in force before a run: the feed alone
abbrev pub said_before : Scene → TaperSaid
said_before scene = record { x = None; z = None; taper = pos 0; lead = scene.feed }

-- the answer to a run from a start
abbrev pub run_by : Option Point → ℕ → List Block → Scene → FormSettings → FormAnswer
run_by None line blocks scene settings = refused line cause.Position
run_by (Some start) line blocks scene settings = run_from blocks start scene settings (said_before scene) []

-- the same, if lengths are places
abbrev pub way_by : Option PlainCause → ℕ → List Block → Scene → FormSettings → FormAnswer
way_by (Some why) line blocks scene settings = refused line why
way_by None line blocks scene settings = run_by (start_of scene) line blocks scene settings

-- the answer to a run that begins with the first of these blocks, in this line
abbrev pub taper_answer : ℕ → List Block → Scene → FormSettings → FormAnswer
taper_answer line blocks scene settings = way_by (way_cause scene) line blocks scene settings
