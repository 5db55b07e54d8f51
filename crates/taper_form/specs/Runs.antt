-- A run of cuts along tapers: the blocks that cut with X, Z, R and F in force. src/run.rt reads it. The
-- letters are bytes: 70 F, 85 U, 87 W, 88 X, 90 Z.
use Rattle.std.specs.Prelude.{Bool, List, [], ◌∷◌, ◌++◌, codes, Option, Some, None, ℤ, pos, int_le, if◌then◌else◌}
use Rattle.code_tables.specs.declared.system.System.{System}
use Rattle.line_text.specs.declared.body.Word.{Word}
use Rattle.nc_number.specs.declared.point.Point.{Point}
use Rattle.nc_text.specs.declared.tape.Block.{Block}
use Rattle.plain_form.specs.declared.answer.FormAnswer.{FormAnswer}
use Rattle.plain_form.specs.declared.answer.FormAnswer.TheVariants.{Written}
use Rattle.plain_form.specs.declared.answer.WrittenLine.{WrittenLine}
use Rattle.plain_form.specs.declared.cause.PlainCause.{PlainCause}
use Rattle.plain_form.specs.declared.cause.PlainCause.TheVariants as cause
use Rattle.cycle_words.specs.Causes.{first_cause, calculated_in, unexpected_in}
use Rattle.cycle_words.specs.Lines.{lines_of}
use Rattle.cycle_words.specs.Scenes.{words_of, says_ends, has_motion}
use Rattle.line_words.specs.Lines.{twice_of}
use Rattle.thread_form.specs.declared.taper.TaperSaid.{TaperSaid}
use Rattle.thread_form.specs.declared.taper.TaperStep.{TaperStep}
use Rattle.thread_form.specs.declared.taper.TaperStep.TheVariants.{Ends, Stops, Cuts}
use Rattle.thread_form.specs.Taper.{letters_of, said_after, after_step}
use Rattle.taper_form.specs.declared.kind.TaperKind.{TaperKind}
use Rattle.taper_form.specs.declared.cut.TaperCut.{TaperCut}
use Rattle.taper_form.specs.Kinds.{kind_code}
use Rattle.taper_form.specs.Cuts.{cut_blocks, cut_fault}

-- why the letters of a block of a run are refused
abbrev pub letters_cause : TaperKind → System → List Word → Option PlainCause
letters_cause kind system words =
    first_cause (unexpected_in (letters_of system) (kind_code kind system ∷ []) words) (calculated_in (codes "XUZWRF") words)

-- that X stands beside U, or Z beside W
abbrev pub twice_cause : List Word → Option PlainCause
twice_cause words = first_cause (twice_of 88 85 words) (twice_of 90 87 words)

-- why the words of a block of a run are refused
abbrev pub words_cause : TaperKind → System → List Word → Option PlainCause
words_cause kind system words =
    first_cause (letters_cause kind system words)
    (first_cause (twice_cause words) (if says_ends words then None else Some cause.NoForm))

-- why a feed can't be taken
abbrev pub feed_fault : ℤ → Option PlainCause
feed_fault feed = if int_le feed (pos 0) then Some (cause.Range 70) else None

-- what a cut is in the run: what it can't do, or its blocks
abbrev pub cut_by : TaperCut → ℤ → Option PlainCause → TaperStep
cut_by cut feed (Some why) = Stops why
cut_by cut feed None = Cuts (lines_of (Some feed) (cut_blocks cut))

abbrev pub cut_step : TaperCut → ℤ → TaperStep
cut_step cut feed = cut_by cut feed (first_cause (cut_fault cut) (feed_fault feed))

-- the same with a feed, or without
abbrev pub fed_step : TaperCut → Option ℤ → TaperStep
fed_step cut None = Stops cause.Feed
fed_step cut (Some feed) = cut_step cut feed

-- the cut to an end
abbrev pub cut_to : TaperKind → Point → ℤ → ℤ → ℤ → TaperCut
cut_to kind start x z taper = record { kind = kind; start = start; target = record { x = x; z = z }; taper = taper }

-- what a block is in the run, by its ends
abbrev pub ends_step : TaperKind → Point → TaperSaid → Option ℤ → Option ℤ → TaperStep
ends_step kind start said None z = Stops (cause.Missing 88)
ends_step kind start said (Some x) None = Stops (cause.Missing 90)
ends_step kind start said (Some x) (Some z) = fed_step (cut_to kind start x z said.taper) said.lead

-- what a block is in the run, with what is in force after it
abbrev pub said_step : TaperKind → Point → TaperSaid → TaperStep
said_step kind start said = ends_step kind start said said.x said.z

-- the same, if its words are not refused
abbrev pub words_step : TaperKind → Point → TaperSaid → Option PlainCause → TaperStep
words_step kind start said (Some why) = Stops why
words_step kind start said None = said_step kind start said

-- what a block is in the run
abbrev pub block_step : List Word → TaperKind → System → Point → TaperSaid → TaperStep
block_step words kind system start said =
    if has_motion system words then Ends else words_step kind start said (words_cause kind system words)

-- the answer to the blocks of a run that are left, after the lines so far
unfoldable pub run_from : List Block → TaperKind → System → Point → TaperSaid → List WrittenLine → FormAnswer
run_from [] kind system start said done = Written done
run_from (block ∷ blocks) kind system start said done =
    after_step block.line done (block_step (words_of block.body) kind system start (said_after said (words_of block.body) start))
    (λ lines. run_from blocks kind system start (said_after said (words_of block.body) start) lines)
