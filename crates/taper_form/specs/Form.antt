-- The form of cuts along tapers. src/form.rt computes it.
use Rattle.std.specs.Prelude.{ℕ, List, [], drop, Option, Some, None, slice_get}
use Rattle.nc_number.specs.declared.point.Point.{Point}
use Rattle.nc_text.specs.declared.tape.Block.{Block}
use Rattle.plain_form.specs.declared.answer.FormAnswer.{FormAnswer}
use Rattle.plain_form.specs.declared.answer.FormAnswer.TheVariants.{NotMine}
use Rattle.plain_form.specs.declared.cause.PlainCause.{PlainCause}
use Rattle.plain_form.specs.declared.cause.PlainCause.TheVariants as cause
use Rattle.plain_form.specs.declared.scene.Scene.{Scene}
use Rattle.cycle_words.specs.Scenes.{start_of, way_cause, words_of, refused}
use Rattle.thread_form.specs.Taper.{said_before}
use Rattle.taper_form.specs.declared.kind.TaperKind.{TaperKind}
use Rattle.taper_form.specs.Kinds.{kind_of}
use Rattle.taper_form.specs.Runs.{run_from}

-- the answer to a run from a start
abbrev pub run_by : ℕ → List Block → Scene → TaperKind → Option Point → FormAnswer
run_by line blocks scene kind None = refused line cause.Position
run_by line blocks scene kind (Some start) = run_from blocks kind scene.system start (said_before scene) []

-- the same, if lengths are places
abbrev pub way_by : ℕ → List Block → Scene → TaperKind → Option PlainCause → FormAnswer
way_by line blocks scene kind (Some why) = refused line why
way_by line blocks scene kind None = run_by line blocks scene kind (start_of scene)

-- the answer to a run of a cycle that begins with the first of these blocks, in this line
abbrev pub kind_answer : ℕ → List Block → Scene → TaperKind → FormAnswer
kind_answer line blocks scene kind = way_by line blocks scene kind (way_cause scene)

-- the same, if the block has a taper
abbrev pub kind_by : ℕ → List Block → Scene → Option TaperKind → FormAnswer
kind_by line blocks scene None = NotMine
kind_by line blocks scene (Some kind) = kind_answer line blocks scene kind

-- the answer to a block of the program's
abbrev pub answer_at : List Block → ℕ → Scene → Option Block → FormAnswer
answer_at blocks place scene None = NotMine
answer_at blocks place scene (Some block) =
    kind_by block.line (drop place blocks) scene (kind_of scene.system scene.motion (words_of block.body))

-- what is answered of a block
abbrev pub taper_form : List Block → ℕ → Scene → FormAnswer
taper_form blocks place scene = answer_at blocks place scene (slice_get blocks place)
