-- Where a cycle starts, what must be known for that, and what its words are. src/scenes.rt computes
-- it. The letters are bytes: 85 U, 87 W, 88 X, 90 Z.
use Rattle.std.specs.Prelude.{ℕ, Bool, true, false, ◌&&◌, ◌||◌, nat_le, unsigned_abs, is_none, List, [], Option, Some, None, ℤ, pos, if◌then◌else◌}
use Rattle.code_tables.specs.declared.system.System.{System}
use Rattle.code_tables.specs.declared.system.System.TheVariants.{A, B}
use Rattle.plain_form.specs.Said.{has_code}
use Rattle.nc_number.specs.declared.limits.TheConstants.{LONGEST_SAID}
use Rattle.nc_number.specs.declared.point.Point.{Point}
use Rattle.nc_number.specs.Options.{◌>>=◌}
use Rattle.line_text.specs.declared.body.Word.{Word}
use Rattle.line_text.specs.declared.body.Body.{Body}
use Rattle.line_text.specs.declared.body.Body.TheVariants.{Words, Statement}
use Rattle.plain_form.specs.declared.scene.Scene.{Scene}
use Rattle.plain_form.specs.declared.cause.PlainCause.{PlainCause}
use Rattle.plain_form.specs.declared.answer.FormAnswer.{FormAnswer}
use Rattle.plain_form.specs.declared.answer.FormAnswer.TheVariants.{Refused}
use Rattle.cycle_words.specs.Numbers.{is_said}
use Rattle.plain_form.specs.declared.cause.PlainCause.TheVariants as cause

-- the point, if words can say it
abbrev pub point_within : Point → Option Point
point_within p = if nat_le (unsigned_abs p.x) LONGEST_SAID && nat_le (unsigned_abs p.z) LONGEST_SAID then Some p else None

-- where the tool stands, if that is known
unfoldable pub start_of : Scene → Option Point
start_of scene = do
  x ← scene.x
  z ← scene.z
  point_within (record { x = x; z = z })

-- lengths are places
abbrev pub place_cause : Option Bool → Option PlainCause
place_cause (Some false) = None
place_cause (Some true) = Some cause.Incremental
place_cause None = Some cause.Incremental

-- why lengths can't be read
abbrev pub way_cause : Scene → Option PlainCause
way_cause scene = if is_none scene.unit then Some cause.Unit else place_cause scene.incremental

-- the words of a block; a statement has none
abbrev pub words_of : Body → List Word
words_of (Words words) = words
words_of (Statement text) = []

-- the words name a place in X or in Z
abbrev pub says_ends : List Word → Bool
says_ends words = is_said 88 words || is_said 85 words || is_said 90 words || is_said 87 words

-- that a line is refused
abbrev pub refused : ℕ → PlainCause → FormAnswer
refused line cause = Refused (record { line = line; cause = cause })

-- the code of a thread along a line, in millionths, and a code of motion
abbrev pub line_code : System → ℤ
line_code A = pos 32000000
line_code B = pos 33000000

abbrev pub has_motion : System → List Word → Bool
has_motion system words =
    has_code (pos 0) words
    || has_code (pos 1000000) words
    || has_code (pos 2000000) words
    || has_code (pos 3000000) words
    || has_code (line_code system) words
