-- What a G76 in one line says, and why it is refused. src/one_line.rt reads it. The letters are
-- bytes: 65 A, 68 D, 73 I, 75 K, 80 P.
use Rattle.std.specs.Prelude.{ℕ, ◌%◌, ◌==◌, List, [], ◌∷◌, codes, Option, Some, None, is_none, unwrap_or, pos, unsigned_abs, if◌then◌else◌}
use Rattle.std.specs.Int.{is_negative}
use Rattle.nc_number.specs.declared.point.Point.{Point}
use Rattle.line_text.specs.declared.body.Word.{Word}
use Rattle.plain_form.specs.declared.scene.Scene.{Scene}
use Rattle.plain_form.specs.declared.settings.FormSettings.{FormSettings}
use Rattle.plain_form.specs.declared.cause.PlainCause.{PlainCause}
use Rattle.plain_form.specs.declared.cause.PlainCause.TheVariants as cause
use Rattle.thread_cycle.specs.declared.cycle.ThreadCycle.{ThreadCycle}
use Rattle.thread_cycle.specs.declared.tip.TipAngle.TheVariants.{Degrees0}
use Rattle.thread_cycle.specs.Tip.{tip_of_degrees}
use Rattle.cycle_words.specs.Numbers.{length_or, count_or, is_said}
use Rattle.cycle_words.specs.Causes.{first_cause, calculated_in, no_count_in, missing_of, unexpected_in}
use Rattle.cycle_words.specs.Motion.{scene_cause}
use Rattle.thread_form.specs.Rounding.{rounding_of}
use Rattle.thread_form.specs.TwoLines.{thread_code, twice_cause, ends_cause, feed_cause, lead_of, target_of}

-- K and D are not negative, A is an angle that the cycle knows, P is 1
abbrev pub range_cause : List Word → Option PlainCause
range_cause words =
    if is_negative (length_or 75 (pos 0) words)
    then Some (cause.Range 75)
    else if is_negative (length_or 68 (pos 0) words)
    then Some (cause.Range 68)
    else if is_none (tip_of_degrees (count_or 65 0 words % 256))
    then Some (cause.Range 65)
    else if count_or 80 1 words == 1
    then None
    else Some (cause.Range 80)

-- the letters of the line, and those whose words are numbers
abbrev pub line_letters : List ℕ
line_letters = codes "GXUZWIKDAPF"

abbrev pub number_letters : List ℕ
number_letters = codes "XUZWIKDAPF"

-- why its words can't be read
abbrev pub read_cause : List Word → Option PlainCause
read_cause words =
    first_cause (first_cause (unexpected_in line_letters (thread_code ∷ []) words) (twice_cause words))
    (first_cause (calculated_in number_letters words) (no_count_in (codes "AP") words))

-- a word is missing
abbrev pub missing_cause : List Word → Option PlainCause
missing_cause words =
    first_cause (ends_cause words) (first_cause (missing_of (is_said 75 words) 75) (missing_of (is_said 68 words) 68))

-- why the line is refused
abbrev pub line_cause : Scene → List Word → Option PlainCause
line_cause scene words =
    first_cause (read_cause words)
    (first_cause (missing_cause words) (first_cause (range_cause words) (first_cause (scene_cause scene) (feed_cause scene words))))

-- what the line says
abbrev pub cycle_of : FormSettings → Scene → Point → List Word → ThreadCycle
cycle_of settings scene start words = record {
  start = start;
  target = target_of start words;
  taper = length_or 73 (pos 0) words;
  depth = unsigned_abs (length_or 75 (pos 0) words);
  first = unsigned_abs (length_or 68 (pos 0) words);
  least = settings.thread_least;
  left = settings.thread_left;
  finishing = settings.thread_finishing;
  pull_out = settings.thread_pull_out;
  tip = unwrap_or (tip_of_degrees (count_or 65 0 words % 256)) Degrees0;
  rounding = rounding_of settings.thread_roots;
  lead = lead_of scene words;
}
