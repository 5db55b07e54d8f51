-- What the two lines of a G76 say, and why they are refused. src/two_lines.rt reads them. The
-- letters are bytes: 70 F, 71 G, 80 P, 81 Q, 82 R, 85 U, 87 W, 88 X, 90 Z.
use Rattle.std.specs.Prelude.{ℕ, Bool, ◌||◌, ◌/◌, ◌%◌, ◌==◌, nat_lt, List, [], ◌∷◌, codes, Option, Some, None, is_none, is_some, unwrap_or, ℤ, pos, if◌then◌else◌}
use Rattle.std.specs.Int.{is_negative}
use Rattle.nc_number.specs.declared.point.Point.{Point}
use Rattle.line_text.specs.declared.body.Word.{Word}
use Rattle.plain_form.specs.declared.scene.Scene.{Scene}
use Rattle.plain_form.specs.declared.settings.FormSettings.{FormSettings}
use Rattle.plain_form.specs.declared.cause.PlainCause.{PlainCause}
use Rattle.plain_form.specs.declared.cause.PlainCause.TheVariants as cause
use Rattle.thread_cycle.specs.declared.cycle.ThreadCycle.{ThreadCycle}
use Rattle.thread_cycle.specs.declared.tip.TipAngle.TheVariants.{Degrees0}
use Rattle.thread_cycle.specs.Tip.{tip_of_degrees}
use Rattle.cycle_words.specs.Numbers.{length_said, length_or, count_said, count_or, value_said, place_said, is_said, size_or}
use Rattle.cycle_words.specs.Causes.{first_cause, calculated_in, no_count_in, missing_of, unexpected_in}
use Rattle.cycle_words.specs.Motion.{scene_cause}
use Rattle.line_words.specs.Lines.{twice_of}
use Rattle.thread_form.specs.Rounding.{rounding_of}

-- G76, in millionths
abbrev pub thread_code : ℤ
thread_code = pos 76000000

-- the first line

-- how many passes are at the whole depth: the first two digits of P, or the machine's choice if they
-- are 0
abbrev pub finishing_by : FormSettings → ℕ → ℕ
finishing_by settings said = if said == 0 then settings.thread_finishing else said

abbrev pub finishing_of : FormSettings → List Word → ℕ
finishing_of settings head = finishing_by settings (count_or 80 0 head / 10000 % 100)

-- the next two digits, or the machine's choice without P
abbrev pub middle_of : ℕ → Option ℕ → ℕ
middle_of own None = own
middle_of own (Some said) = said / 100 % 100

abbrev pub pull_out_of : FormSettings → List Word → ℕ
pull_out_of settings head = middle_of settings.thread_pull_out (count_said 80 head)

-- the last two digits
abbrev pub last_of : ℕ → Option ℕ → ℕ
last_of own None = own
last_of own (Some said) = said % 100

abbrev pub angle_of : FormSettings → List Word → ℕ
angle_of settings head = last_of settings.thread_angle (count_said 80 head)

-- what is left for the passes at the whole depth
abbrev pub left_of : FormSettings → List Word → ℕ
left_of settings head = size_or settings.thread_left (length_said 82 head)

-- P has at most six digits and an angle that the cycle knows, R is not negative
abbrev pub range_cause : FormSettings → List Word → Option PlainCause
range_cause settings head =
    if nat_lt 999999 (count_or 80 0 head)
    then Some (cause.Range 80)
    else if is_none (tip_of_degrees (angle_of settings head))
    then Some (cause.Range 80)
    else if is_negative (length_or 82 (pos 0) head)
    then Some (cause.Range 82)
    else None

-- why the first line is refused
abbrev pub head_cause : FormSettings → List Word → Option PlainCause
head_cause settings head =
    first_cause (unexpected_in (codes "GPQR") (thread_code ∷ []) head)
    (first_cause (calculated_in (codes "PQR") head) (first_cause (no_count_in (codes "PQ") head) (range_cause settings head)))

-- the second line

-- an end of the thread is missing
abbrev pub ends_cause : List Word → Option PlainCause
ends_cause body = first_cause (missing_of (is_said 88 body || is_said 85 body) 88) (missing_of (is_said 90 body || is_said 87 body) 90)

-- neither the line nor one before it says the lead
abbrev pub feed_cause : Scene → List Word → Option PlainCause
feed_cause scene body = if is_said 70 body || is_some scene.feed then None else Some cause.Feed

-- an axis is named twice
abbrev pub twice_cause : List Word → Option PlainCause
twice_cause words = first_cause (twice_of 88 85 words) (twice_of 90 87 words)

-- why the second line is refused
abbrev pub body_cause : Scene → List Word → Option PlainCause
body_cause scene body =
    first_cause
    (first_cause (first_cause (unexpected_in (codes "GXUZWRPQF") (thread_code ∷ []) body) (twice_cause body))
    (first_cause (calculated_in (codes "XUZWRPQF") body) (no_count_in (codes "PQ") body)))
    (first_cause (first_cause (ends_cause body) (first_cause (missing_of (is_said 80 body) 80) (missing_of (is_said 81 body) 81)))
    (first_cause (scene_cause scene) (feed_cause scene body)))

-- the lead: the line's, or the one before
abbrev pub lead_by : Option ℤ → Option ℤ → ℤ
lead_by (Some lead) feed = lead
lead_by None feed = unwrap_or feed (pos 0)

abbrev pub lead_of : Scene → List Word → ℤ
lead_of scene body = lead_by (value_said 70 body) scene.feed

-- where a thread ends
abbrev pub target_of : Point → List Word → Point
target_of start body = record { x = place_said 88 85 start.x body; z = place_said 90 87 start.z body }

-- what the two lines say
abbrev pub cycle_of : FormSettings → Scene → Point → List Word → List Word → ThreadCycle
cycle_of settings scene start head body = record {
  start = start;
  target = target_of start body;
  taper = length_or 82 (pos 0) body;
  depth = count_or 80 0 body;
  first = count_or 81 0 body;
  least = count_or 81 settings.thread_least head;
  left = left_of settings head;
  finishing = finishing_of settings head;
  pull_out = pull_out_of settings head;
  tip = unwrap_or (tip_of_degrees (angle_of settings head)) Degrees0;
  rounding = rounding_of settings.thread_roots;
  lead = lead_of scene body;
}
