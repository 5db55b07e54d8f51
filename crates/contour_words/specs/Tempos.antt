-- The feed and the speed that a block sets. src/tempo.rt reads them. 70 is the letter F, 83 S.
use Rattle.std.specs.Prelude.{ℕ, Bool, ◌&&◌, List, Option, Some, None, is_none, ℤ, pos, int_le, if◌then◌else◌}
use Rattle.line_text.specs.declared.body.Word.{Word}
use Rattle.plain_form.specs.declared.cause.PlainCause.{PlainCause}
use Rattle.plain_form.specs.declared.cause.PlainCause.TheVariants as cause
use Rattle.cycle_words.specs.Causes.{first_cause}
use Rattle.cycle_words.specs.Numbers.{count_said, is_said, value_said}
use Rattle.contour_words.specs.declared.tempo.Tempo.{Tempo}

-- that a feed is not above 0
abbrev pub rate_cause : Option ℤ → Option PlainCause
rate_cause None = None
rate_cause (Some feed) = if int_le feed (pos 0) then Some (cause.Range 70) else None

abbrev pub feed_cause : List Word → Option PlainCause
feed_cause words = rate_cause (value_said 70 words)

-- that S is no whole number from 0 on
abbrev pub speed_cause : List Word → Option PlainCause
speed_cause words = if is_said 83 words && is_none (count_said 83 words) then Some (cause.Range 83) else None

-- why F or S is refused
abbrev pub tempo_cause : List Word → Option PlainCause
tempo_cause words = first_cause (feed_cause words) (speed_cause words)

-- the feed and the speed that the words set
abbrev pub tempo_of : List Word → Tempo
tempo_of words = record { feed = value_said 70 words; speed = value_said 83 words }
