-- The sizes of a form: what words say, and what the machine decides. src/sizes.rt reads them.
use Rattle.std.specs.Prelude.{ℕ, ◌≤◌, Option, Some, None, Result, Ok, Err, ℤ, nat_le, if◌then◌else◌}
use Rattle.nc_number.specs.declared.limits.TheConstants.{LONGEST_SAID}
use Rattle.nc_number.specs.Results.{◌>>=◌}
use Rattle.arc_contour.specs.declared.way.Way.{Way}
use Rattle.arc_contour.specs.declared.way.Way.TheVariants.{Along, Across}
use Rattle.plain_form.specs.declared.cause.PlainCause.{PlainCause}
use Rattle.plain_form.specs.declared.cause.PlainCause.TheVariants as cause
use Rattle.plain_form.specs.declared.cause.PlainFault.{PlainFault}
use Rattle.plain_form.specs.declared.settings.FormSettings.{FormSettings}
use Rattle.rough_forms.specs.declared.frame.Frame.{Frame}
use Rattle.contour_words.specs.Causes.{fault}
use Rattle.rough_words.specs.declared.head.Head.{Head}
use Rattle.rough_words.specs.declared.sizes.Sizes.{Sizes}
use Rattle.rough_words.specs.Frames.{allowance}

-- the first number, or else the second
abbrev pub number_or : Option ℕ → Option ℕ → Option ℕ
number_or (Some said) setting = Some said
number_or None setting = setting

-- a size of at most 100 km
abbrev pub near_size : Option ℕ → Option ℕ
near_size None = None
near_size (Some size) = if nat_le size 100000000000 then Some size else None

-- the size that a word says, or else a setting
abbrev pub size_within : Option ℕ → Option ℕ → Option ℕ
size_within said setting = near_size (number_or said setting)

-- a size, or a refusal where there is none
abbrev pub required : ℕ → PlainCause → Option ℕ → Result ℕ PlainFault
required line why (Some size) = Ok size
required line why None = Err (fault line why)

-- the allowance of a call across the passes, as the tape has it
abbrev pub across_way : Way → Head → ℤ
across_way Along head = head.x
across_way Across head = head.z

abbrev pub across_said : Head → ℤ
across_said head = across_way head.way head

-- the allowance of a call along the passes, as the tape has it
abbrev pub along_way : Way → Head → ℤ
along_way Along head = head.z
along_way Across head = head.x

abbrev pub along_said : Head → ℤ
along_said head = along_way head.way head

-- the sizes of a form
unfoldable pub sizes_of : Head → FormSettings → Frame → Result Sizes PlainFault
sizes_of head settings frame = do
  depth ← required head.call.line cause.Setting (size_within head.cut.depth settings.rough_depth)
  retreat ← required head.call.line cause.Setting (size_within head.cut.retreat (Some settings.rough_retreat))
  across ← required head.call.line cause.Allowance (allowance frame.across (across_said head))
  along ← required head.call.line cause.Allowance (allowance frame.along (along_said head))
  Ok (record { depth = depth; retreat = retreat; across = across; along = along })

-- the sizes are such that a literal can write them
pub record IsNearSizes (sizes : Sizes) : Type 0 where
  pub depth : sizes.depth ≤ LONGEST_SAID
  pub retreat : sizes.retreat ≤ LONGEST_SAID
  pub across : sizes.across ≤ LONGEST_SAID
  pub along : sizes.along ≤ LONGEST_SAID
