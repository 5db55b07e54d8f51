-- The number so far is that of the digits so far, or the greatest `u64` if that is larger (loop of
-- `value`, src/field.rt).
use Rattle.std.proofs.Common.{◌≡◌, ◌-◌, ◌^◌, min, take}
use Rattle.field_lines.specs.Field.{value_of}
use Rattle.field_lines.proofs.field.value.Given as goal

abbrev pub invariant-loop-digit : goal.invariant-loop-digit
invariant-loop-digit l = l.n ≡ min (value_of (take l.digit-index l.digits)) (2 ^ 64 - 1)
