-- How many digits a printed whole part has at most, so that 24 bytes hold a value or a length. For
-- `text` and `length_text` (src/printing.rt).
use Rattle.std.proofs.Common.{ℕ, ◌≤◌, ◌^◌, ◌/◌, length, arith}
use Rattle.std.specs.Fmt.{decimal}
use Rattle.std.proofs.lemmas.Fmt.{length-decimal-le}

-- the whole part of a value has at most 8 digits
pub value_room : (size : ℕ) → size ≤ 99999999999999 → length (decimal (size / 1000000)) ≤ 8
value_room size small = length-decimal-le 8 (size / 1000000) (omega arith) (omega arith) (omega arith)

-- the whole part of a length in mm has at most 16 digits
pub length_room : (size : ℕ) → size ≤ 2 ^ 63 → length (decimal (size / 1000)) ≤ 16
length_room size small = length-decimal-le 16 (size / 1000) (omega arith) (omega arith) (omega arith)
