-- The arithmetic of values, as mathematics on whole counts of millionths. A value is such a count
-- in the range of Range.antt; the functions of src/arithmetic.rt, bits.rt and rounding.rt compute
-- these.
use Rattle.std.specs.Prelude.{ℕ, zero, suc, ◌+◌, ◌*◌, ◌/◌, ◌%◌, Bool, not, ◌==◌, ◌&&◌, nat_le, if◌then◌else◌, ℤ, pos, ◌+ℤ◌, ◌-ℤ◌, ◌*ℤ◌, unsigned_abs, int_div, int_rem, bit_and, bit_or, bit_xor, Option, Some, None, Result, Ok, Err}
use Rattle.std.specs.Int.{is_negative, div_ceil}
use Rattle.nc_number.specs.declared.fault.NumberFault.{NumberFault}
use Rattle.nc_number.specs.declared.fault.NumberFault.TheVariants.{Overflow, ZeroDivide, NegativeRoot, NotWhole}
use Rattle.nc_number.specs.Signs.{with_sign, differ}
use Rattle.nc_number.specs.Range.{is_in_range}

-- z where it is a value, and Overflow where it is past the range
abbrev pub checked_value : ℤ → Result ℤ NumberFault
checked_value z = if is_in_range z then Ok z else Err Overflow

-- the number is 0
abbrev pub is_zero : ℤ → Bool
is_zero z = unsigned_abs z == 0

-- the whole number nearest to n / d, halves upwards: one more than the quotient where half of d or
-- more is left
abbrev pub nearest : ℕ → ℕ → ℕ
nearest n d = if nat_le d (2 * (n % d)) then n / d + 1 else n / d

-- the whole number nearest to a / b, halves away from zero
abbrev pub nearest_quotient : ℤ → ℤ → ℤ
nearest_quotient a b = with_sign (differ (is_negative a) (is_negative b)) (nearest (unsigned_abs a) (unsigned_abs b))

-- the sum, or Overflow
abbrev pub sum_of : ℤ → ℤ → Result ℤ NumberFault
sum_of a b = checked_value (a +ℤ b)

-- the difference, or Overflow
abbrev pub difference_of : ℤ → ℤ → Result ℤ NumberFault
difference_of a b = checked_value (a -ℤ b)

-- the product, rounded to the nearest millionth, or Overflow
abbrev pub product_of : ℤ → ℤ → Result ℤ NumberFault
product_of a b = checked_value (nearest_quotient (a *ℤ b) (pos 1000000))

-- the quotient, rounded to the nearest millionth; ZeroDivide if b is 0, or Overflow
abbrev pub quotient_of : ℤ → ℤ → Result ℤ NumberFault
quotient_of a b = if is_zero b then Err ZeroDivide else checked_value (nearest_quotient (a *ℤ pos 1000000) b)

-- what is left of a when b is taken away as often as the quotient, its fraction dropped, says;
-- ZeroDivide if b is 0
abbrev pub remainder_of : ℤ → ℤ → Result ℤ NumberFault
remainder_of a b = if is_zero b then Err ZeroDivide else Ok (a -ℤ int_div a b *ℤ b)

-- the whole units of a value, without its sign
abbrev pub units : ℤ → ℕ
units a = unsigned_abs a / 1000000

-- the value is a whole number from 0 to 2,147,483,647
abbrev pub has_bits : ℤ → Bool
has_bits a = (not (is_negative a) && (unsigned_abs a % 1000000 == 0)) && nat_le (units a) 2147483647

-- an operation on the bits of two whole numbers; NotWhole if one of the values is none, or Overflow
abbrev pub on_bits : (ℕ → ℕ → ℕ) → ℤ → ℤ → Result ℤ NumberFault
on_bits operation a b =
    if has_bits a && has_bits b then checked_value (pos (operation (units a) (units b) * 1000000)) else Err NotWhole

-- the bits that both numbers have; NotWhole as for `on_bits`
abbrev pub and_of : ℤ → ℤ → Result ℤ NumberFault
and_of a b = on_bits bit_and a b

-- the bits that one of the numbers or both have; NotWhole or Overflow as for `on_bits`
abbrev pub or_of : ℤ → ℤ → Result ℤ NumberFault
or_of a b = on_bits bit_or a b

-- the bits that one of the numbers has, and not both; NotWhole or Overflow as for `on_bits`
abbrev pub xor_of : ℤ → ℤ → Result ℤ NumberFault
xor_of a b = on_bits bit_xor a b

-- the greatest number up to `most` whose square is at most n
unfoldable pub greatest_root : ℕ → ℕ → ℕ
greatest_root n zero = zero
greatest_root n (suc most) = if nat_le (suc most * suc most) n then suc most else greatest_root n most

-- the greatest number whose square is at most n
abbrev pub square_root : ℕ → ℕ
square_root n = greatest_root n n

-- the square root, cut to the millionth; NegativeRoot below 0
abbrev pub root_of : ℤ → Result ℤ NumberFault
root_of a = if is_negative a then Err NegativeRoot else Ok (pos (square_root (unsigned_abs a * 1000000)))

-- the nearest whole number of units, halves away from zero, or Overflow
abbrev pub rounded_value : ℤ → Result ℤ NumberFault
rounded_value a = checked_value (nearest_quotient a (pos 1000000) *ℤ pos 1000000)

-- a value with its fraction dropped, so that it goes towards 0
abbrev pub value_toward_zero : ℤ → ℤ
value_toward_zero a = with_sign (is_negative a) (units a * 1000000)

-- a value with its magnitude raised to a whole number, so that it goes away from 0, or Overflow
abbrev pub value_from_zero : ℤ → Result ℤ NumberFault
value_from_zero a = checked_value (with_sign (is_negative a) (div_ceil (unsigned_abs a) 1000000 * 1000000))

-- the increments of 0.001 nearest to a value, halves away from zero
abbrev pub increments_of : ℤ → ℤ
increments_of a = nearest_quotient a (pos 1000)

-- z where it is a value
abbrev pub value_of : ℤ → Option ℤ
value_of z = if is_in_range z then Some z else None

-- the value of so many whole units, if it is in the range
abbrev pub value_of_units : ℤ → Option ℤ
value_of_units n = value_of (n *ℤ pos 1000000)

-- the value of so many increments of 0.001, if it is in the range
abbrev pub value_of_increments : ℤ → Option ℤ
value_of_increments n = value_of (n *ℤ pos 1000)

-- the whole number that a value is, where its fraction is 0
abbrev pub whole_of : ℤ → Option ℤ
whole_of a = if is_zero (int_rem a (pos 1000000)) then Some (int_div a (pos 1000000)) else None
