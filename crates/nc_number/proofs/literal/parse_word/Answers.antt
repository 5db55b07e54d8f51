-- `parse_word` reads a literal as its meaning: the number and whether it has a point, or too many
-- digits (src/literal.rt).
use Rattle.std.proofs.Common.{◌≡◌, ◌≤◌, length, ap, subst, ◌∙◌}
use Rattle.std.specs.List.{before_first, after_first}
use Rattle.nc_number.specs.Literals.{is_point, significant, whole_part, fraction_part}
use Rattle.nc_number.proofs.DecimalDigits.{all_digits-significant}
use Rattle.nc_number.proofs.WordLiterals.{whole_digits, word_literal-few}
use Rattle.nc_number.proofs.literal.parse_word.Goals as goal

pub millionths-size-requires-clause-whole_digits :
    goal.millionths-size-requires-clause-whole_digits
millionths-size-requires-clause-whole_digits c =
    rw (c.without_leading_zeros-whole.ensures, c.parts.ensures.whole, c.unsigned.ensures)
    (all_digits-significant (whole_part c.args.text.now) (whole_digits c.args.text.now c.requires))

pub returns : goal.returns
returns c =
    let text = c.args.text.now in
    let whole_is : c.without_leading_zeros-whole.result.now ≡ significant (whole_part text) =
    c.without_leading_zeros-whole.ensures
    ∙ ap significant (c.parts.ensures.whole ∙ ap (before_first is_point) c.unsigned.ensures) in
    let fraction_is : c.parts.result.1.now ≡ fraction_part text =
    c.parts.ensures.fraction ∙ ap (after_first is_point) c.unsigned.ensures in
    let whole_short : length (significant (whole_part text)) ≤ 8 =
    subst (λ ds. length ds ≤ 8) whole_is c.if-whole-gt-WHOLE_DIGITS.false in
    let fraction_short : length (fraction_part text) ≤ 6 =
    subst (λ ds. length ds ≤ 6) fraction_is c.if-fraction-gt-FRACTION_DIGITS.false in
    rw (
      c.signed.ensures,
      c.is_negative.ensures,
      c.millionths-size.ensures.value,
      c.contains.ensures.value,
      whole_is,
      fraction_is,
    )
    (word_literal-few text whole_short fraction_short)
