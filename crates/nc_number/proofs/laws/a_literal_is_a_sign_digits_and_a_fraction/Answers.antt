-- Each literal of a tape has a spelling of the grammar, and the parts of a text that is spelled so
-- are those of the spelling (a law of src/laws.rt).
use Rattle.nc_number.proofs.Spellings.{written_literal, parts_of_written, sign_of, fraction_of}
use Rattle.nc_number.specs.Literals.{behind_sign, whole_part}
use Rattle.nc_number.proofs.laws.a_literal_is_a_sign_digits_and_a_fraction.Goals as goal

pub returns-clause-spelled : goal.returns-clause-spelled
returns-clause-spelled c = λ text literal. (sign_of text, whole_part text, fraction_of (behind_sign text), written_literal text literal)

pub returns-clause-parts : goal.returns-clause-parts
returns-clause-parts c = parts_of_written
