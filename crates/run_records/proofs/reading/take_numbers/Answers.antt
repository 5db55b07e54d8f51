-- The numbers of an edit that `take_numbers` reads spell the 19 bytes at the front
-- (src/reading.rt).
use Rattle.std.proofs.Common.{rules, ◌≡◌, ◌<◌, ◌++◌, List, ℕ, drop, get_or, ◌∙◌, ap}
use Rattle.std.specs.Prelude.{FitsSigned}
use Rattle.std.specs.Int.{w64, cast_signed, cast_unsigned}
use Rattle.std.proofs.lemmas.Int.{to_z-of_z}
use Rattle.byteorder.specs.Endian.{big_number}
use Rattle.run_records.specs.Spelling.{numbers_bytes}
use Rattle.run_records.proofs.EditsSpelled.{numbers_read}
use Rattle.run_records.proofs.reading.take_numbers.Goals as goal

pub returns-clause-bytes : goal.returns-clause-bytes
returns-clause-bytes c =
    let bytes = c.args.bytes.now in
    let small : (i : ℕ) → get_or bytes i 0 < 256 = search rules in
    let number_is : c.read_u16.result ≡ big_number 2 (drop 1 bytes) = c.read_u16.ensures ∙ ap (big_number 2) c.split_at.ensures.back in
    let a_fits : FitsSigned w64 c.read_i64.result = search rules in
    let b_fits : FitsSigned w64 c.read_i64-2.result = search rules in
    let a_is : cast_signed w64 (cast_unsigned w64 c.read_i64.result) ≡ cast_signed w64 (big_number 8 (drop 3 bytes)) = to_z-of_z w64 c.read_i64.result a_fits ∙ c.read_i64.ensures ∙ ap (λ (l : List ℕ). cast_signed w64 (big_number 8 l)) c.split_at-2.ensures.back in
    let b_is : cast_signed w64 (cast_unsigned w64 c.read_i64-2.result) ≡ cast_signed w64 (big_number 8 (drop 11 bytes)) = to_z-of_z w64 c.read_i64-2.result b_fits ∙ c.read_i64-2.ensures ∙ ap (λ (l : List ℕ). cast_signed w64 (big_number 8 l)) c.split_at-3.ensures.back in
    (λ i. numbers_bytes (record { what = get_or bytes 0 0; number = number_is i; a = a_is i; b = b_is i }) ++ drop 19 bytes) ∙ numbers_read bytes c.requires small
