-- `put_numbers` puts the bytes of an edit's four numbers at the front: 1, 2, 8 and 8 of them
-- (src/entry.rt).
use Rattle.std.proofs.Common.{rules, ◌∷◌, [], ◌++◌, ℤ, List, ℕ, drop, refl, ◌∙◌, arith}
use Rattle.std.specs.Prelude.{FitsSigned}
use Rattle.std.specs.Int.{w64, cast_signed, cast_unsigned}
use Rattle.std.proofs.lemmas.Int.{to_z-of_z}
use Rattle.byteorder.specs.Endian.{big_bytes}
use Rattle.run_records.proofs.PutBehind.{put_next, set_front}
use Rattle.run_records.proofs.entry.put_numbers.Goals as goal

pub returns : goal.returns
returns c =
    let n = c.args.numbers.now in
    let old = c.args.into.now in
    let bytes : ℤ → List ℕ = λ z. big_bytes 8 (cast_unsigned w64 z) in
    let a_fits : FitsSigned w64 n.a = search rules in
    let b_fits : FitsSigned w64 n.b = search rules in
    let a_is = to_z-of_z w64 n.a a_fits in
    let b_is = to_z-of_z w64 n.b b_fits in
    let first = set_front old n.what (omega (arith, c.requires)) in
    let second = put_next (n.what ∷ []) (big_bytes 2 n.number) old _ _ c.write_u16.new.buf 1 2 refl (omega (arith, c.requires)) first refl c.write_u16.ensures in
    let third = put_next (n.what ∷ big_bytes 2 n.number) (bytes (cast_signed w64 (cast_unsigned w64 n.a))) old _ _ c.write_i64.new.buf 3 8 refl (omega (arith, c.requires)) second refl c.write_i64.ensures in
    let a_put = third ∙ (λ i. (n.what ∷ big_bytes 2 n.number) ++ (bytes (a_is i) ++ drop 11 old)) in
    let fourth = put_next (n.what ∷ (big_bytes 2 n.number ++ bytes n.a)) (bytes (cast_signed w64 (cast_unsigned w64 n.b))) old _ _ c.write_i64-2.new.buf 11 8 refl (omega (arith, c.requires)) a_put refl c.write_i64-2.ensures in
    fourth ∙ (λ i. (n.what ∷ (big_bytes 2 n.number ++ bytes n.a)) ++ (bytes (b_is i) ++ drop 19 old))
