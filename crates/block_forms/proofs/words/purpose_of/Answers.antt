-- A block that calls no macro and has M98 has the purpose of a call of a subprogram. For the
-- contract of `purpose_of` (src/words.rt).
use Rattle.std.proofs.Common.{◌≡◌, true, false, refl, sym, ◌∙◌, ap}
use Rattle.std.specs.List.{list_any}
use Rattle.block_words.specs.Codes.{gives, is_macro_call, has_code}
use Rattle.block_forms.proofs.words.purpose_of.Goals as goal

pub returns-then-has_code : goal.returns-then-has_code
returns-then-has_code c =
    let none : gives c.args.dialect.system is_macro_call c.args.words.now ≡ false = ap (λ rows. list_any (λ row. is_macro_call row.kind) rows) (sym c.requires.rows) ∙ (sym c.have_macro_call.ensures ∙ c.if-have_macro_call.false) in
    let given : has_code 98 c.args.words.now ≡ true = sym c.has_code.ensures ∙ c.if-has_code.true in
    rw (none, given) refl
