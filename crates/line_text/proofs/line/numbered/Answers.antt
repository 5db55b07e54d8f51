-- Signs of a line that go on after N and its literal with no statement are no statement with a
-- sequence number (`numbered`, src/line.rt).
use Rattle.std.proofs.Common.{◌≡◌, ℕ, ◌-◌, false, List, [], ◌∷◌, length, take, drop, refl, sym, ap, ◌∙◌, arith}
use Rattle.std.proofs.Math.Seq.{take-length}
use Rattle.std.specs.List.{prefix_len}
use Rattle.nc_number.proofs.Bools.{and_false}
use Rattle.line_text.specs.declared.sign.Sign.{Sign}
use Rattle.line_text.specs.Front.{is_number_sign, is_numbered, is_statement, sentence_of}
use Rattle.line_text.proofs.line.numbered.Goals as goal

-- what stands after the first sign
behind_first : (sign : Sign) (signs others : List Sign) → others ≡ take (length (sign ∷ signs) - 1) signs → others ≡ signs
behind_first sign signs others e =
    let n : length (sign ∷ signs) - 1 ≡ length signs = omega arith in
    e ∙ ap (λ (k : ℕ). take k signs) n ∙ take-length signs

-- signs are no numbered statement if none stands after N and its literal
no_statement : (signs others behind : List Sign) (n : ℕ) → others ≡ take (length signs - 1) (drop 1 signs) → n ≡ prefix_len is_number_sign others → behind ≡ drop n others → is_statement (sentence_of behind) ≡ false → is_numbered signs ≡ false
no_statement [] others behind n others-are n-is behind-is e = refl
no_statement (sign ∷ signs) others behind n others-are n-is behind-is e =
    let same = behind_first sign signs others others-are in
    let rest : behind ≡ drop (prefix_len is_number_sign signs) signs = behind-is ∙ (λ i. drop (n-is i) (same i)) ∙ ap (λ (all : List Sign). drop (prefix_len is_number_sign all) signs) same in
    and_false _ _ (ap (λ (text : List Sign). is_statement (sentence_of text)) (sym rest) ∙ e)

pub returns-then-not-begins_statement : goal.returns-then-not-begins_statement
returns-then-not-begins_statement c =
    let no-statement : is_statement (sentence_of c.split_at.result.1.now) ≡ false = cc (c.begins_statement.ensures, c.if-not-begins_statement.true) in
    no_statement c.args.signs.now _ c.split_at.result.1.now c.number_len.result refl c.number_len.ensures.count c.split_at.ensures.back no-statement
