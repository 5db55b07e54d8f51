-- `range_of` reads two numbers with a dash between them as a range; without a dash there is none
-- (src/making.rt).
use Rattle.std.proofs.Common.{◌≡◌, ◌≤◌, ◌+◌, ℕ, IfSome, [], length, Option, refl, sym, ap, ◌∙◌, subst, arith}
use Rattle.std.specs.List.{after_first, before_first, position_or_len}
use Rattle.std.proofs.lemmas.List.{drop_all}
use Rattle.std.proofs.lemmas.Str.Pattern.{split_once_first}
use Rattle.command_words.specs.Listed.{is_dash, range_by}
use Rattle.command_words.specs.Number.{number_of}
use Rattle.command_words.proofs.Numbers.{no_numeral, number_within}
use Rattle.command_words.proofs.making.range_of.Goals as goal

pub range_by-requires : goal.range_by-requires
range_by-requires c = record {
  greatest = subst (λ (n : Option ℕ). IfSome n (λ k. k ≤ 9999)) (sym c.read_number.ensures) (number_within 1 9999 c.in-Some.greatest.now);
}

-- without a `-` (45) nothing stands after it, which is no number
pub returns-in-None : goal.returns-in-None
returns-in-None c =
    let text = c.args.text.now in
    let none : position_or_len is_dash text ≡ length text =
    rw c.in-None.is at (split_once_first 45 text c.split_once.result c.split_once.ensures.cases (omega arith)) in
    let nothing : after_first is_dash text ≡ [] = drop_all (position_or_len is_dash text + 1) text (omega (arith, none)) in
    ap (λ n. range_by n (number_of 1 9999 (before_first is_dash text)))
    (no_numeral 1 9999 [] refl ∙ ap (number_of 1 9999) (sym nothing))
