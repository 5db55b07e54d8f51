-- A law: what the reader takes for a value is a literal, or, with a sign or without, a variable or
-- a text in balanced brackets (`a_value_has_the_grammar`, src/law.rt).
use Rattle.tape_relation.proofs.Values.{value_is, is_a_value}
use Rattle.tape_relation.proofs.law.a_value_has_the_grammar.Goals as goal

pub returns : goal.returns
returns c = λ text. (value_is text, is_a_value text)
