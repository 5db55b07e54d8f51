-- How many variables a block names; they are at most 32. FlowBlock keeps this bound (src/block.rt):
-- a block asks for no more values.
use Rattle.std.specs.Prelude.{ℕ, ◌+◌, List, [], ◌∷◌}
use Rattle.macro_expr.specs.Tree.{variables, variables_in, trees_of_sentence, sentence_of}
use Rattle.block_words.specs.declared.word.FlowWord.{FlowWord}
use Rattle.block_words.specs.declared.word.WordValue.{WordValue}
use Rattle.block_words.specs.declared.word.WordValue.TheVariants.{Fixed, Computed}
use Rattle.block_forms.specs.declared.body.FlowBody.{FlowBody}
use Rattle.block_forms.specs.declared.body.FlowBody.TheVariants.{Words, Statement}

-- How many variables the value of a word names: a literal none, an expression those of its tree.
abbrev pub variables_of_value : WordValue → ℕ
variables_of_value (Fixed literal) = 0
variables_of_value (Computed minus tree) = variables tree

-- How many variables the words of a block name together.
abbrev pub variables_of_words : List FlowWord → ℕ
variables_of_words [] = 0
variables_of_words (word ∷ words) = variables_of_value word.value + variables_of_words words

-- How many variables a block names: in its computed words, or in all that its statement evaluates.
abbrev pub variables_of_body : FlowBody → ℕ
variables_of_body (Words words) = variables_of_words words.words
variables_of_body (Statement statement) = variables_in (trees_of_sentence (sentence_of statement.statement))
