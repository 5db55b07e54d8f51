-- What a block's text says, or the number of its refusal: the definition that `read_block` answers.
use Rattle.std.specs.Prelude.{ℕ, Bool, ◌+◌, nat_lt, nat_le, List, [], ◌∷◌, ◌++◌, Option, Some, None, Result, Ok, Err, if◌then◌else◌}
use Rattle.nc_number.specs.declared.cause.Cause.{Cause}
use Rattle.nc_number.specs.declared.cause.Cause.TheVariants.{TooManyDigits, TooManyVariables}
use Rattle.nc_number.specs.declared.limits.TheConstants.{MOST_READS}
use Rattle.nc_number.specs.declared.literal.Literal.{Literal}
use Rattle.nc_number.specs.declared.fault.NumberFault.{NumberFault}
use Rattle.nc_number.specs.Causes.{cause_number}
use Rattle.nc_number.specs.Literals.{is_literal, has_minus, behind_sign, word_literal}
use Rattle.line_text.specs.declared.body.Word.{Word}
use Rattle.nc_text.specs.declared.tape.Block.{Block}
use Rattle.line_text.specs.declared.body.Body.{Body}
use Rattle.line_text.specs.declared.body.Body.TheVariants.{Words, Statement}
use Rattle.block_order.specs.declared.control.Control.{Control}
use Rattle.macro_expr.specs.declared.tree.ExprFault.{ExprFault}
use Rattle.macro_expr.specs.Tree.{Tree, Sentence}
use Rattle.macro_expr.specs.Limits.{variable_signs}
use Rattle.macro_expr.specs.Answers.{expression_of, statement_of}
use Rattle.block_words.specs.declared.word.FlowWord.{FlowWord}
use Rattle.block_words.specs.declared.word.WordValue.{WordValue}
use Rattle.block_words.specs.declared.word.WordValue.TheVariants.{Fixed, Computed}
use Rattle.block_words.specs.declared.dialect.Dialect.{Dialect}
use Rattle.block_forms.specs.Refusals.{refusal_of}
use Rattle.block_forms.specs.Controls.{control_of_words, control_of_sentence}

-- The literal as the value of a word, or the number of the refusal of too many digits.
abbrev pub fixed_value : Result Literal NumberFault → Result WordValue ℕ
fixed_value (Ok literal) = Ok (Fixed literal)
fixed_value (Err fault) = Err (cause_number TooManyDigits)

-- The tree of an expression with the word's own sign as the value of a word, or the number of its
-- refusal.
abbrev pub computed_value : Bool → Result Tree ExprFault → Result WordValue ℕ
computed_value minus (Ok tree) = Ok (Computed minus tree)
computed_value minus (Err fault) = Err fault.number

-- What a word's value says: a literal, or an expression behind the word's own sign.
abbrev pub value_of : List ℕ → Result WordValue ℕ
value_of text =
    if is_literal text then fixed_value (word_literal text) else computed_value (has_minus text) (expression_of (behind_sign text))

-- A word of this letter, if its value reads.
abbrev pub word_at : ℕ → Result WordValue ℕ → Result FlowWord ℕ
word_at letter (Ok value) = Ok (record { letter = letter; value = value })
word_at letter (Err number) = Err number

-- What a word says, or the number of its refusal.
abbrev pub word_of : Word → Result FlowWord ℕ
word_of word = word_at word.letter (value_of word.text)

-- One word and those behind it, if all read; else the least number of the refusals of those that
-- don't.
abbrev pub word_and_rest : Result FlowWord ℕ → Result (List FlowWord) ℕ → Result (List FlowWord) ℕ
word_and_rest (Ok word) (Ok words) = Ok (word ∷ words)
word_and_rest (Ok word) (Err number) = Err number
word_and_rest (Err number) (Ok words) = Err number
word_and_rest (Err number) (Err other) = Err (if nat_le number other then number else other)

-- What all words say, or the least number of those that don't read.
abbrev pub all_words : List Word → Result (List FlowWord) ℕ
all_words [] = Ok []
all_words (word ∷ words) = word_and_rest (word_of word) (all_words words)

-- The lesser one of two numbers, or the second if there is no first.
abbrev pub lesser : Option ℕ → ℕ → ℕ
lesser None number = number
lesser (Some before) number = if nat_le before number then before else number

-- What is answered if these words were read so far, this is the least number of a refusal so far,
-- if there was one, and the rest says that.
abbrev pub answer_so_far : List FlowWord → Option ℕ → Result (List FlowWord) ℕ → Result (List FlowWord) ℕ
answer_so_far done None (Ok words) = Ok (done ++ words)
answer_so_far done None (Err number) = Err number
answer_so_far done (Some least) (Ok words) = Err least
answer_so_far done (Some least) (Err number) = Err (lesser (Some least) number)

-- How many variables the words of a block name: each sign `#` counts.
abbrev pub signs_in : List Word → ℕ
signs_in [] = 0
signs_in (word ∷ words) = variable_signs word.text + signs_in words

-- The block names more than 32 variables.
abbrev pub has_many_variables : List Word → Bool
has_many_variables words = nat_lt MOST_READS (signs_in words)

-- These words, or the number of the refusal that holds of them.
abbrev pub with_refusal : Option Cause → List FlowWord → Result (List FlowWord) ℕ
with_refusal None words = Ok words
with_refusal (Some cause) words = Err (cause_number cause)

-- The words of a block, or its refusal. Words that don't read are refused by 5 or by 20 to 25, so
-- that comes first; words that do, by 25 (too many variables) or by a greater number of what they
-- say.
abbrev pub words_or_number : Dialect → Bool → Result (List FlowWord) ℕ → Result (List FlowWord) ℕ
words_or_number dialect many (Ok words) = if many then Err (cause_number TooManyVariables) else with_refusal (refusal_of dialect words) words
words_or_number dialect many (Err number) = Err number

-- The words of a block, or the least number of a refusal that holds of it.
abbrev pub words_or_refusal : Dialect → List Word → Result (List FlowWord) ℕ
words_or_refusal dialect words = words_or_number dialect (has_many_variables words) (all_words words)

-- What stands in a block that was read.
pub data Form : Type 0 where
  -- Words, whose codes mean what the dialect says.
  OfWords : Dialect → List FlowWord → Form
  -- A statement, as its tree.
  OfSentence : Sentence → Form

-- A block that was read.
pub record BlockForm : Type 0 where
  -- The number of its line on the tape.
  pub line : ℕ
  -- Its sequence number, the N, if it has one.
  pub sequence : Option ℕ
  -- What stands in it.
  pub form : Form
  -- What it does to the order of blocks.
  pub control : Control

-- The words of a block as what it says, or the number of its refusal.
abbrev pub form_of_words : Dialect → Result (List FlowWord) ℕ → Result Form ℕ
form_of_words dialect (Ok words) = Ok (OfWords dialect words)
form_of_words dialect (Err number) = Err number

-- The tree of a statement, or the number of its refusal.
abbrev pub sentence_or_refusal : Result Sentence ExprFault → Result Sentence ℕ
sentence_or_refusal (Ok sentence) = Ok sentence
sentence_or_refusal (Err fault) = Err fault.number

-- A statement as what a block says, or the number of its refusal.
abbrev pub form_of_sentence : Result Sentence ℕ → Result Form ℕ
form_of_sentence (Ok sentence) = Ok (OfSentence sentence)
form_of_sentence (Err number) = Err number

-- What the body of a block says: its words in this dialect, or its statement.
abbrev pub form_or_refusal : Dialect → Body → Result Form ℕ
form_or_refusal dialect (Words words) = form_of_words dialect (words_or_refusal dialect words)
form_or_refusal dialect (Statement text) = form_of_sentence (sentence_or_refusal (statement_of text))

-- What a block that says this does to the order of blocks.
abbrev pub control_of_form : Form → Control
control_of_form (OfWords dialect words) = control_of_words dialect words
control_of_form (OfSentence sentence) = control_of_sentence sentence

-- A block of this line and sequence number, which says this and does this to the order of blocks.
abbrev pub form_at : ℕ → Option ℕ → Form → Control → BlockForm
form_at line sequence form control = record { line = line; sequence = sequence; form = form; control = control }

-- The block with what it says, or the number of its refusal.
abbrev pub block_at : Block → Result Form ℕ → Result BlockForm ℕ
block_at block (Ok form) = Ok (form_at block.line block.sequence form (control_of_form form))
block_at block (Err number) = Err number

-- What a block says, or the least number of a refusal that holds of it.
abbrev pub block_or_refusal : Dialect → Block → Result BlockForm ℕ
block_or_refusal dialect block = block_at block (form_or_refusal dialect block.body)
