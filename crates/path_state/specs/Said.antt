-- What a block says, evaluated by what its path holds of each variable: the words of block_values
-- over the table of Looks. Effect and Statements are built on it.
use Rattle.std.specs.Prelude.{ℕ, List}
use Rattle.nc_number.specs.declared.value.Var.{Var}
use Rattle.code_tables.specs.declared.system.System.{System}
use Rattle.code_tables.specs.Kinds.{is_arc}
use Rattle.macro_expr.specs.Tree.{Tree}
use Rattle.modal_state.specs.Modal.{motion_after}
use Rattle.block_words.specs.declared.purpose.Purpose.{Purpose}
use Rattle.block_words.specs.declared.word.FlowWord.{FlowWord}
use Rattle.block_words.specs.declared.word.WordValue.{WordValue}
use Rattle.block_words.specs.Codes.{gives, is_setting, rows}
use Rattle.block_values.specs.Outcomes.{Outcome, value_with}
use Rattle.block_values.specs.Values.{Values, Sense, word_with, words_with}
use Rattle.block_values.specs.Arguments.{argument_with, arguments_with}
use Rattle.path_state.specs.View.{Fixed, PathView}
use Rattle.path_state.specs.Looks.{look_of}

-- what decides the meaning of a block's words; an arc counts if its code is in force behind the
-- block's own G codes
abbrev pub sense_of : PathView → Purpose → System → List FlowWord → Sense
sense_of path purpose system words = record {
  purpose = purpose;
  arc = is_arc (motion_after path.modal (rows system words));
  setting = gives system is_setting words;
}

-- the value of an expression
abbrev pub value_of_tree : Fixed → PathView → Tree → List Var → Outcome Var
value_of_tree fixed path tree reads = value_with (look_of fixed path) tree reads

-- the values behind one word of a block that calls no macro
abbrev pub word_taken : Fixed → PathView → Sense → ℕ → WordValue → Values → List Var → Outcome Values
word_taken fixed path sense letter value values reads = word_with (look_of fixed path) sense letter value values reads

-- the values behind the words of a block that calls no macro, in their order, after these values
abbrev pub words_taken : Fixed → PathView → Sense → List FlowWord → Values → List Var → Outcome Values
words_taken fixed path sense words values reads = words_with (look_of fixed path) sense words values reads

-- the local variables behind one argument of a macro call
abbrev pub argument_taken : Fixed → PathView → ℕ → WordValue → List Var → List Var → Outcome (List Var)
argument_taken fixed path letter value arguments reads = argument_with (look_of fixed path) letter value arguments reads

-- the local variables behind the arguments of a macro call, in their order, after these
abbrev pub arguments_taken : Fixed → PathView → List FlowWord → List Var → List Var → Outcome (List Var)
arguments_taken fixed path words arguments reads = arguments_with (look_of fixed path) words arguments reads
