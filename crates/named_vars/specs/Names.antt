-- Which variables a block names and which it may write, by its text alone. A variable whose number
-- is computed may be any. As the block runs it reads and writes no other shared variable: the law
-- of src/laws.rt.
use Rattle.std.specs.Prelude.{ℕ, ◌==◌, ◌||◌, Bool, true, false, List, [], ◌∷◌, Option, Some, None}
use Rattle.macro_expr.specs.Tree.{Tree, Number, Variable, VariableOf, Signed, Applied, Joined, Named, Fixed, Computed, Sentence, Assign, IfThen, trees_of_sentence, sentence_of}
use Rattle.block_words.specs.declared.word.FlowWord.{FlowWord}
use Rattle.block_words.specs.declared.word.WordValue.{WordValue}
use Rattle.block_words.specs.declared.word.WordValue.TheVariants as word
use Rattle.block_forms.specs.declared.block.FlowBlock.{FlowBlock}
use Rattle.block_forms.specs.declared.body.FlowBody.{FlowBody}
use Rattle.block_forms.specs.declared.body.FlowBody.TheVariants.{Words, Statement}
use Rattle.tape_flow.specs.declared.flow.Flow.{Flow}
use Rattle.tape_flow.specs.Places.{flow_block}

-- an expression names a variable if it has its number, or computes a number
abbrev pub names : Tree → ℕ → Bool
names (Number z) v = false
names (Variable n) v = n == v
names (VariableOf e) v = true
names (Signed minus e) v = names e v
names (Applied f e) v = names e v
names (Joined op a b) v = names a v || names b v

-- one of the expressions names the variable
abbrev pub some_names : List Tree → ℕ → Bool
some_names [] v = false
some_names (t ∷ trees) v = names t v || some_names trees v

-- the left side of an assignment may be the variable
abbrev pub may_be : Named → ℕ → Bool
may_be (Fixed n) v = n == v
may_be (Computed e) v = true

-- a statement may write the variable: it is an assignment to it, by itself or behind THEN
abbrev pub sentence_may_write : Sentence → ℕ → Bool
sentence_may_write (Assign name e) v = may_be name v
sentence_may_write (IfThen test name e) v = may_be name v
sentence_may_write other v = false

-- a statement names a variable if it may write it, or if an expression that it evaluates names it
abbrev pub sentence_names : Sentence → ℕ → Bool
sentence_names sentence v = sentence_may_write sentence v || some_names (trees_of_sentence sentence) v

-- the value of a word names the variable; a literal names none
abbrev pub word_names : WordValue → ℕ → Bool
word_names (word.Fixed literal) v = false
word_names (word.Computed minus tree) v = names tree v

-- one of the words names the variable
abbrev pub words_name : List FlowWord → ℕ → Bool
words_name [] v = false
words_name (w ∷ words) v = word_names w.value v || words_name words v

-- the text of a block names the variable
abbrev pub body_names : FlowBody → ℕ → Bool
body_names (Words words) v = words_name words.words v
body_names (Statement statement) v = sentence_names (sentence_of statement.statement) v

-- the text of a block may write the variable; words write none
abbrev pub body_may_write : FlowBody → ℕ → Bool
body_may_write (Words words) v = false
body_may_write (Statement statement) v = sentence_may_write (sentence_of statement.statement) v

-- there is a block, and its text names the variable
abbrev pub found_names : Option FlowBlock → ℕ → Bool
found_names None v = false
found_names (Some block) v = body_names block.body v

-- there is a block, and its text may write the variable
abbrev pub found_may_write : Option FlowBlock → ℕ → Bool
found_may_write None v = false
found_may_write (Some block) v = body_may_write block.body v

-- the block of this number, from 0, in a program names the variable; past the last block there is
-- none
abbrev pub block_names : Flow → ℕ → ℕ → ℕ → Bool
block_names flow program block v = found_names (flow_block flow.programs program block) v

-- the block of this number, from 0, in a program may write the variable
abbrev pub block_may_write : Flow → ℕ → ℕ → ℕ → Bool
block_may_write flow program block v = found_may_write (flow_block flow.programs program block) v
