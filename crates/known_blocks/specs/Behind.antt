-- What is known behind a block, by what is known before it and by its text. src/behind.rt computes it.
use Rattle.std.specs.Prelude.{Bool, true, false, List, Option, Some, if◌then◌else◌}
use Rattle.code_tables.specs.declared.kind.CodeKind.{CodeKind}
use Rattle.code_tables.specs.declared.row.Row.{Row}
use Rattle.code_tables.specs.declared.system.System.{System}
use Rattle.common_vars.specs.declared.variable.Variable.{Variable}
use Rattle.common_vars.specs.declared.variable.Variable.TheVariants as variable
use Rattle.common_vars.specs.Variables.{variable_of}
use Rattle.block_order.specs.declared.control.Control.{Control}
use Rattle.block_order.specs.declared.control.Control.TheVariants.{Wait}
use Rattle.macro_expr.specs.Tree.{Named, Fixed, Computed, Sentence, Assign, IfThen, sentence_of}
use Rattle.block_words.specs.declared.word.FlowWord.{FlowWord}
use Rattle.block_words.specs.declared.purpose.Purpose.{Purpose}
use Rattle.block_words.specs.Codes.{rows, one_shot, is_macro}
use Rattle.block_forms.specs.declared.body.FlowBody.{FlowBody}
use Rattle.block_forms.specs.declared.body.FlowBody.TheVariants.{Words, Statement}
use Rattle.block_values.specs.Values.{is_dwell}
use Rattle.known_blocks.specs.declared.heard.Heard.{Heard}
use Rattle.known_blocks.specs.declared.known.Known.{Known}
use Rattle.known_blocks.specs.Known.{counted}
use Rattle.known_blocks.specs.Heard.{silence, heard_words}
use Rattle.known_blocks.specs.InForce.{known_in_force, may_shift}
use Rattle.known_blocks.specs.Places.{known_axis, known_end}

-- what is known behind the words of a block with these codes
abbrev pub known_behind_codes : List Row → Option CodeKind → Heard → Known → Known
known_behind_codes rows shot heard known =
    let now = counted (may_shift rows heard) (known_in_force rows heard known) in
    known_end shot (known_axis now.incremental heard.x heard.u) (known_axis now.incremental heard.z heard.w) now

-- what is known behind a block of words that is no macro call
abbrev pub known_behind_motion : Purpose → System → List FlowWord → Known → Known
known_behind_motion purpose system words known =
    known_behind_codes (rows system words) (one_shot system words) (heard_words (is_dwell purpose) words silence) known

-- what is known behind a block of words; a macro call moves nothing by itself
abbrev pub known_behind_words : Purpose → System → List FlowWord → Known → Known
known_behind_words purpose system words known = if is_macro purpose then known else known_behind_motion purpose system words known

-- an assignment may set a work offset, for all that its left side says
abbrev pub may_offset_variable : Option Variable → Bool
may_offset_variable (Some (variable.Work n axis)) = true
may_offset_variable _ = false

abbrev pub may_offset : Named → Bool
may_offset (Fixed n) = may_offset_variable (variable_of n)
may_offset (Computed e) = true

-- what is known behind an assignment
abbrev pub known_behind_assignment : Named → Known → Known
known_behind_assignment name known = counted (may_offset name) known

-- what is known behind a statement
abbrev pub known_behind_sentence : Sentence → Known → Known
known_behind_sentence (Assign name e) known = known_behind_assignment name known
known_behind_sentence (IfThen test name e) known = known_behind_assignment name known
known_behind_sentence other known = known

-- what is known behind a block that the next one follows
abbrev pub known_behind : FlowBody → Known → Known
known_behind (Words words) known = known_behind_words words.purpose words.dialect.system words.words known
known_behind (Statement statement) known = known_behind_sentence (sentence_of statement.statement) known

-- the same of a block of this control: a wait is passed, and nothing else of its block is done
abbrev pub known_behind_block : FlowBody → Control → Known → Known
known_behind_block (Words words) (Wait code) known = known
known_behind_block body control known = known_behind body known
