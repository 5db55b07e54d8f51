-- What is known behind blocks that this control's own language has. src/passing.rt computes it.
use Rattle.std.specs.Prelude.{ℕ, Bool, true, false, not, ◌&&◌, ◌||◌, ◌==◌, List, [], ◌∷◌, Option, Some, None, Result, Ok, Err, if◌then◌else◌}
use Rattle.nc_text.specs.declared.tape.Block.{Block}
use Rattle.block_order.specs.declared.control.Control.{Control}
use Rattle.block_order.specs.declared.control.Control.TheVariants.{Next, Wait}
use Rattle.block_words.specs.declared.dialect.Dialect.{Dialect}
use Rattle.block_words.specs.Codes.{purpose_of}
use Rattle.block_forms.specs.Forms.{Form, OfWords, OfSentence, BlockForm, block_or_refusal}
use Rattle.known_blocks.specs.declared.known.Known.{Known}
use Rattle.known_blocks.specs.Behind.{known_behind_words, known_behind_sentence}
use Rattle.plain_form.specs.declared.cause.PlainCause.{PlainCause}
use Rattle.plain_form.specs.declared.cause.PlainCause.TheVariants as cause
use Rattle.code_tables.specs.declared.kind.CodeKind.{CodeKind}
use Rattle.code_tables.specs.declared.kind.CodeKind.TheVariants.{CycleThread}
use Rattle.std.specs.List.{list_any}
use Rattle.line_text.specs.declared.body.Body.{Body}
use Rattle.line_text.specs.declared.body.Body.TheVariants.{Words, Statement}
use Rattle.line_text.specs.declared.body.Word.{Word}
use Rattle.taper_form.specs.Kinds.{begins_cut}
use Rattle.thread_form.specs.Taper.{begins_taper}
use Rattle.plain_blocks.specs.declared.passing.Passed.{Passed}

-- the control goes on to the next block
abbrev pub goes_on : Control → Bool
goes_on Next = true
goes_on other = false

-- what is known behind what a block says
abbrev pub known_past_form : Form → Known → Known
known_past_form (OfWords dialect words) known = known_behind_words (purpose_of dialect words) dialect.system words known
known_past_form (OfSentence sentence) known = known_behind_sentence sentence known

-- the same of a block of this control: a wait is passed, and nothing else of its block is done
abbrev pub known_past_control : Form → Control → Known → Known
known_past_control (OfWords dialect words) (Wait code) known = known
known_past_control form control known = known_past_form form known

-- what is known behind a block that was read
abbrev pub known_past : BlockForm → Known → Known
known_past block known = known_past_control block.form block.control known

-- the block that was read, if it was
abbrev pub passed_by : Known → Result BlockForm ℕ → Option Passed
passed_by known (Ok block) = Some (record { control = block.control; known = known_past block known })
passed_by known (Err number) = None

-- a block of this control's language
abbrev pub behind_block : Dialect → Known → Block → Option Passed
behind_block dialect known block = passed_by known (block_or_refusal dialect block)

-- this code of motion is a thread's cycle
abbrev pub is_thread_kind : CodeKind → Bool
is_thread_kind CycleThread = true
is_thread_kind other = false

abbrev pub is_thread : Option CodeKind → Bool
is_thread None = false
is_thread (Some kind) = is_thread_kind kind

-- a word has this letter; 71 is G, 82 R
abbrev pub has_letter : ℕ → List Word → Bool
has_letter letter words = list_any (λ word. word.letter == letter) words

-- a block goes on with a taper under the code of a thread
abbrev pub holds_taper : Option CodeKind → Body → Bool
holds_taper motion (Words words) = is_thread motion && (has_letter 82 words && not (has_letter 71 words))
holds_taper motion (Statement text) = false

-- a block begins a thread or a cut along a taper, or goes on with one, if this code of motion is in
-- force
abbrev pub has_taper : Dialect → Option CodeKind → Body → Bool
has_taper dialect motion body =
    begins_taper dialect.system body || (begins_cut dialect.system motion body || holds_taper motion body)

-- a block of it that stays: one that begins a thread or a cut along a taper does not
abbrev pub own_block : Dialect → Known → Block → Option Passed
own_block dialect known block = if has_taper dialect known.motion block.body then None else behind_block dialect known block

-- what is known behind a block that may be printed, or why it may not be
abbrev pub pass_block : Option Passed → Result Known PlainCause
pass_block None = Err cause.NoForm
pass_block (Some passing) = if goes_on passing.control then Ok passing.known else Err cause.Control

-- what the next step makes of what is known
abbrev pub and_then : Result Known PlainCause → (Known → Result Known PlainCause) → Result Known PlainCause
and_then (Ok known) next = next known
and_then (Err why) next = Err why

-- what is known behind blocks that are printed one after the other, or why they may not be
abbrev pub pass_blocks : Dialect → Known → List Block → Result Known PlainCause
pass_blocks dialect known [] = Ok known
pass_blocks dialect known (block ∷ blocks) =
    and_then (pass_block (behind_block dialect known block)) (λ behind. pass_blocks dialect behind blocks)
