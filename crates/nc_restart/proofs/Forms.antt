-- What a block does depends on what it says (its form), and on nothing else of its flow. Two flows
-- with the same forms have the same blocks for the machine: SamePair.antt takes it.
use Rattle.std.proofs.Common.{◌≡◌, ℕ, ◌==◌, Bool, true, false, cond, List, [], ◌∷◌, map, Option, Some, None, refl, sym, ap, ◌∙◌}
use Rattle.std.specs.List.{find, slice_get}
use Rattle.std.specs.Option.{option_map}
use Rattle.std.proofs.lemmas.Option.{slice_get-map}
use Rattle.nc_number.specs.declared.value.Var.{Var}
use Rattle.block_order.specs.declared.control.Control.{Control}
use Rattle.block_order.specs.declared.frame.Frame.{Frame}
use Rattle.block_order.specs.declared.program.ControlProgram.{ControlProgram}
use Rattle.block_forms.specs.declared.block.FlowBlock.{FlowBlock}
use Rattle.block_forms.specs.declared.body.FlowBody.{FlowBody}
use Rattle.block_forms.specs.declared.body.FlowBody.TheVariants.{Words, Statement}
use Rattle.block_forms.specs.Blocks.{block_form}
use Rattle.block_words.specs.Codes.{purpose_of}
use Rattle.block_forms.specs.Forms.{Form, OfWords, OfSentence, BlockForm}
use Rattle.block_forms.specs.Views.{form_of}
use Rattle.tape_flow.specs.declared.flow.Flow.{Flow}
use Rattle.tape_flow.specs.declared.program.FlowProgram.{FlowProgram}
use Rattle.tape_flow.specs.Controls.{controls}
use Rattle.tape_flow.specs.Forms.{ProgramForm, program_form}
use Rattle.tape_flow.specs.Places.{flow_program, flow_blocks, line_at}
use Rattle.path_state.specs.View.{PathView}
use Rattle.path_state.specs.Effect.{Effect, block_of_words, block_of_statement, past_the_last, effect_of_body, effect_of_block, block_at, effect_of}
use Rattle.two_path.specs.Turns.{Blocks, blocks_of}

-- The block of a path of this tape, which has read these values.
module _ (tape : List ControlProgram) (path : PathView) (reads : List Var) where
  -- what a block of this form and control does
  abbrev effect_of_form : Form → Control → Effect
  effect_of_form (OfWords dialect words) control =
      block_of_words tape path.fixed path (purpose_of dialect words) dialect.system words control reads
  effect_of_form (OfSentence sentence) control = block_of_statement tape path.fixed path sentence reads

  -- a body does what its form does
  body_same : (body : FlowBody) (control : Control)
      → effect_of_body tape path.fixed path body control reads ≡ effect_of_form (form_of body) control
  body_same (Words words) control =
      ap (λ p. block_of_words tape path.fixed path p words.dialect.system words.words control reads) words.purpose_is
  body_same (Statement statement) control = refl

  -- what the block at a place does, by its form; without a block the path is past the last one
  abbrev effect_by : Option BlockForm → Effect
  effect_by None = past_the_last
  effect_by (Some block) = effect_of_form block.form block.control

  -- a block does what its form does
  block_same : (block : Option FlowBlock) → effect_of_block tape path block reads ≡ effect_by (option_map block_form block)
  block_same None = refl
  block_same (Some block) = body_same block.body block.control

-- the forms of the blocks of a program, if there is one
abbrev form_blocks : Option ProgramForm → List BlockForm
form_blocks None = []
form_blocks (Some program) = program.blocks

-- the form of the program with this O number
abbrev form_program : List ProgramForm → ℕ → Option ProgramForm
form_program programs number = find (λ program. program.number == number) programs

-- the form of the block at a place
abbrev form_at : List ProgramForm → List Frame → Option BlockForm
form_at programs [] = None
form_at programs (f ∷ stack) = slice_get (form_blocks (form_program programs f.program)) f.block

-- the blocks of a program have the forms of the form's blocks
program_same : (programs : List FlowProgram) (number : ℕ)
    → map block_form (flow_blocks (flow_program programs number)) ≡ form_blocks (form_program (map program_form programs) number)
program_same [] number = refl
program_same (p ∷ programs) number = go (p.number == number) (program_same programs number)
  where
    go : (b : Bool) → map block_form (flow_blocks (flow_program programs number)) ≡ form_blocks (form_program (map program_form programs) number)
        → map block_form (flow_blocks (cond b (Some p) (flow_program programs number)))
        ≡ form_blocks (cond b (Some (program_form p)) (form_program (map program_form programs) number))
    go true rest = refl
    go false rest = rest

-- the block at a place has the form at that place
at_same : (programs : List FlowProgram) (place : List Frame) → option_map block_form (block_at programs place) ≡ form_at (map program_form programs) place
at_same programs [] = refl
at_same programs (f ∷ stack) =
    sym (slice_get-map block_form (flow_blocks (flow_program programs f.program)) f.block)
    ∙ ap (λ blocks. slice_get blocks f.block) (program_same programs f.program)

-- the blocks of a tape, by what its programs say
abbrev pub blocks_by : List ProgramForm → Blocks
blocks_by programs = record {
  effect = λ path reads. effect_by (controls programs) path reads (form_at programs path.place);
  line = line_at (controls programs);
}

-- what a flow's block does at a place is what its form does there
effect_same : (flow : Flow) (path : PathView) (reads : List Var)
    → effect_of flow path reads ≡ (blocks_by (map program_form flow.programs)).effect path reads
effect_same flow path reads =
    block_same flow.order path reads (block_at flow.programs path.place)
    ∙ (λ i. effect_by (flow.agrees i) path reads (at_same flow.programs path.place i))

-- the blocks of a flow are those of the forms of its programs
pub blocks_same : (flow : Flow) → blocks_of flow ≡ blocks_by (map program_form flow.programs)
blocks_same flow = λ i. record { effect = λ path reads. effect_same flow path reads i; line = line_at (flow.agrees i) }
