-- The effect of a flow's block leads where its order of blocks allows, a wait and an end stop the
-- path, and past the last block there is an alarm: for the laws of src/control_law.rt. An effect
-- that goes as the order allows and keeps what is fixed for its path is *steady* (ControlledWords).
use Rattle.std.proofs.Common.{◌≡◌, ◌≢◌, ℕ, List, [], ◌∷◌, map, slice_get, Option, Some, None, refl, ap, sym, subst, ◌∙◌}
use Rattle.std.specs.Option.{option_map}
use Rattle.nc_number.specs.declared.value.Var.{Var}
use Rattle.nc_moves.specs.declared.motion.Move.{Move}
use Rattle.block_order.specs.declared.control.Control.{Control}
use Rattle.block_order.specs.declared.control.Control.TheVariants as control
use Rattle.block_order.specs.declared.frame.Frame.{Frame}
use Rattle.block_order.specs.declared.program.ControlProgram.{ControlProgram}
use Rattle.block_order.specs.Order.{blocks_of, blocks, control_of, control_at}
use Rattle.block_order.specs.Steps.{Goes as Goes_to, Step, control_of_place}
use Rattle.block_forms.specs.declared.block.FlowBlock.{FlowBlock}
use Rattle.block_forms.specs.declared.body.FlowBody.{FlowBody}
use Rattle.block_forms.specs.declared.body.FlowBody.TheVariants.{Words, Statement}
use Rattle.block_forms.specs.Blocks.{block_form}
use Rattle.block_forms.specs.Views.{control_of as control_of_body}
use Rattle.block_forms.specs.Controls.{control_of_sentence}
use Rattle.macro_expr.specs.Tree.{Sentence, Assign, Goto, IfGoto, IfThen, WhileDo, DoOnly, EndLoop, sentence_of}
use Rattle.tape_flow.specs.declared.flow.Flow.{Flow}
use Rattle.tape_flow.specs.declared.program.FlowProgram.{FlowProgram}
use Rattle.tape_flow.specs.Forms.{program_form}
use Rattle.tape_flow.specs.Controls.{control_block, control_program, controls}
use Rattle.tape_flow.specs.Places.{flow_program, flow_blocks, flow_block}
use Rattle.tape_flow.proofs.Seen.{block_seen, program_seen, stands_in}
use Rattle.path_state.specs.View.{Fixed, PathView}
use Rattle.block_values.specs.Outcomes.{Outcome, Gives, Needs, Alarms}
use Rattle.path_state.specs.Statements.{Write, After, statement_effect}
use Rattle.path_state.specs.Effect.{Done, AtWait, of_after, past_the_last, effect_of_body, effect_of_block, block_at, effect_of}
use Rattle.path_state.specs.Controlled.{GoesAsOrdered}
use Rattle.path_state.proofs.ControlledStatements.{OnGives, Goes, statement-goes}
use Rattle.path_state.proofs.ControlledWords.{IsSteady, words_end_no_loop, words-steady}

-- if the outcome of a statement goes a step of the order, the effect of the statement is steady
after-steady : (tape : List ControlProgram) (path : PathView) (after : Outcome After)
    → OnGives (Goes tape path) after → IsSteady tape path (of_after after)
after-steady tape path (Gives after left) goes = record { goes = goes.step; keeps = goes.fixed }
after-steady tape path (Needs variable) goes = record { goes = tt; keeps = tt }
after-steady tape path (Alarms number value) goes = record { goes = tt; keeps = tt }

-- the block that stands at the path's place, words or statement, is steady
body-steady : (tape : List ControlProgram) (fixed : Fixed) (path : PathView) (body : FlowBody)
    (reads : List Var)
    → control_of_place tape path.place ≡ Some (control_of_body body)
    → IsSteady tape path (effect_of_body tape fixed path body (control_of_body body) reads)
body-steady tape fixed path (Words words) reads stands =
    words-steady tape fixed path words.purpose words.dialect.system words.words (control_of_body (Words words)) reads
    stands (words_end_no_loop words.dialect words.words)
body-steady tape fixed path (Statement statement) reads stands =
    after-steady tape path (statement_effect tape fixed path (sentence_of statement.statement) reads)
    (statement-goes tape fixed path (sentence_of statement.statement) reads stands)

-- the effect of the block that was found at the path's place, if there is one, is steady
block-steady : (tape : List ControlProgram) (path : PathView) (found : Option FlowBlock)
    (reads : List Var)
    → ((block : FlowBlock) → found ≡ Some block → control_of_place tape path.place ≡ Some block.control)
    → IsSteady tape path (effect_of_block tape path found reads)
block-steady tape path None reads stands = record { goes = tt; keeps = tt }
block-steady tape path (Some block) reads stands =
    subst (λ c. IsSteady tape path (effect_of_body tape path.fixed path block.body c reads))
    (sym block.controls)
    (body-steady tape path.fixed path block.body reads
    (stands block refl ∙ ap (λ c. Some c) block.controls))

-- whatever was read, the effect of a flow's block leads where the order of blocks allows
pub steady : (flow : Flow) (path : PathView) (reads : List Var)
    → IsSteady flow.order path (effect_of flow path reads)
steady flow path reads =
    block-steady flow.order path (block_at flow.programs path.place) reads (go path.place)
  where
    go : (place : List Frame) (block : FlowBlock) → block_at flow.programs place ≡ Some block
        → control_of_place flow.order place ≡ Some block.control
    go [] block is = absurd cc
    go (f ∷ stack) block is = rw (flow.agrees) (stands_in flow.programs f.program f.block block is)

-- what the flow has at a place and what the order has there agree: a block and its control, or none
-- and none
abbrev Stands : Option FlowBlock → Option Control → Type 0
Stands None o = o ≡ None
Stands (Some block) o = o ≡ Some block.control

-- at each place of a flow its block and the control of its order agree
standing_of_block : (flow : Flow) (place : List Frame)
    → Stands (block_at flow.programs place) (control_of_place flow.order place)
standing_of_block flow [] = refl
standing_of_block flow (f ∷ stack) =
    rw (flow.agrees) (go (flow_block flow.programs f.program f.block) refl)
  where
    missing : (found : Option FlowProgram) → slice_get (flow_blocks found) f.block ≡ None
        → control_at (blocks_of (option_map (λ p. control_program (program_form p)) found)) f.block ≡ None
    missing None there = refl
    missing (Some program) there =
        ap (λ found. control_of found) (sym (block_seen program.blocks f.block))
        ∙ ap (λ found. control_of (option_map (λ b. control_block (block_form b)) found)) there

    go : (found : Option FlowBlock) → flow_block flow.programs f.program f.block ≡ found
        → Stands found (control_at (blocks (controls (map program_form flow.programs)) f.program) f.block)
    go None is =
        rw (sym (program_seen flow.programs f.program))
        (missing (flow_program flow.programs f.program) is)
    go (Some block) is = stands_in flow.programs f.program f.block block is

-- a block of words that waits comes to its wait, whatever was read
body-waits : (tape : List ControlProgram) (fixed : Fixed) (path : PathView) (body : FlowBody)
    (c : Control) (code : ℕ) (reads : List Var)
    → c ≡ control_of_body body → c ≡ control.Wait code
    → effect_of_body tape fixed path body c reads ≡ AtWait code
body-waits tape fixed path (Words words) c code reads is waits = rw waits refl
body-waits tape fixed path (Statement statement) c code reads is waits =
    absurd (no_wait (sentence_of statement.statement) (sym is ∙ waits))
  where
    no_wait : (sentence : Sentence) → control_of_sentence sentence ≡ control.Wait code → ⊥
    no_wait (Assign name tree) e = cc
    no_wait (Goto aim) e = cc
    no_wait (IfGoto test aim) e = cc
    no_wait (IfThen test name tree) e = cc
    no_wait (WhileDo test name) e = cc
    no_wait (DoOnly name) e = cc
    no_wait (EndLoop name) e = cc

-- a path that stands on a wait is at it, whatever was read
pub waits : (flow : Flow) (path : PathView) (code : ℕ) (reads : List Var)
    → control_of_place flow.order path.place ≡ Some (control.Wait code)
    → effect_of flow path reads ≡ AtWait code
waits flow path code reads stands =
    go (block_at flow.programs path.place) (standing_of_block flow path.place)
  where
    go : (found : Option FlowBlock) → Stands found (control_of_place flow.order path.place)
        → effect_of_block flow.order path found reads ≡ AtWait code
    go None there =
        absurd (let e : ◌≡◌ {A = Option Control} None (Some (control.Wait code)) = sym there ∙ stands in cc)
    go (Some block) there =
        let e : Some block.control ≡ Some (control.Wait code) = sym there ∙ stands in
        let waits : block.control ≡ control.Wait code = cc in
        body-waits flow.order path.fixed path block.body block.control code reads block.controls waits

-- a path past the last block of a program comes to the alarm of it, whatever was read
pub runs_off : (flow : Flow) (path : PathView) (reads : List Var)
    → control_of_place flow.order path.place ≡ None → effect_of flow path reads ≡ past_the_last
runs_off flow path reads stands =
    go (block_at flow.programs path.place) (standing_of_block flow path.place)
  where
    go : (found : Option FlowBlock) → Stands found (control_of_place flow.order path.place)
        → effect_of_block flow.order path found reads ≡ past_the_last
    go None there = refl
    go (Some block) there =
        absurd (let e : ◌≡◌ {A = Option Control} None (Some block.control) = sym stands ∙ there in cc)

-- a path that stands on an end is never done with the block, whatever was read
pub at_end : (flow : Flow) (path : PathView) (reads : List Var)
    → control_of_place flow.order path.place ≡ Some control.End
    → (after : PathView) (write : Option Write) (moves : List Move)
    → effect_of flow path reads ≢ Done after write moves
at_end flow path reads stands after write moves is =
    go (subst (λ effect. GoesAsOrdered flow.order path effect) is (steady flow path reads).goes)
  where
    other : (c : Control) → control.End ≡ c → Goes_to flow.order path.place c after.place → ⊥
    other control.End e goes = goes
    other _ e goes = cc

    go : Step flow.order path.place after.place → ⊥
    go (c, there, goes) =
        let e : Some control.End ≡ Some c = sym stands ∙ there in
        let same : control.End ≡ c = cc in other c same goes
