-- What is known before a block is so of every path that comes to it: the invariant `IsTrueTo` holds
-- at the opening of a path and is kept by each of its blocks, for the law of src/laws.rt.
use Rattle.std.proofs.Common.{◌≡◌, ℕ, zero, suc, inl, inr, Bool, true, false, not, ◌||◌, ◌==◌, List, [], ◌∷◌, find, filter, slice_get, Option, Some, None, unwrap_or, refl, ap, sym, subst, ◌∙◌, if◌then◌else◌}
use Rattle.std.specs.List.{list_any}
use Rattle.std.specs.Option.{option_map_or}
use Rattle.nc_number.specs.declared.path.Path.{Path}
use Rattle.nc_number.specs.declared.value.Var.{Var}
use Rattle.cell_settings.specs.declared.settings.Settings.{Settings}
use Rattle.code_tables.specs.declared.kind.CodeKind.{CodeKind}
use Rattle.code_tables.specs.declared.kind.CodeKind.TheVariants as kind
use Rattle.code_tables.specs.declared.row.Row.{Row}
use Rattle.code_tables.specs.declared.group.TheConstants.{ABSOLUTE_GROUP}
use Rattle.code_tables.specs.Codes.{last_of, last_of_group}
use Rattle.code_tables.specs.Kinds.{is_cycle}
use Rattle.nc_moves.specs.declared.motion.Move.{Move}
use Rattle.nc_number.specs.declared.axis.Axis.{Axis}
use Rattle.modal_state.specs.Modal.{is_incremental}
use Rattle.block_order.specs.declared.control.Control.{Control}
use Rattle.block_order.specs.declared.control.Control.TheVariants as control
use Rattle.block_order.specs.declared.frame.Frame.{Frame}
use Rattle.block_order.specs.declared.program.ControlProgram.{ControlProgram}
use Rattle.block_order.specs.Moves.{place_behind}
use Rattle.block_order.specs.Steps.{Step, IsPlace, control_of_place}
use Rattle.block_order.proofs.StepsStay.{step_stays, next_stays}
use Rattle.block_words.specs.declared.purpose.Purpose.{Purpose}
use Rattle.block_words.specs.declared.purpose.Purpose.TheVariants.{MacroCall}
use Rattle.block_words.specs.Codes.{rows, one_shot}
use Rattle.block_forms.specs.declared.block.FlowBlock.{FlowBlock}
use Rattle.block_forms.specs.declared.body.FlowBody.{FlowBody}
use Rattle.block_forms.specs.declared.body.FlowBody.TheVariants.{Words, Statement}
use Rattle.macro_expr.specs.Tree.{Sentence, Assign, Goto, IfGoto, IfThen, WhileDo, DoOnly, EndLoop, sentence_of}
use Rattle.block_values.specs.Values.{is_dwell}
use Rattle.tape_flow.specs.declared.flow.Flow.{Flow}
use Rattle.tape_flow.specs.declared.program.FlowProgram.{FlowProgram}
use Rattle.block_values.specs.Outcomes.{Outcome, Gives, Needs, Alarms}
use Rattle.tape_flow.proofs.Seen.{stands_in}
use Rattle.tape_flow.specs.Places.{flow_program, flow_blocks, flow_block}
use Rattle.path_state.specs.View.{PathView}
use Rattle.path_state.specs.Statements.{Write, After, statement_effect}
use Rattle.path_state.specs.Opening.{opening_path}
use Rattle.path_state.specs.Effect.{Done, AtWait, of_after, effect_of_body, effect_of_block, block_at}
use Rattle.path_state.specs.Controlled.{GoesAsOrdered}
use Rattle.path_state.proofs.ControlledFlow.{steady}
use Rattle.path_state.specs.Edits.{path_with_edit}
use Rattle.known_blocks.specs.declared.known.Known.{Known}
use Rattle.known_state.specs.Agreement.{IsSo, Agrees}
use Rattle.known_blocks.specs.Known.{unknown}
use Rattle.known_blocks.specs.declared.heard.Heard.{Heard}
use Rattle.known_blocks.specs.Heard.{silence, heard_words}
use Rattle.known_blocks.specs.InForce.{known_in_force, may_shift}
use Rattle.known_blocks.specs.Known.{nowhere, counted}
use Rattle.known_blocks.specs.Places.{known_axis, known_part, leads_to_target, known_motion, known_end}
use Rattle.known_blocks.specs.Behind.{known_behind_codes, known_behind_words, may_offset, known_behind_sentence, known_behind_block}
use Rattle.known_blocks.specs.Entries.{is_entry}
use Rattle.known_state.specs.Before.{makes_incremental, is_absolute, absolute_alone, known_anywhere, known_behind_found, known_before}
use Rattle.known_state.specs.Runs.{GoesOn, done, waited, edited, IsAsKnown, IsTrueTo, ComesTo, here, on}
use Rattle.known_state.proofs.Entries.{IsReached, goes-reaches}
use Rattle.known_state.proofs.WordsAgree.{OnDone, block-agrees}
use Rattle.known_state.proofs.StatementsAgree.{sentence-agrees}

-- what is known behind a block is so of the path that did it
body-agrees : (tape : List ControlProgram) (path : PathView) (known : Known) → Agrees known path → (body : FlowBody) (c : Control)
    (reads : List Var) → OnDone (Agrees (known_behind_block body c known)) (effect_of_body tape path.fixed path body c reads)
body-agrees tape path known is (Words words) (control.Wait code) reads = tt
body-agrees tape path known is (Words words) c reads =
    block-agrees tape path.fixed path known is words.dialect.system words.words words.purpose c reads
body-agrees tape path known is (Statement statement) c reads =
    sentence-agrees path.fixed path known is tape (sentence_of statement.statement) reads

-- a path agrees with nothing known
unknown-agrees : (path : PathView) → Agrees unknown path
unknown-agrees path = (record { motion = tt; incremental = tt; per_rev = tt; feed = tt; tool = tt }, tt, tt)

-- no row makes X and Z how far a block goes
abbrev MakesNone : Option Row → Type 0
MakesNone None = Unit {0}
MakesNone (Some row) = is_incremental row.kind ≡ false

-- if none of the rows does, the last of a group does not
last_makes_none : (all : List Row) (group : ℕ) → list_any (λ row. is_incremental row.kind) all ≡ false → MakesNone (last_of_group all group)
last_makes_none [] group none = tt
last_makes_none (row ∷ all) group none =
    go (row.group == group) (is_incremental row.kind) refl none (last_makes_none all group (rest (is_incremental row.kind) none))
  where
    rest : (b : Bool) → (b || list_any (λ row. is_incremental row.kind) all) ≡ false → list_any (λ row. is_incremental row.kind) all ≡ false
    rest true e = absurd cc
    rest false e = e

    pick : (o : Option Row) → MakesNone o → is_incremental row.kind ≡ false → MakesNone (Some (unwrap_or o row))
    pick None so own = own
    pick (Some r) so own = so

    go : (b i : Bool) → is_incremental row.kind ≡ i → (i || list_any (λ row. is_incremental row.kind) all) ≡ false
        → MakesNone (last_of_group all group)
        → MakesNone (last_of (if b then row ∷ filter (λ r. r.group == group) all else filter (λ r. r.group == group) all))
    go b true own e so = absurd cc
    go true false own e so = pick (last_of_group all group) so own
    go false false own e so = so

-- X and Z aside, the motion of a block changes nothing that is known
end_keeps : (shot : Option CodeKind) (x z : Option Axis) (known : Known) → (known_end shot x z known).incremental ≡ known.incremental
end_keeps None x z known = motion known.motion
  where
    motion : (k : Option CodeKind) → (known_motion k x z known).incremental ≡ known.incremental
    motion None = refl
    motion (Some k) = go (leads_to_target k) (is_cycle k)
      where
        go : (a b : Bool)
            → (if a then record known { x = known_part x known.x; z = known_part z known.z } else if b then known else nowhere known).incremental
            ≡ known.incremental
        go true b = refl
        go false true = refl
        go false false = refl
end_keeps (Some kind.Dwell) x z known = refl
end_keeps (Some kind.Limit) x z known = refl
end_keeps (Some k) x z known = refl

counted_keeps : (b : Bool) (known : Known) → (counted b known).incremental ≡ known.incremental
counted_keeps true known = refl
counted_keeps false known = refl

-- behind a block that does not make X and Z how far it goes they are where it goes
absolute_stays : (body : FlowBody) (c : Control) → makes_incremental body ≡ false
    → (known_behind_block body c absolute_alone).incremental ≡ Some false
absolute_stays (Words words) (control.Wait code) none = refl
absolute_stays (Words words) c none = go words.purpose
  where
    group : (o : Option Row) → MakesNone o → option_map_or (λ row. Some (is_incremental row.kind)) o (Some false) ≡ Some false
    group None so = refl
    group (Some row) so = ap (λ b. Some b) so

    codes : (heard : Heard) → (known_behind_codes (rows words.dialect.system words.words) (one_shot words.dialect.system words.words) heard absolute_alone).incremental ≡ Some false
    codes heard =
        let now = counted (may_shift (rows words.dialect.system words.words) heard) (known_in_force (rows words.dialect.system words.words) heard absolute_alone) in
        end_keeps (one_shot words.dialect.system words.words) (known_axis now.incremental heard.x heard.u) (known_axis now.incremental heard.z heard.w) now
        ∙ counted_keeps (may_shift (rows words.dialect.system words.words) heard) (known_in_force (rows words.dialect.system words.words) heard absolute_alone)
        ∙ group (last_of_group (rows words.dialect.system words.words) ABSOLUTE_GROUP) (last_makes_none (rows words.dialect.system words.words) ABSOLUTE_GROUP none)

    go : (purpose : Purpose) → (known_behind_words purpose words.dialect.system words.words absolute_alone).incremental ≡ Some false
    go MacroCall = refl
    go purpose = codes (heard_words (is_dwell purpose) words.words silence)
absolute_stays (Statement statement) c none = go (sentence_of statement.statement)
  where
    go : (s : Sentence) → (known_behind_sentence s absolute_alone).incremental ≡ Some false
    go (Assign name e) = counted_keeps (may_offset name) absolute_alone
    go (IfThen test name e) = counted_keeps (may_offset name) absolute_alone
    go (Goto aim) = refl
    go (IfGoto test aim) = refl
    go (WhileDo test m) = refl
    go (DoOnly m) = refl
    go (EndLoop m) = refl

-- if neither holds, the second does not
second : (a b : Bool) → (a || b) ≡ false → b ≡ false
second true b e = absurd cc
second false b e = e

-- an item of a list of which none passes the test does not
none-at : {X : Type 0} (test : X → Bool) (xs : List X) (i : ℕ) (x : X) → list_any test xs ≡ false → slice_get xs i ≡ Some x → test x ≡ false
none-at test [] i x none is = absurd cc
none-at test (y ∷ ys) zero x none is =
    let same : y ≡ x = cc in subst (λ a. test a ≡ false) same (first (test y) (list_any test ys) none)
  where
    first : (a b : Bool) → (a || b) ≡ false → a ≡ false
    first true b e = absurd cc
    first false b e = refl
none-at test (y ∷ ys) (suc i) x none is = none-at test ys i x (second (test y) (list_any test ys) none) is

pub none-found : {X : Type 0} (test by : X → Bool) (xs : List X) (x : X) → list_any test xs ≡ false → find by xs ≡ Some x → test x ≡ false
none-found test by [] x none is = absurd cc
none-found test by (y ∷ ys) x none is = go (test y) (by y) refl none is (none-found test by ys x (second (test y) (list_any test ys) none))
  where
    go : (b f : Bool) → test y ≡ b → (b || list_any test ys) ≡ false → (if f then Some y else find by ys) ≡ Some x
        → (find by ys ≡ Some x → test x ≡ false) → test x ≡ false
    go true f e none is rest = absurd cc
    go false true e none is rest = let same : y ≡ x = cc in subst (λ a. test a ≡ false) same e
    go false false e none is rest = rest is

-- no block of an absolute tape makes X and Z how far it goes
makes_none : (flow : Flow) → is_absolute flow ≡ true → (program place : ℕ) (block : FlowBlock)
    → flow_block flow.programs program place ≡ Some block → makes_incremental block.body ≡ false
makes_none flow absolute program place block is = go (flow_program flow.programs program) refl is
  where
    none : list_any (λ p. list_any (λ b. makes_incremental b.body) p.blocks) flow.programs ≡ false
    none = flip (list_any (λ p. list_any (λ b. makes_incremental b.body) p.blocks) flow.programs) absolute
      where
        flip : (b : Bool) → not b ≡ true → b ≡ false
        flip true e = absurd cc
        flip false e = refl

    go : (found : Option FlowProgram) → flow_program flow.programs program ≡ found → slice_get (flow_blocks found) place ≡ Some block
        → makes_incremental block.body ≡ false
    go None e there = absurd cc
    go (Some p) e there =
        none-at (λ b. makes_incremental b.body) p.blocks place block
        (none-found (λ p. list_any (λ b. makes_incremental b.body) p.blocks) (λ p. p.number == program) flow.programs p none e) there

-- A path that is done with the block at which it stands.
module _ (flow : Flow) (path after : PathView) (write : Option Write) (moves : List Move) (reads : List Var) where
  -- the block of the running frame was there, and what is known behind it is so
  block-done : (found : Option FlowBlock) (known : Known) → Agrees known path
      → effect_of_block flow.order path found reads ≡ Done after write moves
      → (block : FlowBlock) × (found ≡ Some block) × Agrees (known_behind_block block.body block.control known) after
  block-done None known so e = absurd cc
  block-done (Some block) known so e = (
    block,
    refl,
    subst (OnDone (Agrees (known_behind_block block.body block.control known))) e
        (body-agrees flow.order path known so block.body block.control reads),
  )

  -- what is known before every block is so behind it
  anywhere-done : (program place : ℕ) → Agrees (known_anywhere flow) path
      → effect_of_block flow.order path (flow_block flow.programs program place) reads ≡ Done after write moves
      → Agrees (known_anywhere flow) after
  anywhere-done program place so e = go (is_absolute flow) refl so
    where
      go : (b : Bool) → is_absolute flow ≡ b → Agrees (if b then absolute_alone else unknown) path
          → Agrees (if b then absolute_alone else unknown) after
      go false is so = unknown-agrees after
      go true is so =
          let d = block-done (flow_block flow.programs program place) absolute_alone so e in
          let kept : (known_behind_block d.0.body d.0.control absolute_alone).incremental ≡ Some false =
          absolute_stays d.0.body d.0.control (makes_none flow is program place d.0 d.1) in
          (record { motion = tt; incremental = told (known_behind_block d.0.body d.0.control absolute_alone).incremental kept d.2.0.incremental; per_rev = tt; feed = tt; tool = tt }, tt, tt)
        where
          told : (o : Option Bool) → o ≡ Some false → IsSo o after.modal.incremental → after.modal.incremental ≡ false
          told None e so = absurd cc
          told (Some b) e so = so ∙ cc

  -- at the block that is reached all that is known is so: at an entry what is known anywhere, at the
  -- block behind what is known behind the block that was done
  reached-known : (f : Frame) (rest : List Frame) → Agrees (known_anywhere flow) after
      → Agrees (known_behind_found (known_anywhere flow) (flow_block flow.programs f.program f.block) (known_before flow f.program f.block)) after
      → IsReached flow.order f rest → IsPlace flow.order rest → IsAsKnown flow after rest
  reached-known f [] anywhere behind reached place = absurd place
  reached-known f (g ∷ rest) anywhere behind (inl entry) place = entered g.block entry
    where
      entered : (block : ℕ) → is_entry flow.order g.program block ≡ true → Agrees (known_before flow g.program block) after
      entered zero e = anywhere
      entered (suc block) e = rw e anywhere
  reached-known f (g ∷ rest) anywhere behind (inr (same, next)) place =
      rw (same, next) (go (is_entry flow.order f.program (suc f.block)))
    where
      go : (b : Bool)
          → Agrees (if b then known_anywhere flow
          else known_behind_found (known_anywhere flow) (flow_block flow.programs f.program f.block) (known_before flow f.program f.block)) after
      go true = anywhere
      go false = behind

  -- a block that is done keeps all that is known so
  frame-done : (place : List Frame) → IsPlace flow.order place → Agrees (known_anywhere flow) path → IsAsKnown flow path place
      → effect_of_block flow.order path (block_at flow.programs place) reads ≡ Done after write moves
      → Step flow.order place after.place → IsTrueTo flow after
  frame-done [] place anywhere so e step = absurd place
  frame-done (f ∷ stack) place anywhere so e step =
      let d = block-done (flow_block flow.programs f.program f.block) (known_before flow f.program f.block) so e in
      let there = step_stays flow.order (f ∷ stack) after.place place step in
      let still = anywhere-done f.program f.block anywhere e in
      record {
        place = there;
        anywhere = still;
        known =
            reached-known f after.place still
            (subst (λ found. Agrees (known_behind_found (known_anywhere flow) found (known_before flow f.program f.block)) after) (sym d.1) d.2)
            (goes-reaches flow.order f stack place step.0 step.1 after.place step.2) there;
      }

-- a wait that is passed keeps all that is known so: a wait changes nothing but the place
wait-passed : (flow : Flow) (path : PathView) (place : List Frame) → IsPlace flow.order place → Agrees (known_anywhere flow) path
    → IsAsKnown flow path place → (reads : List Var) (code : ℕ)
    → effect_of_block flow.order path (block_at flow.programs place) reads ≡ AtWait code
    → control_of_place flow.order place ≡ Some (control.Wait code)
    → IsAsKnown flow path (place_behind place)
wait-passed flow path [] place anywhere so reads code e stands = place
wait-passed flow path (f ∷ stack) place anywhere so reads code e stands =
    go (is_entry flow.order f.program (suc f.block)) (flow_block flow.programs f.program f.block) refl e
  where
    statement : (after : Outcome After) → of_after after ≡ AtWait code → ⊥
    statement (Gives after left) e = cc
    statement (Needs variable) e = cc
    statement (Alarms number value) e = cc

    passed : (body : FlowBody) (c : Control) → c ≡ control.Wait code → effect_of_body flow.order path.fixed path body c reads ≡ AtWait code
        → Agrees (known_behind_block body c (known_before flow f.program f.block)) path
    passed (Words words) c is e = rw is so
    passed (Statement it) c is e = absurd (statement (statement_effect flow.order path.fixed path (sentence_of it.statement) reads) e)

    waits : (block : FlowBlock) → flow_block flow.programs f.program f.block ≡ Some block → block.control ≡ control.Wait code
    waits block is =
        let there : control_of_place flow.order (f ∷ stack) ≡ Some block.control =
        rw (flow.agrees) (stands_in flow.programs f.program f.block block is) in
        let same : Some block.control ≡ Some (control.Wait code) = sym there ∙ stands in cc

    go : (b : Bool) (found : Option FlowBlock) → flow_block flow.programs f.program f.block ≡ found
        → effect_of_block flow.order path found reads ≡ AtWait code
        → Agrees (if b then known_anywhere flow
        else known_behind_found (known_anywhere flow) (flow_block flow.programs f.program f.block) (known_before flow f.program f.block)) path
    go true found is e = anywhere
    go false None is e = rw is anywhere
    go false (Some block) is e = rw is (passed block.body block.control (waits block is) e)

-- what is known before the next block is so, if it is so before this one
pub truth-kept : (flow : Flow) (path after : PathView) → IsTrueTo flow path → GoesOn flow path after → IsTrueTo flow after
truth-kept flow path after is (done reads end write moves e) =
    frame-done flow path end write moves reads path.place is.place is.anywhere is.known e
    (subst (GoesAsOrdered flow.order path) e (steady flow path reads).goes)
truth-kept flow path after is (waited reads code e) = record {
  place = next_stays flow.order path.place is.place;
  anywhere = is.anywhere;
  known = wait-passed flow path path.place is.place is.anywhere is.known reads code e (subst (GoesAsOrdered flow.order path) e (steady flow path reads).goes);
}
truth-kept flow path after is (edited edit same) = record {
  place = is.place;
  anywhere = kept (known_anywhere flow) is.anywhere;
  known = go path.place is.known;
}
  where
    kept : (known : Known) → Agrees known path → Agrees known (path_with_edit edit path)
    kept known so = rw same so

    go : (place : List Frame) → IsAsKnown flow path place → IsAsKnown flow (path_with_edit edit path) place
    go [] so = so
    go (f ∷ stack) so = kept (known_before flow f.program f.block) so

-- nothing that is known of a path as it opens is wrong
pub truth-opens : (flow : Flow) (settings : Settings) (path : Path) → IsTrueTo flow (opening_path flow settings path)
truth-opens flow settings path = record { place = (refl, refl); anywhere = go (is_absolute flow); known = go (is_absolute flow) }
  where
    go : (b : Bool) → Agrees (if b then absolute_alone else unknown) (opening_path flow settings path)
    go true = (record { motion = tt; incremental = refl; per_rev = tt; feed = tt; tool = tt }, tt, tt)
    go false = unknown-agrees (opening_path flow settings path)

-- what is known is so wherever a path comes to
pub truth-runs : (flow : Flow) (from at : PathView) → IsTrueTo flow from → ComesTo flow from at → IsTrueTo flow at
truth-runs flow from at is here = is
truth-runs flow from at is (on path after way step) = truth-kept flow path after (truth-runs flow from path is way) step
