-- Two tapes, each of which comes to one list of labels: if no part of one may write a shared
-- variable that the same part of the other names, all runs that finish agree. For the law
-- `race_free_runs_agree` (src/laws.rt).
use Rattle.std.proofs.Common.{◌≡◌, ℕ, Bool, true, List, [], ◌∷◌, Option, Some, None, refl, ap, sym, subst, ◌∙◌}
use Rattle.std.proofs.lemmas.Bool.{or_left}
use Rattle.nc_number.specs.declared.value.Var.{Var}
use Rattle.nc_moves.specs.declared.motion.Move.{Move}
use Rattle.block_order.specs.declared.frame.Frame.{Frame}
use Rattle.block_order.specs.Labels.{IsUnforked}
use Rattle.block_forms.specs.declared.block.FlowBlock.{FlowBlock}
use Rattle.block_forms.specs.declared.body.FlowBody.{FlowBody}
use Rattle.block_forms.specs.declared.body.FlowBody.TheVariants.{Words, Statement}
use Rattle.macro_expr.specs.Tree.{trees_of_sentence, sentence_of}
use Rattle.tape_flow.specs.declared.flow.Flow.{Flow}
use Rattle.tape_flow.specs.Places.{flow_block}
use Rattle.path_state.specs.View.{PathView}
use Rattle.path_state.specs.Looks.{is_shared}
use Rattle.path_state.specs.Statements.{Write as Written}
use Rattle.path_state.specs.Effect.{effect_of}
use Rattle.path_state.specs.Effect as effect
use Rattle.path_state.specs.Controlled.{GoesAsOrdered, KeepsFixed}
use Rattle.path_state.proofs.ControlledFlow.{steady}
use Rattle.path_state.proofs.ControlledWrites.{shared_written}
use Rattle.path_state.proofs.NeedsWords.{needed_shared}
use Rattle.two_path.specs.Turns.{blocks_of}
use Rattle.part_order.specs.Parts.{IsInPart, IsReached, starts, steps, passes}
use Rattle.part_order.proofs.Standing.{reached_stands, stands_in_parts}
use Rattle.named_vars.specs.Names.{sentence_may_write, some_names, body_names, body_may_write, found_names, found_may_write}
use Rattle.race_order.specs.Races.{PartNames, PartMayWrite, HasNoRace}
use Rattle.race_order.specs.Agreement.{IsBeginning, RaceFreeRunsAgree, RaceFreeRunsGoAlike}
use Rattle.race_order.proofs.Machines.{Known, path_of}
use Rattle.race_order.proofs.Together.{IsFree}
use Rattle.named_vars.proofs.NeedsNamed.{needs_are_named}
use Rattle.named_vars.proofs.WritesMarked.{writes_are_marked}
use Rattle.race_order.proofs.GoAlike.{runs_go_alike}
use Rattle.race_order.proofs.Runs.{runs_agree}

-- what a block may write, it names
pub may_named : (found : Option FlowBlock) (v : ℕ) → found_may_write found v ≡ true → found_names found v ≡ true
may_named None v e = absurd cc
may_named (Some block) v e = go block.body e
  where
    go : (body : FlowBody) → body_may_write body v ≡ true → body_names body v ≡ true
    go (Words words) e = absurd cc
    go (Statement s) e = or_left (sentence_may_write (sentence_of s.statement) v) (some_names (trees_of_sentence (sentence_of s.statement)) v) e

-- behind n waits the path is at this place, and shares these variables
pub record IsThere (flow : Flow) (shared : ℕ → Bool) (n : ℕ) (path : PathView) : Type 0 where
  pub reached : IsReached flow.order n path.place
  pub shares : (v : ℕ) → is_shared path.fixed v ≡ shared v

-- at a place that is reached some block stands, and it is in the part
in_its_part : (flow : Flow) → IsUnforked flow.order → (n : ℕ) (place : List Frame) → IsReached flow.order n place
    → (f : Frame) × (stack : List Frame) × (place ≡ f ∷ stack) × IsInPart flow.order n f.program f.block
in_its_part flow un n [] reached = absurd ((reached_stands flow.order un n [] reached).0)
in_its_part flow un n (f ∷ stack) reached = (f, stack, refl, stands_in_parts flow.order un n f stack reached)

-- what part n of a flow names of the shared variables
abbrev pub Names : Flow → (ℕ → Bool) → ℕ → ℕ → Type 0
Names flow shared n v = (shared v ≡ true) × PartNames flow n v

-- what part n of a flow may write of the shared variables
abbrev pub MayWrite : Flow → (ℕ → Bool) → ℕ → ℕ → Type 0
MayWrite flow shared n v = (shared v ≡ true) × PartMayWrite flow n v

-- A flow all of whose runs come to one list of labels (`un`), the variables that both paths share,
-- and its path behind n waits, whose block has read `vs`.
module _ (flow : Flow) (un : IsUnforked flow.order) (shared : ℕ → Bool) (n : ℕ) (path : PathView) (vs : List Var) where
  -- a variable that a block of part n needs is one that the part names
  pub named : (v : ℕ) → IsThere flow shared n path → effect_of flow path vs ≡ effect.Need v → Names flow shared n v
  named v there is =
      let at = in_its_part flow un n path.place there.reached in (
        sym (there.shares v) ∙ needed_shared flow path vs v is,
        (at.0.program, at.0.block, at.3, needs_are_named flow path vs at.0 at.1 v at.2 is),
      )

  -- a variable that a block of part n writes is one that the part may write
  pub written : (after : PathView) (w : Written) (moves : List Move) → IsThere flow shared n path
      → effect_of flow path vs ≡ effect.Done after (Some w) moves → MayWrite flow shared n w.variable
  written after w moves there is =
      let at = in_its_part flow un n path.place there.reached in (
        sym (there.shares w.variable) ∙ shared_written flow path vs after w moves is,
        (at.0.program, at.0.block, at.3, writes_are_marked flow path after vs at.0 at.1 w moves at.2 is),
      )

  -- behind a block of part n that is done the path still stands in the part
  pub goes_on : (after : PathView) (w : Option Written) (moves : List Move) → IsThere flow shared n path
      → effect_of flow path vs ≡ effect.Done after w moves → IsThere flow shared n after
  goes_on after w moves there is =
      let goes : GoesAsOrdered flow.order path (effect.Done after w moves) = subst (GoesAsOrdered flow.order path) is (steady flow path vs).goes in
      let keeps : KeepsFixed path (effect.Done after w moves) = subst (KeepsFixed path) is (steady flow path vs).keeps in
      record {
        reached = steps n path.place after.place there.reached goes;
        shares = λ v. ap (λ fixed. is_shared fixed v) keeps ∙ there.shares v;
      }

-- the blocks of a flow, with what each part of it names and may write
abbrev pub known_of : (flow : Flow) → IsUnforked flow.order → (ℕ → Bool) → Known (blocks_of flow)
known_of flow un shared = record {
  names = Names flow shared;
  may = MayWrite flow shared;
  In = IsThere flow shared;
  may_named = λ n v is. (is.0, (is.1.0, is.1.1, is.1.2, may_named (flow_block flow.programs is.1.0 is.1.1) v is.1.3));
  named = λ n path vs v there is. named flow un shared n path vs v there is;
  written = λ n path after vs w moves there is. written flow un shared n path vs after w moves there is;
  goes = λ n path after vs w moves there is. goes_on flow un shared n path vs after w moves there is;
  passes = λ n code path vs there is. record {
    reached = passes n code path.place there.reached (subst (GoesAsOrdered flow.order path) is (steady flow path vs).goes);
    shares = there.shares;
  };
}

-- a path at its beginning stands in part 0
begins : (flow : Flow) (shared : ℕ → Bool) (path : PathView) → IsBeginning flow shared path → IsThere flow shared 0 path
begins flow shared path b = record {
  reached = subst (IsReached flow.order 0) (sym b.place) starts;
  shares = b.shares;
}

-- a pair without a race writes nothing in a part that the other path names in it
no_race : (left right : Flow) (ul : IsUnforked left.order) (ur : IsUnforked right.order) (shared : ℕ → Bool) → HasNoRace shared left right
    → IsFree (path_of (blocks_of left) (known_of left ul shared)) (path_of (blocks_of right) (known_of right ur shared))
no_race left right ul ur shared free = record {
  first = λ n v may named. free.first n v (record { is_shared = may.0; writes = may.1; names = named.1 });
  second = λ n v may named. free.second n v (record { is_shared = may.0; writes = may.1; names = named.1 });
}

-- if no part has a race and each flow comes to one list of labels, all runs of both that finish
-- agree
pub race_free_agree : (left right : Flow) → IsUnforked left.order → IsUnforked right.order → RaceFreeRunsAgree left right
race_free_agree left right ul ur shared free first second here there turns others done also =
    runs_agree (blocks_of left) (blocks_of right) (known_of left ul shared) (known_of right ur shared)
    (no_race left right ul ur shared free) first second
    (begins left shared first here) (begins right shared second there)
    turns others done also

-- if no part has a race and each flow comes to one list of labels, all runs of both go alike
pub race_free_go_alike : (left right : Flow) → IsUnforked left.order → IsUnforked right.order → RaceFreeRunsGoAlike left right
race_free_go_alike left right ul ur shared free first second here there turns others =
    runs_go_alike (blocks_of left) (blocks_of right) (known_of left ul shared) (known_of right ur shared)
    (no_race left right ul ur shared free) first second
    (begins left shared first here) (begins right shared second there)
    turns others
