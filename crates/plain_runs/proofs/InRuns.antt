-- In each run a path that comes to plain blocks which were proved clear keeps out of the contour.
use Rattle.std.proofs.Common.{◌≡◌, false, List, ◌∷◌, ℤ, ap, sym, subst, ◌∙◌}
use Rattle.std.specs.Int.{is_negative}
use Rattle.nc_number.specs.Arithmetic.{is_zero}
use Rattle.nc_number.specs.declared.path.Path.{Path}
use Rattle.nc_number.specs.declared.point.Point.{Point}
use Rattle.nc_moves.specs.declared.motion.Move.{Move}
use Rattle.cell_settings.specs.declared.settings.Settings.{Settings}
use Rattle.block_order.specs.declared.frame.Frame.{Frame}
use Rattle.block_forms.specs.declared.words.FlowWords.{FlowWords}
use Rattle.block_forms.specs.declared.body.FlowBody.TheVariants.{Words}
use Rattle.tape_flow.specs.declared.flow.Flow.{Flow}
use Rattle.rough_cycle.specs.declared.block.PlainBlock.{PlainBlock}
use Rattle.rough_cycle.specs.Moves.{AreClear}
use Rattle.path_state.specs.View.{PathView}
use Rattle.path_state.specs.Opening.{opening_path}
use Rattle.path_state.specs.Effect.{effect_of_body, effect_of_block}
use Rattle.known_state.specs.Agreement.{shift_under}
use Rattle.known_state.specs.Before.{known_before}
use Rattle.known_state.specs.Runs.{IsAsKnown, ComesTo}
use Rattle.known_state.proofs.Truth.{truth-opens, truth-runs}
use Rattle.plain_runs.specs.Runs.{DoesAll, none, more, DoesPart, no_more, one, IsKnownStart, AreWordsOf, KeepOut}
use Rattle.plain_runs.proofs.KeepsOut.{all-keep}
use Rattle.plain_runs.proofs.KnownThere.{known-there}

-- the blocks of a flow that a path does are done one after the other
part-does : (flow : Flow) (path after : PathView) (all : List FlowWords) (moves : List Move) → DoesPart flow path all after moves
    → DoesAll flow.order path all after moves
part-does flow path after all moves (no_more own) = none path
part-does flow path after all moves (one own mid end block words rest reads write first others found body control e does) =
    let found_as = ap (λ b. effect_of_block flow.order path b reads) found in
    let worded = ap (λ b. effect_of_body flow.order path.fixed path b block.control reads) body in
    let going_on = ap (λ c. effect_of_body flow.order path.fixed path (Words words) c reads) control in
    more path mid after words rest reads write first others (sym (found_as ∙ (worded ∙ going_on)) ∙ e)
    (part-does flow mid after rest others does)

-- where the text says that a path stands at the start of such blocks, it enters no contour by them
pub in-runs : (flow : Flow) (settings : Settings) (path : Path) (at after : PathView) (f : Frame) (stack : List Frame)
    (all : List FlowWords) (blocks : List PlainBlock) (moves : List Move) (p from : Point) (points : List Point) (feed : ℤ)
    → ComesTo flow (opening_path flow settings path) at → at.place ≡ f ∷ stack
    → IsKnownStart (known_before flow f.program f.block) from → AreWordsOf feed all blocks
    → is_negative feed ≡ false → is_zero feed ≡ false → AreClear p points from blocks
    → DoesPart flow at all after moves → KeepOut p points (shift_under at.modal at.offsets) from moves
in-runs flow settings path at after f stack all blocks moves p from points feed comes place start are positive fed clear does =
    let is_true = truth-runs flow (opening_path flow settings path) at (truth-opens flow settings path) comes in
    let agrees = subst (IsAsKnown flow at) place is_true.known in
    let there = known-there (known_before flow f.program f.block) at from agrees start.across start.along start.absolute in
    all-keep flow.order at after all blocks moves p from points feed are positive fed there clear
    (part-does flow at after all moves does)
