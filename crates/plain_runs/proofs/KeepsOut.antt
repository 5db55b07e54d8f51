-- A path that does plain blocks which were proved clear enters no contour.
use Rattle.std.proofs.Common.{◌≡◌, Bool, true, false, List, [], ◌∷◌, ◌++◌, Option, Some, None, ℤ, refl, subst}
use Rattle.std.specs.Int.{is_negative}
use Rattle.nc_number.specs.Arithmetic.{is_zero}
use Rattle.nc_number.specs.declared.point.Point.{Point}
use Rattle.nc_moves.specs.declared.motion.Move.{Move}
use Rattle.block_order.specs.declared.program.ControlProgram.{ControlProgram}
use Rattle.block_forms.specs.declared.words.FlowWords.{FlowWords}
use Rattle.rough_cycle.specs.declared.block.PlainBlock.{PlainBlock}
use Rattle.rough_cycle.specs.Moves.{point_after, IsClear, AreClear}
use Rattle.path_state.specs.View.{PathView}
use Rattle.known_state.specs.Agreement.{shift_under}
use Rattle.plain_runs.specs.Runs.{IsThere, plain_moves, RunsAs, DoesAll, none, more, AreWordsOf, KeepOut}
use Rattle.plain_runs.proofs.PlainRuns.{block-runs}

-- behind the move of a plain block, clear, others keep out from where it leads
first-keeps : (p : Point) (points : List Point) (shift from : Point) (feed : ℤ) (per_rev : Bool) (b : PlainBlock) (rest : List Move)
    → IsClear p points from (point_after from b) → KeepOut p points shift (point_after from b) rest
    → KeepOut p points shift from (plain_moves shift from feed per_rev b ++ rest)
first-keeps p points shift from feed per_rev b rest clear keeps = go b.cuts b.x b.z clear keeps
  where
    go : (cuts : Bool) (x z : Option ℤ) → IsClear p points from (point_after from (record { cuts = cuts; x = x; z = z }))
        → KeepOut p points shift (point_after from (record { cuts = cuts; x = x; z = z })) rest
        → KeepOut p points shift from (plain_moves shift from feed per_rev (record { cuts = cuts; x = x; z = z }) ++ rest)
    go cuts None None clear keeps = keeps
    go true (Some x) None clear keeps = (point_after from (record { cuts = true; x = Some x; z = None }), refl, clear, keeps)
    go true None (Some z) clear keeps = (point_after from (record { cuts = true; x = None; z = Some z }), refl, clear, keeps)
    go true (Some x) (Some z) clear keeps = (point_after from (record { cuts = true; x = Some x; z = Some z }), refl, clear, keeps)
    go false (Some x) None clear keeps = (point_after from (record { cuts = false; x = Some x; z = None }), refl, clear, keeps)
    go false None (Some z) clear keeps = (point_after from (record { cuts = false; x = None; z = Some z }), refl, clear, keeps)
    go false (Some x) (Some z) clear keeps = (point_after from (record { cuts = false; x = Some x; z = Some z }), refl, clear, keeps)

-- a path that does plain blocks which were proved clear keeps out of the contour
pub all-keep : (tape : List ControlProgram) (path after : PathView) (all : List FlowWords) (blocks : List PlainBlock)
    (moves : List Move) (p from : Point) (points : List Point) (feed : ℤ) → AreWordsOf feed all blocks
    → is_negative feed ≡ false → is_zero feed ≡ false → IsThere from path → AreClear p points from blocks
    → DoesAll tape path all after moves → KeepOut p points (shift_under path.modal path.offsets) from moves
all-keep tape path after all blocks moves p from points feed are positive fed there clear (none own) = tt
all-keep tape path after all [] moves p from points feed are positive fed there clear (more own mid end words rest reads write first others e does) = absurd are
all-keep tape path after all (b ∷ blocks) moves p from points feed are positive fed there clear (more own mid end words rest reads write first others e does) =
    let runs = subst (RunsAs path from feed b) e (block-runs tape path reads words from feed b are.0 positive fed there) in
    rw (runs.0)
    (first-keeps p points (shift_under path.modal path.offsets) from feed path.modal.per_rev b others clear.0
    (subst (λ shift. KeepOut p points shift (point_after from b) others) runs.3
    (all-keep tape mid after rest blocks others p (point_after from b) points feed are.1 positive fed runs.2 clear.1 does)))
