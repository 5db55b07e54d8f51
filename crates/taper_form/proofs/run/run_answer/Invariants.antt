-- What the definition gives for the blocks that are left, after the lines so far, is the answer (loop
-- of `run_answer`, src/run.rt).
use Rattle.std.proofs.Common.{◌≡◌, [], drop}
use Rattle.thread_form.specs.Taper.{said_before}
use Rattle.taper_form.specs.Runs.{run_from}
use Rattle.taper_form.proofs.run.run_answer.Given as goal

abbrev pub invariant-loop-block : goal.invariant-loop-block
invariant-loop-block l =
    run_from (drop l.block-index l.blocks) l.kind l.scene.system l.start l.said l.lines.items ≡ run_from l.blocks l.kind l.scene.system l.start (said_before l.scene) []
