-- What the definition gives for the blocks that are left, after the lines so far, is the answer (loop
-- of `run_answer`, src/taper.rt).
use Rattle.std.proofs.Common.{◌≡◌, [], drop}
use Rattle.thread_form.specs.Taper.{run_from, said_before}
use Rattle.thread_form.proofs.taper.run_answer.Given as goal

abbrev pub invariant-loop-block : goal.invariant-loop-block
invariant-loop-block l =
    run_from (drop l.block-index l.blocks) l.start l.scene l.settings l.said l.lines.items ≡ run_from l.blocks l.start l.scene l.settings (said_before l.scene) []
