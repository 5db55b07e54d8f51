-- The law of one path, put together from its parts. For the law `each_step_keeps_the_labels` of
-- src/laws.rt.
use Rattle.std.proofs.Common.{List}
use Rattle.block_order.specs.declared.program.ControlProgram.{ControlProgram}
use Rattle.block_order.specs.Labels.{IsUnforked}
use Rattle.block_order.specs.Steps.{KeepsLabels}
use Rattle.block_order.proofs.LoudReaches.{are_loud}
use Rattle.block_order.proofs.KeepsLabels.{keeps}
use Rattle.block_order.proofs.StepsStay.{goes_stays, next_stays, wait_first, end_only}

-- In an unforked tape each step keeps the labels ahead, as `KeepsLabels` says.
pub keeps_labels : (tape : List ControlProgram) → IsUnforked tape → KeepsLabels tape
keeps_labels tape un = record {
  step = λ f stack place c is to goes.
      (goes_stays tape f stack place c is to goes, keeps tape (are_loud tape) un f stack place c is to goes);
  wait = λ place code at is. (next_stays tape place at, wait_first tape (are_loud tape) place code is);
  ends = λ place at is. end_only tape (are_loud tape) place is;
}
