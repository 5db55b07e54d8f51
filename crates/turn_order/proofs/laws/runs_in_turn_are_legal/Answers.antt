-- The records of a run whose paths take turns are a legal history (the law
-- `runs_in_turn_are_legal`, src/laws.rt).
use Rattle.std.proofs.Common.{subst}
use Rattle.nc_number.specs.declared.path.Path.TheVariants.{One}
use Rattle.two_path.specs.Machine.{opening}
use Rattle.two_path.specs.Histories.{IsLegal}
use Rattle.turn_order.specs.InTurn.{in_turn}
use Rattle.turn_order.proofs.laws.runs_in_turn_are_legal.Goals as goal

pub returns : goal.returns
returns c = λ tapes first second limit entries run.
    subst (IsLegal tapes (opening first second)) run.records
    ((c.histories_are_runs.ensures tapes first second).run (in_turn One run.turns)).legal
