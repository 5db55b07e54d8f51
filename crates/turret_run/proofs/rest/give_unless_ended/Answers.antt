-- For the proof of `give_unless_ended` (src/rest.rt): a path that has not ended gets a turn, whose
-- answer its turret serves.
use Rattle.std.proofs.Common.{sym, subst}
use Rattle.path_worker.specs.declared.worker.Why.{Why}
use Rattle.run_table.specs.Holding.{told_since}
use Rattle.turret_run.specs.Rests.{ServesBehind}
use Rattle.turret_run.proofs.ServedOn.{with_none}
use Rattle.turret_run.proofs.rest.give_unless_ended.Goals as goal

pub returns-in-Halted-clause-serves : goal.returns-in-Halted-clause-serves
returns-in-Halted-clause-serves g c =
    let old = told_since g.O.Opening.opened c.args.table.now c.args.path in
    let new = told_since g.O.Opening.opened c.give_turn.new.table c.args.path in
    subst (λ (w : Why). ServesBehind w old c.args.driven.now new c.give_turn.new.driven) (sym c.in-Halted.is) (with_none old new c.args.driven.now c.give_turn.new.driven c.give_turn.ensures.serves)
