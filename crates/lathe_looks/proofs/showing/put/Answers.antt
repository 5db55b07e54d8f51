-- For the proof of `put` (src/showing.rt): the report and the state are those of the history that
-- was found.
use Rattle.std.proofs.Common.{sym, subst, ◌∙◌}
use Rattle.nc_verify.specs.Printed.{IsPut}
use Rattle.lathe_looks.proofs.TextsShown.{moves_are, state_is}
use Rattle.lathe_looks.proofs.showing.put.Goals as goal

pub write_state-requires : goal.write_state-requires
write_state-requires g c = let behind = c.requires.behind in record {
  entries = c.args.found.now.entries.items;
  legal = behind.history.legal;
  folds = sym behind.folds ∙ sym behind.bare;
}

pub returns-in-Moves : goal.returns-in-Moves
returns-in-Moves g c =
    let found = c.args.found.now in
    let sink = g.K.Sink.state in
    rw c.in-Moves.is
    (subst (λ text. IsPut (sink c.args.out.now) (sink c.write_report.new.sink) text c.write_report.result)
    (moves_are found.verified found.entries.items found.machine.machine c.reason_of.result c.requires.behind.folds c.reason_of.ensures)
    c.write_report.ensures)

pub returns-in-State : goal.returns-in-State
returns-in-State g c =
    let found = c.args.found.now in
    let sink = g.K.Sink.state in
    rw c.in-State.is
    (subst (λ text. IsPut (sink c.args.out.now) (sink c.write_state.new.sink) text c.write_state.result)
    (state_is found.verified found.entries.items found.machine.machine c.requires.behind.folds) c.write_state.ensures)
