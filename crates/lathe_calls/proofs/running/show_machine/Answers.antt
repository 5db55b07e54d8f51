-- For the proof of `show_machine` (src/running.rt): the state of the machine after the history is
-- written, with status 0; or memory ran out.
use Rattle.std.proofs.Common.{refl, sym, ◌∙◌}
use Rattle.lathe_calls.proofs.Ended.{ends_put, ends_unwritten}
use Rattle.lathe_calls.proofs.running.show_machine.Goals as goal

pub write_state-requires : goal.write_state-requires
write_state-requires g c = record {
  entries = c.args.entries.now.items;
  legal = c.requires.legal;
  folds = sym (c.in-Ok.ensures.no_reads ∙ c.in-Ok.ensures.machine);
}

pub returns-in-Ok : goal.returns-in-Ok
returns-in-Ok g c =
    rw (c.status_behind.ensures)
    (ends_put 0 c.write_state.result refl (rw (c.in-Ok.ensures.machine) at c.write_state.ensures))

pub returns-in-Err : goal.returns-in-Err
returns-in-Err g c = ends_unwritten _ _ _ refl
