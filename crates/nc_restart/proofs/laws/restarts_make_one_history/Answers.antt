-- Over any restarts and stops, restarts that are stopped among them, the records are one history of
-- one pair: each image stands for a history that begins with all that the restart before it found
-- (the law `restarts_make_one_history`, src/laws.rt).
use Rattle.nc_number.specs.declared.path.Path.TheVariants.{One, Two}
use Rattle.path_state.specs.Opening.{opening_path}
use Rattle.nc_restart.specs.Pair.{tapes_in}
use Rattle.nc_restart.proofs.OneHistory.{one_history}
use Rattle.nc_restart.proofs.laws.restarts_make_one_history.Goals as goal

pub returns : goal.returns
returns c =
    one_history
    (record {
      apart = c.accepted_texts_are_not_refused.ensures;
      one = c.a_journal_stands_for_one_thing.ensures;
      bodies = c.a_file_stands_for_one_thing.ensures.bodies;
    })
    (λ pair. c.each_event_keeps_the_history.ensures (tapes_in pair) (opening_path pair.left pair.settings One) (opening_path pair.right pair.settings Two))
    (λ pair. c.histories_are_runs.ensures (tapes_in pair) (opening_path pair.left pair.settings One) (opening_path pair.right pair.settings Two))
