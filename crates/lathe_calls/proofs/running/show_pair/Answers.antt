-- For the proof of `show_pair` (src/running.rt): the state of the machine after the run of the pair
-- is written; or memory ran out.
use Rattle.lathe_calls.proofs.Ended.{ends_by, ends_untold}
use Rattle.lathe_calls.specs.Due.{unran}
use Rattle.lathe_calls.proofs.PairTold.{state_told}
use Rattle.lathe_calls.proofs.running.show_pair.Goals as goal

pub returns-in-Ok : goal.returns-in-Ok
returns-in-Ok g c = ends_by _ (state_told c.args.limit c.args.pair.now _ c.in-Ok.ensures.turns) c.show_machine.ensures

pub returns-in-Err : goal.returns-in-Err
returns-in-Err g c = ends_untold _ unran
