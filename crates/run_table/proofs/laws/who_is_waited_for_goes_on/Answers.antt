-- While a path waits, the other one's turn is that of a block (src/laws.rt).
use Rattle.run_table.specs.Kept.{tapes_in}
use Rattle.run_table.proofs.OtherGoesOn.{other_goes_on}
use Rattle.run_table.proofs.laws.who_is_waited_for_goes_on.Goals as goal

pub returns : goal.returns
returns c = λ verified entries machine path code kept waits.
    other_goes_on (tapes_in verified) machine (c.kept_paths_are_not_stuck.ensures verified entries machine kept) path code waits
