-- Plain blocks run as their moves, and keep out of the contour (src/laws.rt).
use Rattle.plain_runs.proofs.PlainRuns.{block-runs}
use Rattle.plain_runs.proofs.KeepsOut.{all-keep}
use Rattle.plain_runs.proofs.KnownThere.{known-there}
use Rattle.plain_runs.proofs.InRuns.{in-runs}
use Rattle.plain_runs.proofs.laws.plain_blocks_run_as_their_moves.Goals as goal

pub returns-clause-moves : goal.returns-clause-moves
returns-clause-moves c = block-runs

pub returns-clause-clear : goal.returns-clause-clear
returns-clause-clear c = all-keep

pub returns-clause-runs : goal.returns-clause-runs
returns-clause-runs c = in-runs

pub returns-clause-known : goal.returns-clause-known
returns-clause-known c = known-there
