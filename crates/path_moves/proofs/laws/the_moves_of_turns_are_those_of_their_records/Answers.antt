-- Behind any events, the moves of a path in turns are those of the records that these turns make
-- (src/laws.rt).
use Rattle.std.proofs.Common.{ap, sym, ◌∙◌}
use Rattle.two_path.specs.Machine.{opening}
use Rattle.two_path.specs.Histories.{run, history, turns_of}
use Rattle.two_path.specs.Made.{moves_of}
use Rattle.path_moves.proofs.OfTurns.{of_turns}
use Rattle.path_moves.proofs.laws.the_moves_of_turns_are_those_of_their_records.Goals as goal

pub returns : goal.returns
returns c tapes first second before turns path =
    let start = opening first second in
    let now = run tapes start before in
    let kept = (c.histories_are_runs.ensures tapes first second).run before in
    of_turns tapes now path turns kept.lawful
    ∙ ap (λ m. moves_of tapes m path (history tapes now (turns_of turns))) (sym kept.folds)
