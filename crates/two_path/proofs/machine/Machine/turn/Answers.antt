-- The answer with its moves in it is the turn, and no move is too long (src/machine.rt).
use Rattle.std.proofs.Common.{ap, sym, subst, ◌∙◌}
use Rattle.motion_track.specs.declared.targets.TheConstants.{LONGEST}
use Rattle.motion_track.specs.Within.{AreMovesWithin}
use Rattle.two_path.specs.Turns.{tapes_of, turn_of}
use Rattle.two_path.specs.Made.{moves_of_turn}
use Rattle.two_path.proofs.Apart.{is_joined}
use Rattle.two_path.proofs.machine.Machine.turn.Goals as goal

pub returns-clause-turn : goal.returns-clause-turn
returns-clause-turn c =
    c.of.ensures
    ∙ is_joined (turn_of (tapes_of c.args.left.now c.args.right.now) c.args.path c.args.self.now.machine).turn c.turn_into-answer.result.answer c.turn_into-answer.new.moves
    c.turn_into-answer.ensures.answer c.turn_into-answer.ensures.moves

pub returns-clause-moves : goal.returns-clause-moves
returns-clause-moves c =
    subst (AreMovesWithin LONGEST) (c.turn_into-answer.ensures.moves ∙ ap moves_of_turn (sym (returns-clause-turn c))) c.turn_into-answer.ensures.within
