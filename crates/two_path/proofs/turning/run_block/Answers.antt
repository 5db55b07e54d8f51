-- A turn in which the block runs: what its call of `settle` requires, the turn's answer, moves and
-- record, and the machine after it (src/turning.rt).
use Rattle.std.proofs.Common.{sym, ◌∙◌}
use Rattle.path_state.specs.Effect.{effect_of}
use Rattle.tape_flow.specs.Places.{line_at}
use Rattle.two_path.specs.Joined.{machine_of}
use Rattle.two_path.proofs.Apart.{by_effect}
use Rattle.two_path.proofs.turning.run_block.Goals as goal

pub settle-requires-clause-taken : goal.settle-requires-clause-taken
settle-requires-clause-taken c =
    (c.args.me.now, (c.advance-answer.new.moves, (c.requires.shared, c.advance-answer.ensures.taken)))

pub returns-clause-answer : goal.returns-clause-answer
returns-clause-answer c =
    c.settle.ensures.answer c.args.me.now c.advance-answer.new.moves (sym c.line-line.ensures) c.advance-answer.ensures.taken

pub returns-clause-machine : goal.returns-clause-machine
returns-clause-machine c =
    c.settle.ensures.machine c.args.me.now c.advance-answer.new.moves (sym c.line-line.ensures) c.advance-answer.ensures.taken

pub returns-clause-entry : goal.returns-clause-entry
returns-clause-entry c =
    c.settle.ensures.entry c.args.me.now c.advance-answer.new.moves (sym c.line-line.ensures) c.advance-answer.ensures.taken

pub returns-clause-moves : goal.returns-clause-moves
returns-clause-moves c =
    c.advance-answer.ensures.moves.are
    ∙ by_effect c.args.path (line_at c.args.flow.now.order c.args.me.now.path.place) (machine_of c.args.me.now c.args.other.now c.args.joint.now)
    (effect_of c.args.flow.now c.args.me.now.path c.args.me.now.values)
