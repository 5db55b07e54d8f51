-- The arguments of a macro call are those of the definition, or the call stops for the same cause
-- (src/decision.rt).
use Rattle.std.proofs.Common.{Ok, Err}
use Rattle.path_state.proofs.Decided.{arguments_said}
use Rattle.path_state.proofs.path.PathState.arguments_said.Goals as goal

pub returns-in-Ok : goal.returns-in-Ok
returns-in-Ok c tape control =
    arguments_said {A = Unit {0}} tape c.args.self.now c.args.words.now.words control c.args.reads.now c.arguments_taken-taken.new.arguments (Ok tt) _
    (rw (c.in-Ok.is, c.as_slice.ensures) at c.arguments_taken-taken.ensures)

pub returns-in-Err : goal.returns-in-Err
returns-in-Err c tape control =
    arguments_said {A = Unit {0}} tape c.args.self.now c.args.words.now.words control c.args.reads.now c.arguments_taken-taken.new.arguments (Err c.in-Err.stop) _
    (rw (c.in-Err.is, c.as_slice.ensures) at c.arguments_taken-taken.ensures)
