-- How what the code decided of a statement (src/writing.rt) is read as the statement's effect. For
-- the contracts of src/statements.rt.
use Rattle.std.specs.Prelude.{ℕ, List, [], Option, Some, None, Result, Ok, Err}
use Rattle.nc_number.specs.declared.value.Var.{Var}
use Rattle.block_values.specs.declared.outcome.Stop.{Stop}
use Rattle.block_values.specs.declared.outcome.Stop.TheVariants.{Needs, Alarms}
use Rattle.path_state.specs.declared.writing.Writing.{Writing}
use Rattle.path_state.specs.declared.writing.StatementStep.{StatementStep}
use Rattle.path_state.specs.declared.writing.StatementStep.TheVariants.{Write, Next, To}
use Rattle.path_state.specs.View.{Fixed, PathView}
use Rattle.block_values.specs.Outcomes.{Outcome, Gives, ◌>>=◌}
use Rattle.path_state.specs.Said.{value_of_tree}
use Rattle.common_vars.specs.declared.variable.Variable.{Variable}
use Rattle.macro_expr.specs.Tree.{Tree}
use Rattle.block_order.specs.Moves.{place_behind, place_at}
use Rattle.path_state.specs.Statements as statements
use Rattle.path_state.specs.Statements.{After, after_move, outcome_of_write, then_next}
use Rattle.path_state.specs.Effect.{Effect, Need, Done, Alarm}
use Rattle.path_state.specs.Writings.{after_change}

-- the path behind a writing of the code, and what that wrote to a shared variable
abbrev pub after_writing : PathView → Writing → After
after_writing path writing = after_change path writing.change

-- the path behind what was decided of a statement: a variable took a value and the next block
-- follows, or control goes somewhere
abbrev pub after_step : PathView → StatementStep → After
after_step path (Write writing) = then_next (after_writing path writing)
after_step path Next = after_move path (place_behind path.place)
after_step path (To block) = after_move path (place_at block path.place)

-- the effect of a statement that is done; it makes no moves
abbrev pub done_at : After → Effect
done_at after = Done after.path after.write []

-- what was decided of a statement, or the need or alarm at which it stopped, as an effect
abbrev pub step_seen : PathView → Result StatementStep Stop → Effect
step_seen path (Ok step) = done_at (after_step path step)
step_seen path (Err (Needs variable)) = Need variable
step_seen path (Err (Alarms number value)) = Alarm number value

-- what was written to a shared variable, from the code's pair of its number and its value
abbrev pub write_seen : Option (ℕ × Var) → Option statements.Write
write_seen None = None
write_seen (Some write) = Some (record { variable = write.0; value = write.1 })

-- an assignment whose left side is known: the variable takes the value of an expression, and the
-- next block follows
abbrev pub taken_next : Fixed → PathView → Variable → Tree → List Var → Outcome After
taken_next fixed path variable tree reads =
    value_of_tree fixed path tree reads >>= λ value left.
    outcome_of_write fixed path variable value left >>= λ after rest. Gives (then_next after) rest
