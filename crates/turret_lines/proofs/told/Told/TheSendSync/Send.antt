-- What a turret got, as clauses alone have it, owns nothing, so it may go to another thread
-- (src/told.rt).
use denote.Param.Send.{IsSend, owning_send}
use Rattle.turret_lines.specs.contracts.told.Told.{the_row, the_type}

-- the statement that the tool asks for at `unsafe impl Send`
pub send : IsSend the_row
send = owning_send the_type tt (λ d. tt) (λ k x w. tt)
