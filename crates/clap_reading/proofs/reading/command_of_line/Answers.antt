-- A line of words that `clap` takes has the command of the subcommand that was met; a line with an
-- error has none (`command_of_line`, src/reading.rt).
use Rattle.std.proofs.Common.{◌∙◌, ap, map}
use Rattle.clap_reading.specs.ClapReading.{fault_by}
use Rattle.clap_reading.proofs.FromMatches.{line_refused, line_taken}
use Rattle.clap_reading.proofs.reading.command_of_line.Goals as goal

pub returns-in-Ok : goal.returns-in-Ok
returns-in-Ok c =
    line_taken (map (λ s. s.now) c.args.line.now) c.in_ok-program.field-0 c.in-Ok.found c.command_met.result
    c.in_ok-program.ensures c.in-Ok.ensures.kinds c.in-Ok.ensures.matches c.command_met.ensures

pub returns-in-Err : goal.returns-in-Err
returns-in-Err c =
    line_refused (map (λ s. s.now) c.args.line.now) c.in_ok-program.field-0 c.in-Err.error c.fault_by.result
    c.in_ok-program.ensures c.in-Err.ensures.kinds (c.fault_by.ensures ∙ ap fault_by c.kind.ensures)
