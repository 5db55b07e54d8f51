-- `read_tape` reads the blocks by the dialect that the contracts make of the settings
-- (src/reading.rt).
use Rattle.std.proofs.Common.{◌≡◌, map, subst}
use Rattle.nc_number.specs.Answers.{Gives}
use Rattle.tape_flow.specs.Forms.{program_form, programs_read}
use Rattle.tape_flow.specs.Exact.{dialect_of}
use Rattle.tape_flow.proofs.reading.read_tape.Goals as goal

pub returns : goal.returns
returns c =
    let own = c.of-dialect.ensures in
    let same : c.of-dialect.result ≡ dialect_of c.args.settings.now =
    λ i. record { low = own.low i; high = own.high i; bits = own.bits i; system = own.system i } in
    subst
    (λ dialect. Gives (λ read. map program_form read) c.read_programs.result (programs_read dialect c.args.tape.now)) same
    c.read_programs.ensures
