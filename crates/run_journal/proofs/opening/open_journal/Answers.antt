-- An opening gives what the bodies hold, with an offset for each record (`open_journal`,
-- src/opening.rt).
use Rattle.std.proofs.Common.{◌+◌, length, sym, ap, subst, Ok}
use Rattle.gate_file.specs.Gate.{Gate}
use Rattle.gate_file.specs.Opening.{Finds}
use Rattle.run_records.specs.Headers.{header_bytes}
use Rattle.run_journal.specs.Kept.{Log}
use Rattle.run_journal.specs.Reading.{IsContents}
use Rattle.run_journal.proofs.Openings.{run_found}
use Rattle.run_journal.proofs.Places.{as_many_found}
use Rattle.run_journal.proofs.opening.open_journal.Goals as goal

pub returns-in-Ok-read_contents-clause-finds : goal.returns-in-Ok-read_contents-clause-finds
returns-in-Ok-read_contents-clause-finds g c =
    let d = g.D.Disk.state in
    let found = c.in-Ok-read_contents.field-0 in
    let bodies = c.in-Ok-open_file.bodies in
    let same = ap (λ (log : Log g.row.D.Denot). log.file) (sym c.over.ensures) in
    let finds = subst (λ (gate : Gate g.row.D.Denot). Finds (d c.args.disk) (d gate.disk) (Ok (bodies, gate.end))) same c.in-Ok-open_file.ensures.finds in
    let version = ap (λ (log : Log g.row.D.Denot). log.version) (sym c.over.ensures) in
    let contents = subst (λ v. IsContents found.header v found.entries.items found.offsets bodies) version c.in-Ok-read_contents.ensures.contents in
    run_found (d c.args.disk) (d c.over.result.file.disk) bodies c.over.result.file.end finds found.header c.over.result.version found.entries.items found.offsets contents

pub returns-in-Ok-read_contents-clause-as_many : goal.returns-in-Ok-read_contents-clause-as_many
returns-in-Ok-read_contents-clause-as_many g c =
    let found = c.in-Ok-read_contents.field-0 in
    let is = c.in-Ok-read_contents.ensures.contents in
    as_many_found (5 + length (header_bytes found.header)) is.pieces found.entries.items found.offsets is.run.joins is.offsets_are
