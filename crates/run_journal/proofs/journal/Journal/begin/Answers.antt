-- A journal is begun or refused as its file of gates is (`Journal::begin`, src/journal.rt).
use Rattle.std.proofs.Common.{◌≡◌, [], ◌∷◌, sym, ap, subst, ◌∙◌, Ok}
use Rattle.gate_file.specs.Creation.{Begins}
use Rattle.gate_file.specs.Gate.{Gate}
use Rattle.run_records.specs.Headers.{header_bytes}
use Rattle.run_journal.specs.Kept.{Log}
use Rattle.run_journal.proofs.Beginnings.{begun, not_begun}
use Rattle.run_journal.proofs.journal.Journal.begin.Goals as goal

pub returns-in-Ok-create-clause-begun : goal.returns-in-Ok-create-clause-begun
returns-in-Ok-create-clause-begun g c =
    let d = g.D.Disk.state in
    let body : c.deref.result.now ≡ header_bytes c.args.header.now = c.deref.ensures.value ∙ c.in-Ok-put_header.ensures in
    let same = ap (λ (log : Log g.row.D.Denot). log.file) (sym c.over.ensures) in
    let begins = subst (λ (gate : Gate g.row.D.Denot). Begins (c.deref.result.now ∷ []) (d c.args.disk) (d gate.disk) (Ok gate)) same c.in-Ok-create.ensures.begun in
    begun c.args.header.now c.requires c.deref.result.now body (d c.args.disk) (d c.over.result.file.disk) c.over.result c.over.result.file begins

pub returns-in-Err-clause-begun : goal.returns-in-Err-clause-begun
returns-in-Err-clause-begun g c =
    let d = g.D.Disk.state in
    let body : c.deref.result.now ≡ header_bytes c.args.header.now = c.deref.ensures.value ∙ c.in-Ok-put_header.ensures in
    not_begun c.args.header.now c.requires c.deref.result.now body (d c.args.disk) (d c.in-Err.refused.0) c.in-Err.refused.1 c.in-Err.ensures.begun
