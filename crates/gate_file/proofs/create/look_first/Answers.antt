-- An open first gate, in a file of more than one byte, is a run; else it is known what stands first
-- (`look_first`, src/create.rt).
use Rattle.std.proofs.Common.{◌≡◌, ◌<◌, length, sym, ◌∙◌, arith}
use Rattle.disk_model.proofs.Runs.{unwritten_look, unwritten_more, settled_kept}
use Rattle.gate_file.proofs.Beginning.{first_read, is_shut, not_shut}
use Rattle.gate_file.proofs.create.look_first.Goals as goal

pub returns-then-gate-ne0-clause-refused : goal.returns-then-gate-ne0-clause-refused
returns-then-gate-ne0-clause-refused g c =
    let d = g.D.Disk.state in
    let whole = g.met.D.Disk.coherent in
    let first = unwritten_look (d c.args.disk.now) (d c.sync.new.self) (whole c.sync.new.self) c.sync.ensures.looks in
    let second = unwritten_look (d c.sync.new.self) (d c.len.new.self) (whole c.len.new.self) c.len.ensures.looks in
    let third = unwritten_look (d c.len.new.self) (d c.read_at.new.self) (whole c.read_at.new.self) c.read_at.ensures.looks in
    let later = unwritten_more (d c.sync.new.self) (d c.len.new.self) (d c.read_at.new.self) second third in (
      unwritten_more (d c.args.disk.now) (d c.sync.new.self) (d c.read_at.new.self) first later,
      settled_kept (d c.sync.new.self) (d c.read_at.new.self) later c.in_ok-sync.ensures.settled,
      λ bytes reads.
          let synced = c.sync.ensures.looks.same ∙ reads in
          let size : c.in_ok-len.field-0 ≡ length bytes = c.in_ok-len.ensures.size bytes synced in
          let long : 1 < length bytes = omega (arith, size, c.if-branch-le1.false) in
          let here = c.len.ensures.looks.same ∙ synced in
          let same = first_read bytes c.read_at.new.into c.in_ok-read_at.field-0 long (c.in_ok-read_at.ensures.count bytes here) (c.in_ok-read_at.ensures.got bytes here) in
          (long, not_shut bytes (λ zero. c.if-gate-ne0.true (same ∙ zero))),
    )

pub returns-clause-first : goal.returns-clause-first
returns-clause-first g c = λ bytes reads.
    let synced = c.sync.ensures.looks.same ∙ reads in
    let size : c.in_ok-len.field-0 ≡ length bytes = c.in_ok-len.ensures.size bytes synced in
    let long : 1 < length bytes = omega (arith, size, c.if-branch-le1.false) in
    let here = c.len.ensures.looks.same ∙ synced in
    let same = first_read bytes c.read_at.new.into c.in_ok-read_at.field-0 long (c.in_ok-read_at.ensures.count bytes here) (c.in_ok-read_at.ensures.got bytes here) in
    is_shut bytes (omega (arith, long)) (sym same ∙ c.if-gate-ne0.false)
