-- After an Ok the staged bodies are added; a crash leaves all of them or none, whichever call of
-- the disk failed (`add_staged`, src/gate.rt).
use Rattle.gate_file.specs.Chain.{IsBeforeOrAfter}
use Rattle.disk_model.proofs.Runs.{looks_on}
use Rattle.gate_file.proofs.Appending.{moment_1, reads_2, moment_3, kept_4}
use Rattle.gate_file.proofs.gate.add_staged.Goals as goal

pub returns-in_err-write_at-clause-any_moment : goal.returns-in_err-write_at-clause-any_moment
returns-in_err-write_at-clause-any_moment g c = λ bodies more is keeps.
    let d = g.D.Disk.state in
    let first = moment_1 bodies more c.args.staged.now c.args.end (d c.args.disk.now) is keeps (d c.write_at.new.self) c.write_at.ensures.tears in
    first

pub returns-in_err-sync-clause-any_moment : goal.returns-in_err-sync-clause-any_moment
returns-in_err-sync-clause-any_moment g c = λ bodies more is keeps.
    let d = g.D.Disk.state in
    let first = moment_1 bodies more c.args.staged.now c.args.end (d c.args.disk.now) is keeps (d c.write_at.new.self) c.write_at.ensures.tears in
    let second = looks_on (IsBeforeOrAfter bodies more) (d c.args.disk.now) (d c.write_at.new.self) (d c.sync.new.self) (g.met.D.Disk.coherent c.write_at.new.self) first c.sync.ensures.looks in
    second

pub returns-in_err-write_at-2-clause-any_moment : goal.returns-in_err-write_at-2-clause-any_moment
returns-in_err-write_at-2-clause-any_moment g c = λ bodies more is keeps.
    let d = g.D.Disk.state in
    let first = moment_1 bodies more c.args.staged.now c.args.end (d c.args.disk.now) is keeps (d c.write_at.new.self) c.write_at.ensures.tears in
    let second = looks_on (IsBeforeOrAfter bodies more) (d c.args.disk.now) (d c.write_at.new.self) (d c.sync.new.self) (g.met.D.Disk.coherent c.write_at.new.self) first c.sync.ensures.looks in
    let reads = reads_2 bodies more c.args.staged.now c.args.end (d c.args.disk.now) is keeps (d c.write_at.new.self) (d c.sync.new.self) c.in_ok-write_at.ensures.written c.sync.ensures.looks in
    let third = moment_3 bodies more c.args.staged.now c.args.end (d c.args.disk.now) is keeps (d c.sync.new.self) (d c.write_at-2.new.self) reads c.in_ok-sync.ensures.settled second c.write_at-2.ensures.tears in
    third

pub returns-in_err-sync-2-clause-any_moment : goal.returns-in_err-sync-2-clause-any_moment
returns-in_err-sync-2-clause-any_moment g c = λ bodies more is keeps.
    let d = g.D.Disk.state in
    let first = moment_1 bodies more c.args.staged.now c.args.end (d c.args.disk.now) is keeps (d c.write_at.new.self) c.write_at.ensures.tears in
    let second = looks_on (IsBeforeOrAfter bodies more) (d c.args.disk.now) (d c.write_at.new.self) (d c.sync.new.self) (g.met.D.Disk.coherent c.write_at.new.self) first c.sync.ensures.looks in
    let reads = reads_2 bodies more c.args.staged.now c.args.end (d c.args.disk.now) is keeps (d c.write_at.new.self) (d c.sync.new.self) c.in_ok-write_at.ensures.written c.sync.ensures.looks in
    let third = moment_3 bodies more c.args.staged.now c.args.end (d c.args.disk.now) is keeps (d c.sync.new.self) (d c.write_at-2.new.self) reads c.in_ok-sync.ensures.settled second c.write_at-2.ensures.tears in
    looks_on (IsBeforeOrAfter bodies more) (d c.args.disk.now) (d c.write_at-2.new.self) (d c.sync-2.new.self) (g.met.D.Disk.coherent c.write_at-2.new.self) third c.sync-2.ensures.looks

pub returns-clause-any_moment : goal.returns-clause-any_moment
returns-clause-any_moment g c = λ bodies more is keeps.
    let d = g.D.Disk.state in
    let first = moment_1 bodies more c.args.staged.now c.args.end (d c.args.disk.now) is keeps (d c.write_at.new.self) c.write_at.ensures.tears in
    let second = looks_on (IsBeforeOrAfter bodies more) (d c.args.disk.now) (d c.write_at.new.self) (d c.sync.new.self) (g.met.D.Disk.coherent c.write_at.new.self) first c.sync.ensures.looks in
    let reads = reads_2 bodies more c.args.staged.now c.args.end (d c.args.disk.now) is keeps (d c.write_at.new.self) (d c.sync.new.self) c.in_ok-write_at.ensures.written c.sync.ensures.looks in
    let third = moment_3 bodies more c.args.staged.now c.args.end (d c.args.disk.now) is keeps (d c.sync.new.self) (d c.write_at-2.new.self) reads c.in_ok-sync.ensures.settled second c.write_at-2.ensures.tears in
    looks_on (IsBeforeOrAfter bodies more) (d c.args.disk.now) (d c.write_at-2.new.self) (d c.sync-2.new.self) (g.met.D.Disk.coherent c.write_at-2.new.self) third c.sync-2.ensures.looks

pub returns-clause-acknowledged : goal.returns-clause-acknowledged
returns-clause-acknowledged g c = λ bodies more is keeps.
    let d = g.D.Disk.state in
    let reads = reads_2 bodies more c.args.staged.now c.args.end (d c.args.disk.now) is keeps (d c.write_at.new.self) (d c.sync.new.self) c.in_ok-write_at.ensures.written c.sync.ensures.looks in
    kept_4 bodies more c.args.staged.now c.args.end (d c.args.disk.now) is keeps (d c.sync.new.self) (d c.write_at-2.new.self) (d c.sync-2.new.self) reads c.in_ok-write_at-2.ensures.written c.sync-2.ensures.looks c.in_ok-sync-2.ensures.settled
