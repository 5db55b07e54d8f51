-- A fault met in reading on is one of the whole reading, nothing was written by then, and with each
-- window read the loop keeps its facts (`read_bodies`, src/open.rt).
use Rattle.std.proofs.Common.{◌+◌, ◌*◌, length, ◌∙◌, ap, arith}
use Rattle.std.proofs.lemmas.Result.{err_from_is_err_and}
use Rattle.disk_model.proofs.Runs.{peeks_more}
use Rattle.gate_file.proofs.Refusals.{later_refused}
use Rattle.gate_file.proofs.open.read_bodies.Goals as goal

pub returns-in_err-next-clause-refused : goal.returns-in_err-next-clause-refused
returns-in_err-next-clause-refused g c =
    let d = g.D.Disk.state in
    let i = c.loop-next.invariant in
    let p = err_from_is_err_and c.from_residual.result c.from_residual.ensures.1 in
    rw (p.1, p.2) (later_refused c.loop-next.at c.args.len c.loop-next.bodies _ (d c.args.disk.now) (d c.loop-next.disk) (d c.read_on.new.disk) i.peeks.later
    (λ bytes b. record { reads = i.peeks.unwritten.same ∙ b.reads; size = b.size; opens = i.opens bytes b })
    c.in_err-next.ensures.refused)

pub returns-in_err-next-clause-opens : goal.returns-in_err-next-clause-opens
returns-in_err-next-clause-opens g c = λ bytes b.
    let i = c.loop-next.invariant in
    c.read_on.ensures.opens bytes (record { reads = i.peeks.unwritten.same ∙ b.reads; size = b.size; opens = i.opens bytes b })

pub returns-in_err-next-clause-calm : goal.returns-in_err-next-clause-calm
returns-in_err-next-clause-calm g c =
    let p = err_from_is_err_and c.from_residual.result c.from_residual.ensures.1 in
    rw (p.1, p.2) (λ other. c.in_err-next.ensures.calm other ∙ c.loop-next.invariant.calm)

pub returns-in_err-next-clause-peeks : goal.returns-in_err-next-clause-peeks
returns-in_err-next-clause-peeks g c =
    let d = g.D.Disk.state in
    let i = c.loop-next.invariant in
    peeks_more (2 * length c.loop-next.bodies) 2 (2 * length c.read_on.new.bodies + 2) (d c.args.disk.now) (d c.loop-next.disk) (d c.read_on.new.disk) i.peeks c.read_on.ensures.peeks (omega (arith, c.read_on.ensures.grown))

pub loop-next-preserved : goal.loop-next-preserved
loop-next-preserved g c =
    let d = g.D.Disk.state in
    let i = c.loop-next.invariant in
    let moved = rw c.in-Some.is at c.in_ok-next.ensures.moved in
    let on = rw c.in-Some.is at c.in_ok-next.ensures.reads in
    record {
      opens = λ bytes b. on bytes (record { reads = i.peeks.unwritten.same ∙ b.reads; size = b.size; opens = i.opens bytes b });
      within = moved.1;
      none = λ empty. absurd (omega (arith, moved.2, ap length empty));
      calm = c.in_ok-next.ensures.calm (λ fault. fault) ∙ i.calm;
      peeks = peeks_more (2 * length c.loop-next.bodies) 2 (2 * length c.read_on.new.bodies) (d c.args.disk.now) (d c.loop-next.disk) (d c.read_on.new.disk) i.peeks c.read_on.ensures.peeks (omega (arith, moved.2));
    }
