-- Whether memory runs out, a call of the disk fails, there is no run, or all is read: the answer is
-- as the opening of a file of gates promises (`read_all`, src/open.rt).
use Rattle.std.proofs.Common.{rules, ◌+◌, ◌*◌, [], length, refl, ◌∙◌, arith}
use Rattle.std.proofs.lemmas.Result.{err_from_is_err_and}
use Rattle.disk_model.proofs.Runs.{unwritten_none, uses_none, uses_widened, peeks_more, settled_kept}
use Rattle.gate_file.proofs.Reading.{uses_opening, keeps_read, shut_from_start}
use Rattle.gate_file.proofs.Refusals.{before_all, opening_refused}
use Rattle.gate_file.proofs.open.read_all.Goals as goal

pub returns-in_err-room-clause-finds : goal.returns-in_err-room-clause-finds
returns-in_err-room-clause-finds g c =
    let d = g.D.Disk.state c.args.disk.now in
    let p = err_from_is_err_and c.from_residual.result c.from_residual.ensures.1 in
    rw (p.1, p.2) (record {
      found = search rules;
      some = search rules;
      refused = tt;
      later = omega arith;
      calm = λ other. refl;
      unwritten = unwritten_none d (g.met.D.Disk.coherent c.args.disk.now);
      uses = λ bytes reads. uses_opening d d [] bytes bytes 0 reads refl (uses_none 0 0 d) (omega arith);
      uses_ok = search rules;
    })

pub returns-in_err-window-clause-finds : goal.returns-in_err-window-clause-finds
returns-in_err-window-clause-finds g c =
    let d = g.D.Disk.state c.args.disk.now in
    let p = err_from_is_err_and c.from_residual-in_err-window.result c.from_residual-in_err-window.ensures.1 in
    rw (p.1, p.2) (record {
      found = search rules;
      some = search rules;
      refused = tt;
      later = omega arith;
      calm = λ other. refl;
      unwritten = unwritten_none d (g.met.D.Disk.coherent c.args.disk.now);
      uses = λ bytes reads. uses_opening d d [] bytes bytes 0 reads refl (uses_none 0 0 d) (omega arith);
      uses_ok = search rules;
    })

pub returns-in_err-len-clause-finds : goal.returns-in_err-len-clause-finds
returns-in_err-len-clause-finds g c =
    let d = g.D.Disk.state in
    let p = err_from_is_err_and c.from_residual-in_err-len.result c.from_residual-in_err-len.ensures.1 in
    let first = c.start_reading.ensures.peeks in
    rw (p.1, p.2) (record {
      found = search rules;
      some = search rules;
      refused = c.in_err-len.ensures.refused;
      later = first.later;
      calm = c.in_err-len.ensures.calm;
      unwritten = first.unwritten;
      uses = λ bytes reads. uses_opening (d c.args.disk.now) (d c.start_reading.new.disk) [] bytes bytes 2 reads refl first.uses (omega arith);
      uses_ok = search rules;
    })

pub returns-in_err-end-clause-finds : goal.returns-in_err-end-clause-finds
returns-in_err-end-clause-finds g c =
    let d = g.D.Disk.state in
    let n = length c.read_bodies.new.bodies in
    let p = err_from_is_err_and c.from_residual-in_err-end.result c.from_residual-in_err-end.ensures.1 in
    let first = c.start_reading.ensures.peeks in
    let second = c.read_bodies.ensures.peeks in
    let both = peeks_more 2 (2 * n + 2) (2 * n + 4) (d c.args.disk.now) (d c.start_reading.new.disk) (d c.read_bodies.new.disk) first second (omega arith) in
    rw (p.1, p.2) (record {
      found = search rules;
      some = search rules;
      refused = opening_refused c.in_ok-len.len _ (d c.args.disk.now) (d c.start_reading.new.disk) (d c.read_bodies.new.disk) first.later first.unwritten c.in_ok-len.ensures.settled second.unwritten c.in_ok-len.ensures.size c.in_err-end.ensures.refused;
      later = both.later;
      calm = λ other. c.in_err-end.ensures.calm other ∙ c.in_ok-len.ensures.calm (λ fault. fault);
      unwritten = both.unwritten;
      uses = λ bytes reads.
          let read = c.read_bodies.ensures.opens bytes (before_all c.in_ok-len.len (d c.args.disk.now) (d c.start_reading.new.disk) bytes first.unwritten reads (c.in_ok-len.ensures.size bytes reads)) in
          uses_opening (d c.args.disk.now) (d c.read_bodies.new.disk) c.read_bodies.new.bodies bytes read.0 (2 * n + 4) reads read.1 both.uses (omega arith);
      uses_ok = search rules;
    })

pub returns-then-end-eq0-clause-finds : goal.returns-then-end-eq0-clause-finds
returns-then-end-eq0-clause-finds g c =
    let d = g.D.Disk.state in
    let n = length c.read_bodies.new.bodies in
    let first = c.start_reading.ensures.peeks in
    let second = c.read_bodies.ensures.peeks in
    let both = peeks_more 2 (2 * n + 2) (2 * n + 4) (d c.args.disk.now) (d c.start_reading.new.disk) (d c.read_bodies.new.disk) first second (omega arith) in
    record {
      found = search rules;
      some = search rules;
      refused = (
        settled_kept (d c.start_reading.new.disk) (d c.read_bodies.new.disk) second.unwritten c.in_ok-len.ensures.settled,
        λ bytes reads.
            let before = before_all c.in_ok-len.len (d c.args.disk.now) (d c.start_reading.new.disk) bytes first.unwritten reads (c.in_ok-len.ensures.size bytes reads) in
            shut_from_start bytes c.in_ok-end.end c.if-end-eq0.true (c.in_ok-end.ensures.shut bytes before).1,
      );
      later = both.later;
      calm = λ other. c.in_ok-end.ensures.calm (λ fault. fault) ∙ c.in_ok-len.ensures.calm (λ fault. fault);
      unwritten = both.unwritten;
      uses = λ bytes reads.
          let read = c.read_bodies.ensures.opens bytes (before_all c.in_ok-len.len (d c.args.disk.now) (d c.start_reading.new.disk) bytes first.unwritten reads (c.in_ok-len.ensures.size bytes reads)) in
          uses_opening (d c.args.disk.now) (d c.read_bodies.new.disk) c.read_bodies.new.bodies bytes read.0 (2 * n + 4) reads read.1 both.uses (omega arith);
      uses_ok = search rules;
    }

pub returns-clause-finds : goal.returns-clause-finds
returns-clause-finds g c =
    let d = g.D.Disk.state in
    let n = length c.read_bodies.new.bodies in
    let first = c.start_reading.ensures.peeks in
    let second = c.read_bodies.ensures.peeks in
    let both = peeks_more 2 (2 * n + 2) (2 * n + 4) (d c.args.disk.now) (d c.start_reading.new.disk) (d c.read_bodies.new.disk) first second (omega arith) in
    record {
      found = λ bytes reads.
          let size = c.in_ok-len.ensures.size bytes reads in
          let read = c.in_ok-end.ensures.shut bytes (before_all c.in_ok-len.len (d c.args.disk.now) (d c.start_reading.new.disk) bytes first.unwritten reads size) in
          let keeps = keeps_read (d c.args.disk.now) (d c.start_reading.new.disk) (d c.read_bodies.new.disk) c.read_bodies.new.bodies bytes c.in_ok-end.end reads first.unwritten c.in_ok-len.ensures.settled second.unwritten
          (omega (arith, c.in_ok-end.ensures.place.0, size)) read.0 read.1 in
          ((_, read.0, read.1), keeps);
      some = λ none. c.if-end-eq0.false (c.in_ok-end.ensures.place.1 none);
      refused = search rules;
      later = both.later;
      calm = λ other. c.in_ok-end.ensures.calm (λ fault. fault) ∙ c.in_ok-len.ensures.calm (λ fault. fault);
      unwritten = both.unwritten;
      uses = λ bytes reads.
          let read = c.read_bodies.ensures.opens bytes (before_all c.in_ok-len.len (d c.args.disk.now) (d c.start_reading.new.disk) bytes first.unwritten reads (c.in_ok-len.ensures.size bytes reads)) in
          uses_opening (d c.args.disk.now) (d c.read_bodies.new.disk) c.read_bodies.new.bodies bytes read.0 (2 * n + 4) reads read.1 both.uses (omega arith);
      uses_ok = uses_widened (2 * n + 4) (4 * (n + 1) + 4) 0 0 (d c.args.disk.now) (d c.read_bodies.new.disk) both.uses (omega arith) (omega arith);
    }
