-- Whether the disk fails as the first gate is shut, as the entries are added, or not at all, the
-- answer and what a crash may leave are as a beginning of a file of gates promises (`begin`,
-- src/create.rt).
use Rattle.std.proofs.Common.{rules, [], refl, ◌∙◌, arith}
use Rattle.std.proofs.lemmas.Result.{err_from_is_err_and}
use Rattle.gate_file.proofs.Beginning.{not_there, moments_shut, moments_added, kept_anew, begun_used, shut_used}
use Rattle.gate_file.proofs.create.begin.Goals as goal

pub returns-in_err-shut_first-clause-begun : goal.returns-in_err-shut_first-clause-begun
returns-in_err-shut_first-clause-begun g c =
    let d = g.D.Disk.state in
    let p = err_from_is_err_and c.from_residual-in_err-shut_first.result c.from_residual-in_err-shut_first.ensures.1 in
    let peeks = c.look_first.ensures.peeks in
    let shut = c.shut_first.ensures in
    rw (p.1, p.2) (λ bodies is. record {
      kept = search rules;
      vacant = search rules;
      spares = λ bytes reads there. absurd (not_there c.in_ok-first.first bytes (c.in_ok-first.ensures.first bytes reads) there);
      refused = let rose = c.in_err-shut_first.ensures.cause.failed (search rules) in omega (arith, rose, peeks.later);
      later = omega (arith, peeks.later, shut.cause.later);
      calm = λ other. absurd (other refl);
      any_moment = λ bytes reads.
          let here = peeks.unwritten.same ∙ reads in
          let none = shut.any_moment bytes here (c.in_ok-first.ensures.settled bytes here) (c.in_ok-first.ensures.first bytes reads) in
          moments_shut bodies (d c.args.disk.now) (d c.look_first.new.disk) (d c.shut_first.new.disk) peeks.unwritten none;
      uses = shut_used bodies (d c.args.disk.now) (d c.look_first.new.disk) (d c.shut_first.new.disk) peeks.uses shut.uses;
    })

pub returns-in_err-add_staged-clause-begun : goal.returns-in_err-add_staged-clause-begun
returns-in_err-add_staged-clause-begun g c =
    let d = g.D.Disk.state in
    let p = err_from_is_err_and c.from_residual-in_err-add_staged.result c.from_residual-in_err-add_staged.ensures.1 in
    let peeks = c.look_first.ensures.peeks in
    let shut = c.shut_first.ensures in
    let added = c.add_staged.ensures in
    rw (p.1, p.2) (λ bodies is. record {
      kept = search rules;
      vacant = search rules;
      spares = λ bytes reads there. absurd (not_there c.in_ok-first.first bytes (c.in_ok-first.ensures.first bytes reads) there);
      refused = let rose = c.in_err-add_staged.ensures.cause.failed (search rules) in omega (arith, rose, peeks.later, shut.cause.later);
      later = omega (arith, peeks.later, shut.cause.later, added.cause.later);
      calm = λ other. absurd (other refl);
      any_moment = λ bytes reads.
          let here = peeks.unwritten.same ∙ reads in
          let settled = c.in_ok-first.ensures.settled bytes here in
          let stands = c.in_ok-first.ensures.first bytes reads in
          let none = moments_shut bodies (d c.args.disk.now) (d c.look_first.new.disk) (d c.shut_first.new.disk) peeks.unwritten (shut.any_moment bytes here settled stands) in
          moments_added bodies (d c.args.disk.now) (d c.shut_first.new.disk) (d c.add_staged.new.disk) none (added.any_moment [] bodies is (c.in_ok-shut_first.ensures.shut bytes here settled stands));
      uses = begun_used bodies c.args.staged.now (d c.args.disk.now) (d c.look_first.new.disk) (d c.shut_first.new.disk) (d c.add_staged.new.disk) is peeks.uses shut.uses added.uses;
    })

pub returns-clause-begun : goal.returns-clause-begun
returns-clause-begun g c = λ bodies is.
    let d = g.D.Disk.state in
    let peeks = c.look_first.ensures.peeks in
    let shut = c.shut_first.ensures in
    let added = c.add_staged.ensures in
    record {
      kept = λ bytes reads.
          let here = peeks.unwritten.same ∙ reads in
          let keeps = c.in_ok-shut_first.ensures.shut bytes here (c.in_ok-first.ensures.settled bytes here) (c.in_ok-first.ensures.first bytes reads) in
          kept_anew bodies c.args.staged.now (d c.add_staged.new.disk) is (c.in_ok-add_staged.ensures.acknowledged [] bodies is keeps);
      vacant = λ bytes reads there. not_there c.in_ok-first.first bytes (c.in_ok-first.ensures.first bytes reads) there;
      spares = λ bytes reads there. absurd (not_there c.in_ok-first.first bytes (c.in_ok-first.ensures.first bytes reads) there);
      refused = search rules;
      later = omega (arith, peeks.later, shut.cause.later, added.cause.later);
      calm = λ other. added.cause.calm (search rules) ∙ shut.cause.calm (search rules) ∙ c.in_ok-first.ensures.calm (λ fault. fault);
      any_moment = λ bytes reads.
          let here = peeks.unwritten.same ∙ reads in
          let settled = c.in_ok-first.ensures.settled bytes here in
          let stands = c.in_ok-first.ensures.first bytes reads in
          let none = moments_shut bodies (d c.args.disk.now) (d c.look_first.new.disk) (d c.shut_first.new.disk) peeks.unwritten (shut.any_moment bytes here settled stands) in
          moments_added bodies (d c.args.disk.now) (d c.shut_first.new.disk) (d c.add_staged.new.disk) none (added.any_moment [] bodies is (c.in_ok-shut_first.ensures.shut bytes here settled stands));
      uses = begun_used bodies c.args.staged.now (d c.args.disk.now) (d c.look_first.new.disk) (d c.shut_first.new.disk) (d c.add_staged.new.disk) is peeks.uses shut.uses added.uses;
    }
