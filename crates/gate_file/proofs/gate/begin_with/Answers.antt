-- A file of gates that is begun, or refused, with the staged entry of one body is begun or refused
-- with this body (`begin_with`, src/gate.rt).
use Rattle.std.proofs.Common.{[], ◌∷◌, sym, subst}
use Rattle.gate_file.specs.Chain.{IsStaged}
use Rattle.gate_file.proofs.gate.begin_with.Goals as goal

pub returns-in-Ok-clause-begun : goal.returns-in-Ok-clause-begun
returns-in-Ok-clause-begun g c =
    let bodies = c.args.body.now ∷ [] in
    let begun = c.in-Ok.ensures.begun bodies (subst (IsStaged bodies) (sym c.deref.ensures.value) c.stage.ensures.staged) in
    record {
      kept = begun.kept;
      vacant = begun.vacant;
      spares = begun.spares;
      refused = tt;
      later = begun.later;
      calm = begun.calm;
      any_moment = begun.any_moment;
      uses = begun.uses;
    }

pub returns-in-Err-clause-begun : goal.returns-in-Err-clause-begun
returns-in-Err-clause-begun g c =
    let bodies = c.args.body.now ∷ [] in
    let begun = c.in-Err.ensures.begun bodies (subst (IsStaged bodies) (sym c.deref.ensures.value) c.stage.ensures.staged) in
    record {
      kept = tt;
      vacant = tt;
      spares = begun.spares;
      refused = begun.refused;
      later = begun.later;
      calm = begun.calm;
      any_moment = begun.any_moment;
      uses = begun.uses;
    }
