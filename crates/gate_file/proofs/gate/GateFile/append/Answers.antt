-- A crash in an append leaves the bodies before the call, or those and the new one
-- (`GateFile::append`, src/gate.rt).
use Rattle.std.proofs.Common.{ℕ, List, [], ◌∷◌, subst, sym}
use Rattle.disk_model.specs.Moments.{LeavesOnly}
use Rattle.gate_file.specs.Chain.{IsBeforeOrAfter, IsStaged}
use Rattle.gate_file.specs.Gate.{Gate, Keeps}
use Rattle.gate_file.proofs.gate.GateFile.append.Goals as goal

pub returns-in-Ok-clause-any_moment : goal.returns-in-Ok-clause-any_moment
returns-in-Ok-clause-any_moment g c =
    let staged = subst (IsStaged (c.args.body.now ∷ [])) (sym c.deref.ensures.value) c.stage.ensures.staged in
    subst (λ (gate : Gate g.row.D.Denot). (bodies : List (List ℕ)) → Keeps bodies (g.D.Disk.state gate.disk) gate.end → LeavesOnly (IsBeforeOrAfter bodies (c.args.body.now ∷ [])) (g.D.Disk.state gate.disk) (g.D.Disk.state c.add_staged.new.disk)) c.self.view_is
    (λ bodies keeps. c.add_staged.ensures.any_moment bodies (c.args.body.now ∷ []) staged keeps)

pub returns-in-Err-clause-any_moment : goal.returns-in-Err-clause-any_moment
returns-in-Err-clause-any_moment g c =
    let staged = subst (IsStaged (c.args.body.now ∷ [])) (sym c.deref.ensures.value) c.stage.ensures.staged in
    subst (λ (gate : Gate g.row.D.Denot). (bodies : List (List ℕ)) → Keeps bodies (g.D.Disk.state gate.disk) gate.end → LeavesOnly (IsBeforeOrAfter bodies (c.args.body.now ∷ [])) (g.D.Disk.state gate.disk) (g.D.Disk.state c.add_staged.new.disk)) c.self.view_is
    (λ bodies keeps. c.add_staged.ensures.any_moment bodies (c.args.body.now ∷ []) staged keeps)
