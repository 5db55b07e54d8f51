-- After an Ok a shut gate stands first and is on the disk; a crash in the call leaves no run
-- (`shut_first`, src/create.rt).
use Rattle.std.proofs.Common.{◌≤◌, [], ◌∷◌, length, Some, refl, ap, subst, ◌∙◌, List, ℕ}
use Rattle.disk_model.specs.Device.{Reads}
use Rattle.gate_file.specs.declared.create.FirstGate.{FirstGate}
use Rattle.gate_file.specs.First.{StandsFirst}
use Rattle.gate_file.proofs.Beginning.{one_gate, keeps_shut}
use Rattle.gate_file.proofs.create.shut_first.Goals as goal

pub returns-in_ok-sync-in-Missing-clause-shut : goal.returns-in_ok-sync-in-Missing-clause-shut
returns-in_ok-sync-in-Missing-clause-shut g c = λ bytes reads only stands.
    let short : length bytes ≤ 1 = subst (λ (f : FirstGate). StandsFirst f bytes) c.in-Missing.is stands in
    let now : Reads (g.D.Disk.state c.sync.new.self) (0 ∷ []) = c.sync.ensures.looks.same ∙ c.in_ok-write_at-in-Missing.ensures.written bytes reads ∙ ap (λ (l : List ℕ). Some l) (one_gate bytes short) in
    keeps_shut (g.D.Disk.state c.sync.new.self) (0 ∷ []) now (c.in_ok-sync-in-Missing.ensures.settled (0 ∷ []) now) ([], refl)

pub returns-in-Shut-clause-shut : goal.returns-in-Shut-clause-shut
returns-in-Shut-clause-shut g c = λ bytes reads only stands.
    keeps_shut (g.D.Disk.state c.args.disk.now) bytes reads only (subst (λ (f : FirstGate). StandsFirst f bytes) c.in-Shut.is stands)
