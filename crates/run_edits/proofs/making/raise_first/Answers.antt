-- A journal of version 1 is raised: the disk holds the same records, at every moment
-- (`raise_first`, src/making.rt).
use Rattle.std.proofs.Common.{rules, ◌≡◌, ◌+◌, ◌≤◌, sym, subst, arith}
use Rattle.disk_model.specs.Moments.{Uses}
use Rattle.run_records.specs.declared.version.Version.{Version}
use Rattle.run_records.specs.declared.version.Version.TheVariants.{One}
use Rattle.run_journal.specs.Stands.{Holds}
use Rattle.run_edits.specs.Writing.{mark_size}
use Rattle.run_edits.proofs.making.raise_first.Goals as goal

pub returns-in_err-raise-clause-any_moment : goal.returns-in_err-raise-clause-any_moment
returns-in_err-raise-clause-any_moment g c =
    let old = c.args.journal.now in
    let one : old.version ≡ One = search rules in
    λ header entries holds. c.in_err-raise.ensures.any_moment header entries
    (subst (λ (v : Version). Holds header v entries (g.D.Disk.state old.file.disk) old.file.end) one holds)

pub returns-clause-raised : goal.returns-clause-raised
returns-clause-raised g c =
    let old = c.args.journal.now in
    let one : old.version ≡ One = search rules in
    λ header entries holds. c.in_ok-raise.ensures.acknowledged header entries
    (subst (λ (v : Version). Holds header v entries (g.D.Disk.state old.file.disk) old.file.end) one holds)

pub returns-in_err-raise-clause-uses : goal.returns-in_err-raise-clause-uses
returns-in_err-raise-clause-uses g c =
    let old = c.args.journal.now in
    let one : old.version ≡ One = search rules in
    let nine : old.file.end + 8 + 1 ≡ old.file.end + 9 = omega arith in
    subst (λ (v : Version). Uses 4 (old.file.end + mark_size v + 1) (g.D.Disk.state old.file.disk) (g.D.Disk.state c.raise.new.self.file.disk)) (sym one)
    (subst (λ n. Uses 4 n (g.D.Disk.state old.file.disk) (g.D.Disk.state c.raise.new.self.file.disk)) (sym nine) c.in_err-raise.ensures.uses)

pub returns-clause-end : goal.returns-clause-end
returns-clause-end g c =
    let old = c.args.journal.now in
    let one : old.version ≡ One = search rules in
    let marked : c.raise.new.self.file.end ≤ old.file.end + 8 = search rules in
    subst (λ (v : Version). c.raise.new.self.file.end ≤ old.file.end + mark_size v) (sym one) marked

pub returns-clause-uses : goal.returns-clause-uses
returns-clause-uses g c =
    let old = c.args.journal.now in
    let one : old.version ≡ One = search rules in
    let nine : old.file.end + 8 + 1 ≡ old.file.end + 9 = omega arith in
    subst (λ (v : Version). Uses 4 (old.file.end + mark_size v + 1) (g.D.Disk.state old.file.disk) (g.D.Disk.state c.raise.new.self.file.disk)) (sym one)
    (subst (λ n. Uses 4 n (g.D.Disk.state old.file.disk) (g.D.Disk.state c.raise.new.self.file.disk)) (sym nine) c.in_ok-raise.ensures.uses)

pub returns-clause-any_moment : goal.returns-clause-any_moment
returns-clause-any_moment g c =
    let old = c.args.journal.now in
    let one : old.version ≡ One = search rules in
    λ header entries holds. c.in_ok-raise.ensures.any_moment header entries
    (subst (λ (v : Version). Holds header v entries (g.D.Disk.state old.file.disk) old.file.end) one holds)
