-- A journal keeps its version while its run goes on.
-- GoingOn, GoingReported and RunsFound use it.
use Rattle.std.proofs.Common.{◌≡◌, ◌⊎◌, inl, inr, ℕ, List, [], ◌∷◌, length, take, Option, Some, None, refl, sym, ap, subst, ◌∙◌}
use Rattle.std.proofs.Math.Seq.{take-length}
use Rattle.disk_model.specs.Device.{DiskState}
use Rattle.nc_outside.specs.declared.halt.Halt.{Halt}
use Rattle.nc_outside.specs.declared.halt.Halt.TheVariants as halt
use Rattle.nc_verify.specs.declared.verified.Verified.{Verified}
use Rattle.run_records.specs.Entries.{Entry}
use Rattle.run_records.specs.declared.header.Header.{Header}
use Rattle.run_records.specs.declared.version.Version.{Version}
use Rattle.run_records.specs.declared.version.Version.TheVariants.{Two}
use Rattle.run_journal.specs.Batches.{Piece, a_batch, the_mark, ArePieces, version_behind}
use Rattle.run_journal.specs.Stands.{Holds}
use Rattle.lathe_top.specs.Session.{Session}
use Rattle.lathe_top.specs.Kept.{HoldsIn, KeepsVersion}

-- a table is stopped by a fault of the disk, or it is not
pub is_disk_or_not : (why : Option Halt) → (why ≡ Some halt.Disk) ⊎ (why ≡ Some halt.Disk → ⊥)
is_disk_or_not None = inr (λ is. absurd (cc))
is_disk_or_not (Some (halt.Alarm alarm)) = inr (λ is. absurd (cc))
is_disk_or_not (Some halt.Disk) = inl refl
is_disk_or_not (Some (halt.Turret path)) = inr (λ is. absurd (cc))
is_disk_or_not (Some halt.Full) = inr (λ is. absurd (cc))
is_disk_or_not (Some halt.Budget) = inr (λ is. absurd (cc))

-- no piece changes version 2
stays_second : (pieces : List Piece) → ArePieces Two pieces → version_behind Two pieces ≡ Two
stays_second [] are = refl
stays_second (a_batch batch ∷ pieces) are = stays_second pieces are.1
stays_second (the_mark ∷ pieces) are = stays_second pieces are.1

-- a journal whose header has version 2 has it
second_by : (header : Header) (version : Version) (entries : List Entry) (disk : DiskState) (end : ℕ) → Holds header version entries disk end
    → header.version ≡ Two → version ≡ Two
second_by header version entries disk end holds two =
    sym holds.2 ∙ ap (λ (v : Version). version_behind v holds.0) two
    ∙ stays_second holds.0 (subst (λ (v : Version). ArePieces v holds.0) two holds.1.are)

-- the version is kept if the disk holds in it what was found, and what it has now
pub keeps_version : (s : Session) (least : ℕ) (begun new : DiskState) (version : Version) → HoldsIn version s s.found begun
    → HoldsIn version s (take least s.history) new → KeepsVersion s least begun new
keeps_version s least begun new version opened now = record {
  version = version;
  second = second_by s.header version s.found begun opened.0 opened.1;
  opened = opened;
  now = now;
}

-- a disk that stays as it is keeps the version
pub version_stays : (header : Header) (pair : Verified) (entries : List Entry) (disk : DiskState) (version : Version) (end : ℕ)
    → Holds header version entries disk end
    → KeepsVersion (record { header = header; pair = pair; found = entries; history = entries }) (length entries) disk disk
version_stays header pair entries disk version end holds =
    let s : Session = record { header = header; pair = pair; found = entries; history = entries } in
    keeps_version s (length entries) disk disk version (end, holds)
    (end, subst (λ (l : List Entry). Holds header version l disk end) (sym (take-length entries)) holds)
