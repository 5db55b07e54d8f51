-- What a command that names files answers, and what it does to the disk and to the turrets.
-- What `top` promises is said in it; no other crate takes it.
use Rattle.std.specs.Prelude.{ℕ, List}
use Rattle.nc_outside.specs.Files.{ShelfState}
use Rattle.lathe_calls.specs.Answers.{Answer}
use Rattle.lathe_looks.specs.Fetched.{IsOfFiles}
use Rattle.lathe_looks.specs.Named.{Named}
use Rattle.lathe_top.specs.Kept.{RestsWhole}
use Rattle.lathe_top.specs.Lathe.{LatheState}

-- the command answers over the texts of its files, and calls neither the disk nor a turret
abbrev pub IsOfFilesAlone : {A : Type 0} → (List (List ℕ) → A) → List Named → (A → Answer → Type 0) → LatheState → LatheState
    → ShelfState → ShelfState → Answer → Type 0
IsOfFilesAlone read files IsAnswer old new before after =
    λ answer. IsOfFiles read files (Unit {0}) IsAnswer before after answer × RestsWhole old new

-- the command answers over the texts of its files, and does this to the disk and the turrets; if a
-- file can't be read or memory runs out at one, it calls neither
abbrev pub IsOverFiles : {A : Type 0} → (List (List ℕ) → A) → List Named → (LatheState → LatheState → A → Answer → Type 0)
    → LatheState → LatheState → ShelfState → ShelfState → Answer → Type 0
IsOverFiles read files Does old new before after = IsOfFiles read files (RestsWhole old new) (Does old new) before after
