-- What a shelf holds: files, each a name and its bytes. A shelf may tell them or not. The trait
-- Shelf says its call by it.
use Rattle.std.specs.Prelude.{◌≡◌, ℕ, ◌<◌, List, [], ◌∷◌, ◌++◌, length, ⊤, IsSomeAnd}
use Rattle.std.specs.Prelude.{Option, Some, None}
use Rattle.std.specs.Str.{bytes_eq}
use Rattle.std.specs.Map.{lookup}

-- files, each with its name first
abbrev pub Files : Type 0
Files = List (List ℕ × List ℕ)

-- All that contracts see of a shelf at one moment.
pub record ShelfState : Type 0 where
  pub files : Option Files  -- what it holds, where it tells that; of two files of one name the first counts
  pub asked : Option (List (List ℕ))  -- the names that it was asked for, in order, where it tells that
  pub faults : ℕ  -- how often it has failed

-- the bytes of the first file of that name
abbrev pub file_named : List ℕ → Files → Option (List ℕ)
file_named name files = lookup (bytes_eq name) files

-- under the name stand these bytes, if the files are told
abbrev pub Holds : Option Files → List ℕ → List ℕ → Type 0
Holds None name bytes = ⊤
Holds (Some files) name bytes = file_named name files ≡ Some bytes

-- there is no such name, if the files are told
abbrev pub Lacks : Option Files → List ℕ → Type 0
Lacks None name = ⊤
Lacks (Some files) name = file_named name files ≡ None

-- under the name stand more bytes than that, if the files are told
abbrev pub HoldsMore : Option Files → List ℕ → ℕ → Type 0
HoldsMore None name max = ⊤
HoldsMore (Some files) name max = IsSomeAnd (file_named name files) (λ bytes. max < length bytes)

-- the shelf holds what it held before
abbrev pub HoldsOn : ShelfState → ShelfState → Type 0
HoldsOn old new = new.files ≡ old.files

-- a shelf was asked for this name after those before; one that tells none goes on telling none
abbrev pub IsAsked : Option (List (List ℕ)) → Option (List (List ℕ)) → List ℕ → Type 0
IsAsked None after name = after ≡ None
IsAsked (Some was) after name = after ≡ Some (was ++ name ∷ [])
