-- A list from a place on, and a search through the files of a shelf in memory, one file at a time.
-- For the loop of `find` (src/memory_shelf.rt).
use Rattle.std.proofs.Common.{refl, ◌≡◌, ℕ, ◌+◌, ◌<◌, true, false, List, length, drop, get_or, Some, String, Vec, string_bytes, ◌∷◌, add-one, drop-cons}
use Rattle.std.specs.Str.{bytes_eq}
use Rattle.nc_outside.specs.Files.{file_named}
use Rattle.nc_outside.specs.Kept.{files_of}

-- the items from i on are the one at i and those after it
pub at_place : {T : Type 0} (xs : List T) (i : ℕ) (x : T) → i < length xs → x ≡ get_or xs i x → drop i xs ≡ x ∷ drop (i + 1) xs
at_place xs i x here is = rw (drop-cons xs i x, ← is, add-one) refl

-- if the next file has the name, its bytes are what is found among the files from there on
pub named_here : {A B : Type 0} (name held : List ℕ) (files : List (String A × Vec ℕ B)) (i : ℕ) (file : String A × Vec ℕ B)
    → i < length files → file ≡ get_or files i file → held ≡ string_bytes file.0 → bytes_eq name held ≡ true
    → file_named name (files_of (drop i files)) ≡ Some file.1.items
named_here name held files i file here is text same =
    rw (at_place files i file here is, ← text, same) refl

-- if the next file has another name, what is found is what the files after it give
pub named_behind : {A B : Type 0} (name held : List ℕ) (files : List (String A × Vec ℕ B)) (i : ℕ) (file : String A × Vec ℕ B)
    → i < length files → file ≡ get_or files i file → held ≡ string_bytes file.0 → bytes_eq name held ≡ false
    → file_named name (files_of (drop i files)) ≡ file_named name (files_of (drop (i + 1) files))
named_behind name held files i file here is text other =
    rw (at_place files i file here is, ← text, other) refl
