-- The texts of the files of a command, or the first file that can't be read: what the shelf must
-- have, what it was asked for, and what is answered.
use Rattle.std.specs.Prelude.{◌≡◌, ℕ, zero, suc, ◌≤◌, Option, Some, None, List, [], ◌∷◌, ◌++◌, length, map, take, codes}
use Rattle.nc_number.specs.declared.fault.Failing.{Failing}
use Rattle.nc_number.specs.declared.fault.Failing.TheVariants.{Fault, NoMemory}
use Rattle.nc_outside.specs.Faults.{Rose}
use Rattle.nc_outside.specs.Files.{Files, ShelfState, Holds, HoldsMore, Lacks}
use Rattle.lathe_looks.specs.declared.fetching.FileFault.{FileFault}
use Rattle.lathe_looks.specs.declared.fetching.FileFault.TheVariants.{Failed, Absent, TooLong}
use Rattle.lathe_looks.specs.declared.fetching.Unfetched.{Unfetched}
use Rattle.lathe_calls.specs.Answers.{Answer, tells, nothing}
use Rattle.lathe_looks.specs.Named.{Named, named_file, most_bytes}
use Rattle.lathe_calls.specs.Statuses as exit

-- The shelf has this text under the name of the file, and it is not too long for its kind.
abbrev pub IsText : Option Files → Named → List ℕ → Type 0
IsText told file text = Holds told file.name text × (length text ≤ most_bytes file.file)

-- The shelf has these texts of the files, in their order.
abbrev pub AreTexts : Option Files → List Named → List (List ℕ) → Type 0
AreTexts told [] [] = Unit {0}
AreTexts told (file ∷ files) (text ∷ texts) = IsText told file text × AreTexts told files texts
AreTexts told _ _ = ⊥

-- Why a file can't be read, by the shelf before and after the call.
pub data FileCause (old new : ShelfState) (file : Named) : FileFault → Type 0 where
  -- The shelf failed in this call.
  failed : Rose old.faults new.faults → FileCause old new file Failed
  -- It has no file of the name.
  absent : Lacks old.files file.name → FileCause old new file Absent
  -- Its file of the name has more bytes than the kind may have.
  too_long : HoldsMore old.files file.name (most_bytes file.file) → FileCause old new file TooLong

-- The file comes after n of the list, and the shelf has a text of each of those n.
abbrev pub Reaches : Option Files → Named → List Named → ℕ → Type 0
Reaches told file [] n = ⊥
Reaches told file (first ∷ files) zero = file ≡ first
Reaches told file (first ∷ files) (suc n) = ((text : List ℕ) × IsText told first text) × Reaches told file files n

-- Between two moments, by the names that the shelf was asked for until each, it was asked for these
-- files, in order and each once. A shelf that doesn't tell what it is asked for still doesn't.
abbrev pub AreAsked : Option (List (List ℕ)) → Option (List (List ℕ)) → List Named → Type 0
AreAsked None after files = after ≡ None
AreAsked (Some was) after files = after ≡ Some (was ++ map (λ (file : Named). file.name) files)

-- The first file of a list that can't be read, and why. The shelf was asked for it and for those
-- before it, and for no other.
pub record IsNotHad (old new : ShelfState) (files : List Named) (file : Named) (fault : FileFault) : Type 0 where
  -- How many files of the list come before it.
  pub before : ℕ
  -- the shelf has a text of each file before it
  pub reached : Reaches old.files file files before
  -- why the file can't be read
  pub cause : FileCause old new file fault
  -- the shelf was asked for the files up to this one, in order
  pub asked : AreAsked old.asked new.asked (take (suc before) files)

-- The shelf has these texts of the files, and was asked for each file once, in order. It did not
-- fail.
pub record AreHad (old new : ShelfState) (files : List Named) (texts : List (List ℕ)) : Type 0 where
  -- the shelf has these texts
  pub each : AreTexts old.files files texts
  -- no call of the shelf failed
  pub calm : new.faults ≡ old.faults
  -- the shelf was asked for each file once, in order
  pub asked : AreAsked old.asked new.asked files

-- The shelf has texts of these files, and this is what `read` gives of them.
pub record AreReadAs {A : Type 0} (read : List (List ℕ) → A) (old new : ShelfState) (files : List Named) (value : A) : Type 0 where
  -- the texts of the files
  pub texts : List (List ℕ)
  -- the shelf has them, and was asked for each file once, in order
  pub had : AreHad old new files texts
  -- the value is read of them
  pub are : read texts ≡ value

-- Memory ran out at a file of the list: the shelf was asked for a prefix of the list.
abbrev pub AreSome : ShelfState → ShelfState → List Named → Type 0
AreSome old new files = (n : ℕ) × AreAsked old.asked new.asked (take n files)

-- The file that the code could not read, as clauses see it.
abbrev pub file_of : Unfetched → Named
file_of unfetched = named_file unfetched.file unfetched.name.now

-- The exit status for a file that can't be read.
abbrev pub fault_status : FileFault → ℕ
fault_status Failed = exit.shelf_fault
fault_status Absent = exit.no_file
fault_status TooLong = exit.no_file

-- The line of output for a file that can't be read.
unfoldable pub fault_text : List ℕ → FileFault → List ℕ
fault_text name Failed = codes "shelf fault\n"
fault_text name Absent = codes "no file " ++ name ++ codes "\n"
fault_text name TooLong = codes "too long " ++ name ++ codes "\n"

-- Why there are no texts of these files: the first that can't be read, or memory ran out at one.
abbrev pub IsUnfetched : ShelfState → ShelfState → List Named → Failing Unfetched → Type 0
IsUnfetched old new files (Fault missing) = IsNotHad old new files (file_of missing) missing.fault
IsUnfetched old new files NoMemory = AreSome old new files

-- The answer if the files can't be read: the status and line of the file, or no text if memory ran
-- out.
abbrev pub unfetched_answer : Failing Unfetched → Answer
unfetched_answer (Fault missing) = tells (fault_status missing.fault) (fault_text missing.name.now missing.fault)
unfetched_answer NoMemory = nothing

-- What a command of these files answers: about its first file that can't be read, if `Rests` holds
-- besides; or its answer over what `read` gives of their texts, which it lists in their order.
pub data IsOfFiles {A : Type 0} (read : List (List ℕ) → A) (files : List Named) (Rests : Type 0) (IsAnswer : A → Answer → Type 0)
    (old new : ShelfState) : Answer → Type 0 where
  -- A file can't be read: its status and line.
  not_had : {file : Named} {fault : FileFault} → IsNotHad old new files file fault → Rests
      → IsOfFiles read files Rests IsAnswer old new (tells (fault_status fault) (fault_text file.name fault))
  -- Memory ran out: no text.
  unread : AreSome old new files → Rests → IsOfFiles read files Rests IsAnswer old new nothing
  -- All files have a text, and this is what the command answers to them.
  answers : {answer : Answer} (texts : List (List ℕ)) → AreHad old new files texts → IsAnswer (read texts) answer
      → IsOfFiles read files Rests IsAnswer old new answer
