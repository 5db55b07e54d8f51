-- How a file of gates is begun on a disk: its first gate, what a crash may leave meanwhile, and how
-- many calls that takes. The functions of src/create.rt and `BodyList::staged` (src/body_list.rt)
-- rest on it.
use Rattle.std.proofs.Common.{◌≡◌, inl, inr, ℕ, ◌+◌, ◌-◌, ◌≤◌, ◌<◌, min, List, [], ◌∷◌, ◌++◌, length, take, drop, get_or, ◌∙◌, ap, subst, arith}
use Rattle.std.proofs.lemmas.List.{drop_all}
use Rattle.disk_model.specs.Device.{DiskState, Reads, Only, written_over}
use Rattle.disk_model.specs.Moments.{LeavesOnly, Unwritten, Uses}
use Rattle.disk_model.proofs.Runs.{joined, uses_add, uses_widened}
use Rattle.gate_file.specs.Chain.{IsNoRun, IsRunThere, IsShut, IsBeforeOrAfter, IsStaged, ends_at}
use Rattle.gate_file.specs.Gate.{Keeps}
use Rattle.gate_file.specs.First.{StandsFirst, IsBeginning}
use Rattle.gate_file.proofs.Ends.{opens_length}
use Rattle.gate_file.specs.declared.create.FirstGate.{FirstGate}
use Rattle.gate_file.specs.declared.create.FirstGate.TheVariants.{Missing, Shut}

-- one shut gate, written over at most one byte
pub one_gate : (bytes : List ℕ) → length bytes ≤ 1 → written_over bytes 0 (0 ∷ []) ≡ 0 ∷ []
one_gate bytes short = ap (λ (l : List ℕ). 0 ∷ l) (drop_all 1 bytes short)

-- a disk of a shut gate, all of it synced, keeps no bodies
pub keeps_shut : (disk : DiskState) (bytes : List ℕ) → Reads disk bytes → Only bytes disk.image → IsShut bytes → Keeps [] disk 0
keeps_shut disk bytes reads only shut = record {
  bytes = bytes;
  behind = shut.0;
  reads = reads;
  opens = shut.1;
  place = let long = ap length shut.1 in omega (arith, long);
  only = only;
}

-- what is found first on a file without a run is no run there
pub not_there : (first : FirstGate) (bytes : List ℕ) → StandsFirst first bytes → IsRunThere bytes → ⊥
not_there Missing bytes short there = absurd (omega (arith, there.0))
not_there Shut bytes shut there = there.1 shut

-- while a file is begun, an image may be one from before
from_old : (image : List ℕ → Type 0) (bodies : List (List ℕ)) (c : List ℕ) → image c → IsBeginning image bodies c
from_old image bodies c old = inl old

-- while a file is begun, an image may stand for no run
from_none : (image : List ℕ → Type 0) (bodies : List (List ℕ)) (c : List ℕ) → IsNoRun c → IsBeginning image bodies c
from_none image bodies c none = inr (inl none)

-- while a file is begun, an image may spell none of the first bodies, or all of them
from_append : (image : List ℕ → Type 0) (bodies : List (List ℕ)) (c : List ℕ) → IsBeforeOrAfter [] bodies c → IsBeginning image bodies c
from_append image bodies c (inl (rest, same, (behind, shut))) = inr (inl (inr (behind, same ∙ shut)))
from_append image bodies c (inr spelled) = inr (inr spelled)

-- a crash before the first gate is shut and synced leaves an image from before, or no run
pub moments_shut : (bodies : List (List ℕ)) (a b c : DiskState) → Unwritten a b → LeavesOnly IsNoRun b c → LeavesOnly (IsBeginning a.image bodies) a c
moments_shut bodies a b c first second = joined a.image IsNoRun (IsBeginning a.image bodies) a b c first.moments second (from_old a.image bodies) (from_none a.image bodies)

-- if what is left while the first bodies are appended is none or all of them, then a crash in the
-- whole beginning leaves an image from before, no run, or all the bodies
pub moments_added : (bodies : List (List ℕ)) (a b c : DiskState) → LeavesOnly (IsBeginning a.image bodies) a b → LeavesOnly (IsBeforeOrAfter [] bodies) b c → LeavesOnly (IsBeginning a.image bodies) a c
moments_added bodies a b c so_far added = joined (IsBeginning a.image bodies) (IsBeforeOrAfter [] bodies) (IsBeginning a.image bodies) a b c so_far added (λ x begun. begun) (from_append a.image bodies)

-- staged entries take as many bytes as their bodies' places say
pub staged_length : (bodies : List (List ℕ)) (staged : List ℕ) → IsStaged bodies staged → length staged ≡ ends_at bodies
staged_length bodies staged is = omega (arith, opens_length bodies (1 ∷ staged) (0 ∷ []) is)

-- bodies added to none are those of a file that has just begun
pub kept_anew : (bodies : List (List ℕ)) (staged : List ℕ) (disk : DiskState) → IsStaged bodies staged → Keeps ([] ++ bodies) disk (0 + length staged) → Keeps bodies disk (ends_at bodies)
kept_anew bodies staged disk is keeps =
    let same : 0 + length staged ≡ ends_at bodies = omega (arith, staged_length bodies staged is) in
    subst (Keeps bodies disk) same keeps

-- what a beginning uses: three calls to look, two to shut the first gate, and four to write and
-- open
pub begun_used : (bodies : List (List ℕ)) (staged : List ℕ) (a b c d : DiskState) → IsStaged bodies staged → Uses 3 0 a b → Uses 2 1 b c → Uses 4 (0 + 1 + length staged) c d → Uses 12 (ends_at bodies + 1) a d
begun_used bodies staged a b c d is looked shut added =
    let all = uses_add 5 4 1 (0 + 1 + length staged) a c d (uses_add 3 2 0 1 a b c looked shut) added in
    uses_widened 9 12 _ (ends_at bodies + 1) a d all (omega arith) (omega (arith, staged_length bodies staged is))

-- looking at the first gate and shutting it takes no more than a beginning may use
pub shut_used : (bodies : List (List ℕ)) (a b c : DiskState) → Uses 3 0 a b → Uses 2 1 b c → Uses 12 (ends_at bodies + 1) a c
shut_used bodies a b c looked shut = uses_widened 5 12 1 (ends_at bodies + 1) a c (uses_add 3 2 0 1 a b c looked shut) (omega arith) (omega arith)

-- the first byte, as it is read
pub first_read : (bytes into : List ℕ) (n : ℕ) → 1 < length bytes → n ≡ min 1 (length bytes - 0) → into ≡ take n (drop 0 bytes) ++ drop n (0 ∷ []) → get_or into 0 0 ≡ get_or bytes 0 0
first_read [] into n long count got = absurd (omega arith)
first_read (b ∷ rest) into n long count got =
    let one : n ≡ 1 = omega arith in
    ap (λ (l : List ℕ). get_or l 0 0) (got ∙ ap (λ (k : ℕ). take k (b ∷ rest) ++ drop k (0 ∷ [])) one)

-- a file whose first byte is 0 begins with a shut gate
pub is_shut : (bytes : List ℕ) → 0 < length bytes → get_or bytes 0 0 ≡ 0 → IsShut bytes
is_shut [] long zero = absurd (omega arith)
is_shut (b ∷ rest) long zero = (rest, ap (λ (g : ℕ). g ∷ rest) zero)

-- a file whose first byte is not 0 does not begin with a shut gate
pub not_shut : (bytes : List ℕ) → (get_or bytes 0 0 ≡ 0 → ⊥) → IsShut bytes → ⊥
not_shut bytes some (behind, is) = some (ap (λ (l : List ℕ). get_or l 0 0) is)
