-- What is known of a file of gates once its entries were read up to an offset.
-- `read_all` (src/open.rt) rests on it, by Refusals too.
use Rattle.std.proofs.Common.{◌≡◌, inr, ℕ, ◌+◌, ◌*◌, ◌≤◌, ◌<◌, List, length, drop, ◌∙◌, ap, subst, arith, length-drop}
use Rattle.disk_model.specs.Device.{DiskState, Reads, IsSettled}
use Rattle.disk_model.specs.Moments.{Unwritten, Uses}
use Rattle.gate_file.specs.Chain.{Opens, IsShut, IsNoRun, IsCutShort, IsCutAt}
use Rattle.gate_file.specs.Gate.{Keeps, OpeningUses}

-- an entry that is cut short in a file whose entries before it are whole
pub cut_at : (bodies : List (List ℕ)) (bytes : List ℕ) (at : ℕ) → 1 < length bytes → at < length bytes → Opens bodies bytes (drop at bytes) → IsCutShort (drop at bytes) → IsCutAt at bytes
cut_at bodies bytes at begins within opens cut = record {
  bodies = bodies;
  rest = drop at bytes;
  begins = begins;
  opens = opens;
  place = omega (arith, length-drop at bytes);
  cut = cut;
}

-- what an opening uses, if it has read these bodies or has not begun to
pub uses_opening : (a c : DiskState) (bodies : List (List ℕ)) (bytes rest : List ℕ) (k : ℕ) → Reads a bytes → Opens bodies bytes rest → Uses k 0 a c → k ≤ 4 * (length bodies + 1) + 4 → OpeningUses bytes a c
uses_opening a c bodies bytes rest k reads opens uses enough = record {
  bodies = bodies;
  rest = rest;
  opens = opens;
  calls = omega (arith, uses.calls bytes reads, enough);
  reach = omega (arith, uses.reach bytes reads);
  allows = uses.allows;
}

-- a disk that was only read and ends in a shut gate keeps the bodies read
pub keeps_read : (a b c : DiskState) (bodies : List (List ℕ)) (bytes : List ℕ) (end : ℕ) → Reads a bytes → Unwritten a b → IsSettled b → Unwritten b c → end < length bytes → Opens bodies bytes (drop end bytes) → IsShut (drop end bytes) → Keeps bodies c end
keeps_read a b c bodies bytes end reads first durable second within opens shut = record {
  bytes = bytes;
  behind = shut.0;
  reads = second.same ∙ first.same ∙ reads;
  opens = subst (Opens bodies bytes) shut.1 opens;
  place = let long = ap length shut.1 in omega (arith, long, length-drop end bytes);
  only = λ x here. durable bytes (first.same ∙ reads) x (second.now x here);
}

-- a shut gate at the start is no run
pub shut_from_start : (bytes : List ℕ) (end : ℕ) → end ≡ 0 → IsShut (drop end bytes) → IsNoRun bytes
shut_from_start bytes end none shut = inr (subst (λ (n : ℕ). IsShut (drop n bytes)) none shut)
