-- Where a file of gates ends: its shut gate stands at the offset that its bodies give.
-- `a_file_ends_behind_its_bodies` (src/laws.rt) rests on it.
use Rattle.std.proofs.Common.{◌≡◌, ℕ, ◌+◌, List, [], ◌∷◌, length, ap, arith}
use Rattle.disk_model.specs.Device.{DiskState}
use Rattle.gate_file.specs.Chain.{Opens, ends_at}
use Rattle.gate_file.specs.Gate.{Keeps}
use Rattle.gate_file.proofs.Unique.{length-file}

-- a file is as long as its entries and the rest
pub opens_length : (bodies : List (List ℕ)) (file rest : List ℕ) → Opens bodies file rest → length file ≡ ends_at bodies + length rest
opens_length [] file rest same = omega (arith, ap length same)
opens_length (body ∷ bodies) file rest (after, is, opens) = omega (arith, length-file body file after is, opens_length bodies after rest opens)

-- the shut gate stands where the bodies put it
pub keeps_end : (bodies : List (List ℕ)) (disk : DiskState) (end : ℕ) → Keeps bodies disk end → end ≡ ends_at bodies
keeps_end bodies disk end keeps = omega (arith, keeps.place, opens_length bodies keeps.bytes (0 ∷ keeps.behind) keeps.opens)
