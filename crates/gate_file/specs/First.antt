-- What may stand at the front of a file of gates and at each gate (`FirstGate` of src/create.rt,
-- `Head` of src/open.rt), and what a crash may leave of a file that is being begun. Creation cites
-- the latter, `IsBeginning`.
use Rattle.std.specs.Prelude.{◌≡◌, ◌≢◌, ◌⊎◌, ℕ, ◌^◌, ◌≤◌, ◌<◌, List, ◌∷◌, length}
use Rattle.std.specs.Int.{w32, to_be_bytes}
use Rattle.gate_file.specs.declared.create.FirstGate.{FirstGate}
use Rattle.gate_file.specs.declared.create.FirstGate.TheVariants.{Missing, Shut}
use Rattle.gate_file.specs.declared.open.Head.{Head}
use Rattle.gate_file.specs.declared.open.Head.TheVariants.{Shut as ShutHead, Open as OpenHead, Cut as CutHead}
use Rattle.gate_file.specs.Chain.{IsNoRun, IsShut, Spells}

-- what is found at the front of a file without a run: one byte at most, or a shut gate
abbrev pub StandsFirst : FirstGate → List ℕ → Type 0
StandsFirst Missing bytes = length bytes ≤ 1
StandsFirst Shut bytes = IsShut bytes

-- what the first five bytes at a gate say, the gate and its length of four bytes: that it is shut,
-- how long the body after it is, or that the file ends before
abbrev pub IsHead : Head → List ℕ → Type 0
IsHead ShutHead bytes = IsShut bytes
IsHead (OpenHead size) bytes = (gate : ℕ) × (gate ≢ 0) × (size < 2 ^ 32) × (bytes ≡ gate ∷ to_be_bytes w32 size)
IsHead CutHead bytes = (length bytes < 5) × (IsShut bytes → ⊥)

-- while a file is begun: an image from before, or no run, or all its bodies
abbrev pub IsBeginning : (List ℕ → Type 0) → List (List ℕ) → List ℕ → Type 0
IsBeginning image bodies file = image file ⊎ (IsNoRun file ⊎ Spells bodies file)
