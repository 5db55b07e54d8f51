-- What a file of gates spells: gate, length, body, gate, length, body, and so on, up to the first
-- shut gate. A gate is shut if its byte is 0, and open if it is any other byte, since a write that
-- was stopped may leave any byte. What stands after the first shut gate counts for nothing.
use Rattle.std.specs.Prelude.{◌≡◌, ◌≢◌, ◌⊎◌, ℕ, ◌+◌, ◌^◌, ◌≤◌, ◌<◌, List, [], ◌∷◌, ◌++◌, length, take}
use Rattle.std.specs.Int.{w32, to_be_bytes, from_be_bytes}

-- a body after its length, of four bytes, the high one first
abbrev pub entry : List ℕ → List ℕ
entry body = to_be_bytes w32 (length body) ++ body

-- the file is an open gate and this body's entry, and then stands the rest
pub record IsEntry (body file rest : List ℕ) : Type 0 where
  -- the byte of the gate
  pub gate : ℕ
  -- the gate is open
  pub is_open : gate ≢ 0
  -- the length of the body fits four bytes
  pub short : length body < 2 ^ 32
  -- the file is the gate, the entry and the rest
  pub bytes : file ≡ gate ∷ (entry body ++ rest)

-- the file begins with the entries of these bodies, each after an open gate, and then stands the
-- rest
abbrev pub Opens : List (List ℕ) → List ℕ → List ℕ → Type 0
Opens [] file rest = file ≡ rest
Opens (body ∷ bodies) file rest = (after : List ℕ) × IsEntry body file after × Opens bodies after rest

-- a shut gate stands first
abbrev pub IsShut : List ℕ → Type 0
IsShut file = (behind : List ℕ) × (file ≡ 0 ∷ behind)

-- the file spells these bodies: their entries, each after an open gate, and then a shut gate
abbrev pub Spells : List (List ℕ) → List ℕ → Type 0
Spells bodies file = (rest : List ℕ) × Opens bodies file rest × IsShut rest

-- the file stands for no run: it has one byte at most, or its first gate is shut
abbrev pub IsNoRun : List ℕ → Type 0
IsNoRun file = (length file ≤ 1) ⊎ IsShut file

-- a run is there: the first gate is open, and more than it is there
abbrev pub IsRunThere : List ℕ → Type 0
IsRunThere file = (1 < length file) × (IsShut file → ⊥)

-- an open gate, whose entry with the gate after it does not end inside the file
pub record IsCutShort (file : List ℕ) : Type 0 where
  -- the byte of the gate
  pub gate : ℕ
  -- the bytes after it
  pub rest : List ℕ
  -- the gate is open
  pub is_open : gate ≢ 0
  -- the file is the gate and these bytes
  pub bytes : file ≡ gate ∷ rest
  -- the file ends inside the four bytes of the length, or inside the body with the next gate (the
  -- length says the bytes of the body: with its own four and one gate, five more)
  pub short : (length rest < 4) ⊎ (length rest < from_be_bytes w32 (take 4 rest) + 5)

-- the entry of the open gate at this offset is cut short, and those before it are whole
pub record IsCutAt (at : ℕ) (file : List ℕ) : Type 0 where
  -- the bodies of the whole entries before it
  pub bodies : List (List ℕ)
  -- the bytes of the file from its gate on
  pub rest : List ℕ
  -- a file of one byte at most is no run instead
  pub begins : 1 < length file
  -- the entries before it are whole
  pub opens : Opens bodies file rest
  -- its gate stands at the offset
  pub place : at + length rest ≡ length file
  -- it is cut short itself
  pub cut : IsCutShort rest

-- the file spells the first bodies alone, or these and then all of `more`
abbrev pub IsBeforeOrAfter : List (List ℕ) → List (List ℕ) → List ℕ → Type 0
IsBeforeOrAfter bodies more file = Spells bodies file ⊎ Spells (bodies ++ more) file

-- the bytes to be written after a shut gate: once it is open, these bodies stand there, and a shut
-- gate after them
abbrev pub IsStaged : List (List ℕ) → List ℕ → Type 0
IsStaged bodies bytes = Opens bodies (1 ∷ bytes) (0 ∷ [])

-- where the shut gate stands after these bodies: each takes a gate, four bytes of length, and its
-- own
abbrev pub ends_at : List (List ℕ) → ℕ
ends_at [] = 0
ends_at (body ∷ bodies) = 5 + length body + ends_at bodies
