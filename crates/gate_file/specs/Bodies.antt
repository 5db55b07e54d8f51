-- Bodies that are kept in memory in one list of bytes as a file of gates has them, each after a
-- gate and its length, five bytes, with the offsets where they end: what a `BodyList`
-- (src/body_list.rt) is. No other crate cites this file.
use Rattle.std.specs.Prelude.{◌≡◌, ℕ, ◌+◌, ◌-◌, ◌≤◌, List, [], ◌∷◌, length, take, drop}
use Rattle.gate_file.specs.Chain.{Opens}

-- the bytes between two offsets
abbrev pub bytes_between : ℕ → ℕ → List ℕ → List ℕ
bytes_between start end bytes = take (end - start) (drop start bytes)

-- the bodies in a list of bytes, by the offsets of their ends: the first stands after the five
-- bytes at `start`, and each next one after the five at the end before it
abbrev pub bodies_from : ℕ → List ℕ → List ℕ → List (List ℕ)
bodies_from start [] bytes = []
bodies_from start (end ∷ ends) bytes = bytes_between (start + 5) end bytes ∷ bodies_from end ends bytes

-- the offsets are ends of bodies from `start` on: before each body there is room for five bytes,
-- and the last offset is the length
abbrev pub AreEnds : ℕ → List ℕ → ℕ → Type 0
AreEnds start [] len = start ≡ len
AreEnds start (end ∷ ends) len = (start + 5 ≤ end) × AreEnds end ends len

-- the offsets are those of the bodies' ends, and the bytes are the bodies' entries, each after an
-- open gate
pub record AreBodies (ends bytes : List ℕ) : Type 0 where
  -- the offsets are in order, with room for a gate and a length before each body
  pub are_ends : AreEnds 0 ends (length bytes)
  -- the bytes are the entries of the bodies, and nothing more
  pub opens : Opens (bodies_from 0 ends bytes) bytes []
