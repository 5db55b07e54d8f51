-- What the first five bytes at a gate (the gate and the length) say of the entry that stands there.
-- `read_entry` (src/open.rt) rests on it.
use Rattle.std.proofs.Common.{◌≡◌, ◌≢◌, inr, ℕ, ◌+◌, ◌^◌, ◌≤◌, ◌<◌, List, ◌∷◌, ◌++◌, length, take, drop, refl, sym, ◌∙◌, ap, arith, append_assoc, take-append-drop}
use Rattle.std.proofs.lemmas.List.{take_at, drop-drop}
use Rattle.std.proofs.lemmas.Nat.{from_be_bytes-to_be_bytes_4}
use Rattle.std.specs.Int.{w32, to_be_bytes, from_be_bytes}
use Rattle.gate_file.specs.Chain.{IsEntry, IsCutShort}

-- an open gate with a length after it
module _ (rest : List ℕ) (size gate : ℕ) (is_open : gate ≢ 0) (fits : size < 2 ^ 32) (head : take 5 rest ≡ gate ∷ to_be_bytes w32 size) where
  -- the file is this gate, its length and what follows
  whole : rest ≡ gate ∷ (to_be_bytes w32 size ++ drop 5 rest)
  whole = sym (take-append-drop 5 rest) ∙ ap (λ (l : List ℕ). l ++ drop 5 rest) head

  -- if it is shorter than the entry with the next gate, the entry is cut short
  pub open_cut : length rest ≤ 5 + size → IsCutShort rest
  open_cut short =
      let number : from_be_bytes w32 (take 4 (to_be_bytes w32 size ++ drop 5 rest)) ≡ size =
      ap (from_be_bytes w32) (take_at (to_be_bytes w32 size) (drop 5 rest) 4 refl) ∙ from_be_bytes-to_be_bytes_4 size fits in
      record {
        gate = gate;
        rest = to_be_bytes w32 size ++ drop 5 rest;
        is_open = is_open;
        bytes = whole;
        short = inr (omega (arith, number, ap length whole));
      }

  -- else the entry stands whole
  pub open_entry : (body : List ℕ) → body ≡ take size (drop 5 rest) → length body ≡ size → IsEntry body rest (drop (5 + length body) rest)
  open_entry body is long = record {
    gate = gate;
    is_open = is_open;
    short = omega (arith, long, fits);
    bytes =
        let behind : drop 5 rest ≡ body ++ drop (5 + length body) rest =
        sym (take-append-drop size (drop 5 rest)) ∙ ap (λ (l : List ℕ). l ++ drop size (drop 5 rest)) (sym is) ∙ ap (λ (l : List ℕ). body ++ l) (drop-drop size 5 rest)
        ∙ ap (λ (n : ℕ). body ++ drop (5 + n) rest) (sym long) in
        whole ∙ ap (λ (l : List ℕ). gate ∷ (to_be_bytes w32 size ++ l)) behind
        ∙ ap (λ (n : ℕ). gate ∷ (to_be_bytes w32 n ++ (body ++ drop (5 + length body) rest))) (sym long)
        ∙ ap (λ (l : List ℕ). gate ∷ l) (sym (append_assoc (to_be_bytes w32 (length body)) body (drop (5 + length body) rest)));
  }
