-- What a read gives after a write, and that a write done or not done leaves no more than a torn one
-- may. For Kept.antt and the proofs of src/memory.rt.
use Rattle.std.proofs.Common.{◌≡◌, ◌⊎◌, inl, inr, ℕ, ◌+◌, ◌-◌, ◌≤◌, ◌<◌, max, List, ◌++◌, length, take, drop, replicate, get_or, refl, sym, ◌∙◌, ap, arith, append_assoc, length-append, length-drop}
use Rattle.std.proofs.lemmas.Bool.{cases_lt}
use Rattle.std.proofs.lemmas.List.{take_at, take_all, drop_all, take-append-le, length-take, length-replicate, replicate-append-replicate, append-nil, get_or_append_left, get_or-append_right, get_or-take, get_or-drop}
use Rattle.disk_model.specs.Device.{written_over, Torn}

-- up to the write's offset, the file filled up to the write's end is the file filled up to its
-- offset
front : (old : List ℕ) (at n : ℕ) → take at (old ++ replicate (at + n - length old) 0) ≡ take at (old ++ replicate (at - length old) 0)
front old at n = elim (cases_lt (length old) at) [
  | inl past ↦
      let long : at + n - length old ≡ (at - length old) + n = omega arith in
      let split : ◌≡◌ {A = List ℕ} (replicate (at + n - length old) 0) (replicate (at - length old) 0 ++ replicate n 0) = ap (λ (k : ℕ). replicate k 0) long ∙ sym (replicate-append-replicate (at - length old) n 0) in
      let begin = old ++ replicate (at - length old) 0 in
      let size : length begin ≡ at = omega (arith, length-append old (replicate (at - length old) 0), length-replicate {A = ℕ} (at - length old) 0) in
      ap (λ (l : List ℕ). take at (old ++ l)) split ∙ ap (take at) (sym (append_assoc old (replicate (at - length old) 0) (replicate n 0)))
      ∙ take_at begin (replicate n 0) at size ∙ sym (take_all at begin (omega (arith, size)))
  | inr within ↦ take-append-le at old (replicate (at + n - length old) 0) within ∙ sym (take-append-le at old (replicate (at - length old) 0) within)
]

-- behind the write's end the file filled up to it is as it was
back : (old : List ℕ) (end : ℕ) → drop end (old ++ replicate (end - length old) 0) ≡ drop end old
back old end = elim (cases_lt (length old) end) [
  | inl past ↦
      drop_all end (old ++ replicate (end - length old) 0) (omega (arith, length-append old (replicate (end - length old) 0), length-replicate {A = ℕ} (end - length old) 0))
      ∙ sym (drop_all end old (omega arith))
  | inr within ↦
      let none : end - length old ≡ 0 = omega arith in
      ap (λ (k : ℕ). drop end (old ++ replicate k 0)) none ∙ ap (drop end) (append-nil old)
]

-- the file with the bytes written over it is the file filled up to the write's end, and the bytes
-- put in
pub filled_up : (old : List ℕ) (at : ℕ) (bytes long : List ℕ) → long ≡ old ++ replicate (at + length bytes - length old) 0
    → take at long ++ bytes ++ drop (at + length bytes) long ≡ written_over old at bytes
filled_up old at bytes long is =
    ap (λ (l : List ℕ). take at l ++ bytes ++ drop (at + length bytes) l) is
    ∙ ap (λ (l : List ℕ). l ++ bytes ++ drop (at + length bytes) (old ++ replicate (at + length bytes - length old) 0)) (front old at (length bytes))
    ∙ ap (λ (l : List ℕ). take at (old ++ replicate (at - length old) 0) ++ bytes ++ l) (back old (at + length bytes))

-- A write of these bytes at this offset over old ones.
module _ (old : List ℕ) (at : ℕ) (bytes : List ℕ) where
  -- what stands before the write has its offset as length
  pub length-front : length (take at (old ++ replicate (at - length old) 0)) ≡ at
  length-front = simp (length-take, length-append, length-replicate) (omega arith)

  -- the length after the write: the old one, or the write's end
  pub length-written_over : length (written_over old at bytes) ≡ max (length old) (at + length bytes)
  length-written_over =
      omega (arith, length-front, length-append (take at (old ++ replicate (at - length old) 0) ++ bytes) (drop (at + length bytes) old), length-append (take at (old ++ replicate (at - length old) 0)) bytes, length-drop (at + length bytes) old)

  -- a byte of before outside the range of the write stays
  stays : (i : ℕ) → i < length old → (i < at) ⊎ (at + length bytes ≤ i) → get_or (written_over old at bytes) i 0 ≡ get_or old i 0
  stays i within (inl ahead) =
      let begin = take at (old ++ replicate (at - length old) 0) in
      get_or_append_left (begin ++ bytes) (drop (at + length bytes) old) 0 i (omega (arith, length-front, length-append begin bytes))
      ∙ get_or_append_left begin bytes 0 i (omega (arith, length-front))
      ∙ get_or-take at (old ++ replicate (at - length old) 0) i 0 ahead
      ∙ get_or_append_left old (replicate (at - length old) 0) 0 i within
  stays i within (inr behind) =
      let begin = take at (old ++ replicate (at - length old) 0) in
      let size : length (begin ++ bytes) ≡ at + length bytes = omega (arith, length-front, length-append begin bytes) in
      let place : at + length bytes + (i - (at + length bytes)) ≡ i = omega arith in
      get_or-append_right (begin ++ bytes) (drop (at + length bytes) old) (at + length bytes) i 0 size behind
      ∙ get_or-drop (at + length bytes) old (i - (at + length bytes)) 0
      ∙ ap (λ (k : ℕ). get_or old k 0) place

  -- a write that was done is one that was torn
  pub torn_by_write : Torn at (length bytes) old (written_over old at bytes)
  torn_by_write = record {
    no_shorter = omega (arith, length-written_over);
    no_longer = omega (arith, length-written_over);
    outside = stays;
  }

-- a write that wrote nothing left what a torn write may leave
pub torn_not : (at n : ℕ) (bytes : List ℕ) → Torn at n bytes bytes
torn_not at n bytes = record { no_shorter = omega arith; no_longer = omega arith; outside = λ i within apart. refl }
