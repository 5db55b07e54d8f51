-- Bytes that are put after others in a slice, and a record that is put: its path and its kind, and
-- then its stamps or its numbers. For the proofs of src/entry.rt.
use Rattle.std.proofs.Common.{◌≡◌, ℕ, suc, ◌+◌, ◌-◌, ◌≤◌, List, [], ◌∷◌, ◌++◌, length, take, drop, set, refl, sym, ◌∙◌, ap, arith, append_assoc, length-append, length-drop}
use Rattle.std.proofs.lemmas.List.{take_at, drop_at, drop-drop, drop_all, take_rest, append-nil, set_split, length-take-le}
use borrow.Rule.Slice.PartMut.{put_mid}

-- after bytes at the front, and then more bytes after them, both stand at the front
pub put_next : (front back old now mid buf : List ℕ) (k m : ℕ) → length front ≡ k → k + m ≤ length old → now ≡ front ++ drop k old → mid ≡ take (length now - k) (drop k now) → buf ≡ back ++ drop m mid
    → put_mid k (length now - k) now buf ≡ front ++ (back ++ drop (k + m) old)
put_next front back old now mid buf k m long room is mid_is buf_is =
    let head : take k now ≡ front = ap (take k) is ∙ take_at front (drop k old) k long in
    let behind : drop k now ≡ drop k old = ap (drop k) is ∙ drop_at front (drop k old) k long in
    let left : mid ≡ drop k old = mid_is ∙ take_rest now k ∙ behind in
    let none : drop (length now - k) (drop k now) ≡ [] = drop_all (length now - k) (drop k now) (omega (arith, length-drop k now)) in
    ap (λ (l : List ℕ). l ++ (buf ++ drop (length now - k) (drop k now))) head
    ∙ ap (λ (l : List ℕ). front ++ (buf ++ l)) none
    ∙ ap (λ (l : List ℕ). front ++ l) (append-nil buf ∙ buf_is ∙ ap (λ (l : List ℕ). back ++ drop m l) left ∙ ap (λ (l : List ℕ). back ++ l) (drop-drop m k old))

-- a byte that is written to the front changes no other
pub set_front : (old : List ℕ) (x : ℕ) → 1 ≤ length old → set old 0 x ≡ x ∷ drop 1 old
set_front [] x some = absurd (omega arith)
set_front (y ∷ old) x some = refl

-- a byte that is written to the third place changes no other
pub set_third : (old : List ℕ) (x : ℕ) → 3 ≤ length old → set old 2 x ≡ (take 2 old ++ x ∷ []) ++ drop 3 old
set_third old x some = set_split old 2 x (omega arith) ∙ sym (append_assoc (take 2 old) (x ∷ []) (drop 3 old))

-- path, kind and one byte more are three bytes
pub length_third : (old : List ℕ) (x : ℕ) → 3 ≤ length old → length (take 2 old ++ x ∷ []) ≡ 3
length_third old x some = omega (arith, length-append (take 2 old) (x ∷ []), length-take-le 2 old (omega arith))

-- A record is put: path and kind, and then the rest of its bytes. `old` is the slice before, `one`
-- that with the path `p` and the kind `k` put, `new` that with the rest, `body`, put too; `size` is
-- the length of the record.
module _ (p k : ℕ) (body old one new : List ℕ) (size : ℕ) (long : size ≡ suc (suc (length body))) (head : one ≡ p ∷ k ∷ drop 2 old) (is : new ≡ take 2 one ++ (body ++ drop size one)) where
  -- the slice is the record, and then what stood behind its place
  put_all : new ≡ (p ∷ k ∷ body) ++ drop size old
  put_all =
      let front : take 2 one ≡ p ∷ k ∷ [] = ap (take 2) head in
      let all : 2 + length body ≡ size = omega (arith, long) in
      let behind : drop size one ≡ drop size old =
      ap (λ n. drop n one) long ∙ ap (drop (suc (suc (length body)))) head ∙ drop-drop (length body) 2 old ∙ ap (λ n. drop n old) all in
      is ∙ (λ i. front i ++ (body ++ behind i))

  -- the bytes at the front are the record's
  pub put_front : take size new ≡ p ∷ k ∷ body
  put_front = ap (take size) put_all ∙ take_at (p ∷ k ∷ body) (drop size old) size (omega (arith, long))

  -- the bytes after the record are as they were
  pub put_back : drop size new ≡ drop size old
  put_back = ap (drop size) put_all ∙ drop_at (p ∷ k ∷ body) (drop size old) size (omega (arith, long))
