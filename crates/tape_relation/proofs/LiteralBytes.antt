-- What holds of digits, the point and the signs holds of each byte of a literal of a tape. For Cuts
-- and Heads.
use Rattle.std.proofs.Common.{◌≡◌, ℕ, suc, ◌+◌, Bool, true, false, cond, not, ◌&&◌, List, [], ◌∷◌, take, drop, refl, arith}
use Rattle.std.specs.Char.{is_ascii_digit}
use Rattle.std.specs.List.{list_all, position_or_len, before_first, after_first}
use Rattle.nc_number.specs.Literals.{is_literal, is_sign, behind_sign, is_point, whole_part, fraction_part}
use Rattle.nc_number.proofs.Bools.{both}

-- a test that digits, the point and the signs pass
module _ (test : ℕ → Bool) (digit : (b : ℕ) → is_ascii_digit b ≡ true → test b ≡ true) (point : (b : ℕ) → is_point b ≡ true → test b ≡ true) (sign : (b : ℕ) → is_sign b ≡ true → test b ≡ true) where
  -- what holds of each digit holds of digits
  pub digits_pass : (text : List ℕ) → list_all is_ascii_digit text ≡ true → list_all test text ≡ true
  digits_pass [] e = refl
  digits_pass (b ∷ text) e = let p = both (is_ascii_digit b) (list_all is_ascii_digit text) e in rw (digit b p.0) (digits_pass text p.1)

  -- The next two: a test that the digits of both parts pass, the text of digits and a point passes;
  -- and a sign in front passes too.
  parts_pass : (text : List ℕ) → list_all is_ascii_digit (before_first is_point text) ≡ true → list_all is_ascii_digit (after_first is_point text) ≡ true → list_all test text ≡ true
  parts_pass [] p q = refl
  parts_pass (b ∷ text) p q = go (position_or_len is_point text) (is_point b) refl p q (parts_pass text)
    where
      go : (n : ℕ) (t : Bool) → is_point b ≡ t → list_all is_ascii_digit (take (cond (not t) (1 + n) 0) (b ∷ text)) ≡ true → list_all is_ascii_digit (drop (cond (not t) (1 + n) 0 + 1) (b ∷ text)) ≡ true
          → (list_all is_ascii_digit (take n text) ≡ true → list_all is_ascii_digit (drop (n + 1) text) ≡ true → list_all test text ≡ true) → list_all test (b ∷ text) ≡ true
      go n true is front back later = rw (point b is) (digits_pass text back)
      go n false is front back later =
          let one : 1 + n ≡ suc n = omega arith in
          let two : suc n + 1 ≡ suc (n + 1) = omega arith in
          let f : list_all is_ascii_digit (b ∷ take n text) ≡ true = rw one at front in
          let g : list_all is_ascii_digit (drop (suc n + 1) (b ∷ text)) ≡ true = rw one at back in
          let h : list_all is_ascii_digit (drop (n + 1) text) ≡ true = rw two at g in
          let p = both (is_ascii_digit b) (list_all is_ascii_digit (take n text)) f in rw (digit b p.0) (later p.1 h)

  unsigned_pass : (text : List ℕ) → list_all test (behind_sign text) ≡ true → list_all test text ≡ true
  unsigned_pass [] e = refl
  unsigned_pass (b ∷ text) e = go (is_sign b) refl e
    where
      go : (t : Bool) → is_sign b ≡ t → list_all test (cond t text (b ∷ text)) ≡ true → list_all test (b ∷ text) ≡ true
      go true is h = rw (sign b is) h
      go false is h = h

  -- a test that digits, points and signs pass, each byte of a literal passes
  pub literal_pass : (text : List ℕ) → is_literal text ≡ true → list_all test text ≡ true
  literal_pass text e =
      let p = both (list_all is_ascii_digit (whole_part text) && list_all is_ascii_digit (fraction_part text)) _ e in
      let q = both (list_all is_ascii_digit (whole_part text)) (list_all is_ascii_digit (fraction_part text)) p.0 in unsigned_pass text (parts_pass (behind_sign text) q.0 q.1)
