-- Labels that are added once, and many times, and when they become too many. For Taken and the
-- proofs of src/piece.rt.
use Rattle.std.proofs.Common.{◌≡◌, ℕ, zero, suc, ◌+◌, ◌<◌, ◌≤◌, List, [], ◌∷◌, ◌++◌, length, drop, refl, ap, sym, ◌∙◌, arith, append_assoc}
use Rattle.std.proofs.lemmas.List.{append-nil, length-append}
use Rattle.std.proofs.Math.Seq.{drop-cons}
use Rattle.label_list.specs.declared.fault.PairFault.{PairFault}
use Rattle.label_list.specs.declared.labelled.Labelled.{Labelled}
use Rattle.label_list.specs.Lists.{times}
use Rattle.label_list.specs.Pieces.{repeated_labels, IsTooLong}

-- n + 1 times the labels are n times and once more behind.
pub repeated_labels-more : (n : ℕ) (xs : List Labelled) → repeated_labels (n + 1) xs ≡ repeated_labels n xs ++ xs
repeated_labels-more zero xs = append-nil xs
repeated_labels-more (suc n) xs =
    let e : suc n + 1 ≡ suc (n + 1) = omega arith in
    ap (λ k. repeated_labels k xs) e ∙ (ap (λ ys. xs ++ ys) (repeated_labels-more n xs) ∙ sym (append_assoc xs (repeated_labels n xs) xs))

-- No label, however often, is none.
pub repeated_labels-none : (n : ℕ) (xs : List Labelled) → length xs ≡ 0 → repeated_labels n xs ≡ []
repeated_labels-none n (x ∷ xs) e = absurd (omega arith)
repeated_labels-none zero [] e = refl
repeated_labels-none (suc n) [] e = repeated_labels-none n [] e

-- If each call adds the same labels, n calls add them n times.
pub times_repeated : (n : ℕ) (f : List Labelled → List Labelled) (xs behind : List Labelled) → ((k : List Labelled) → f k ≡ xs ++ k)
    → times n f behind ≡ repeated_labels n xs ++ behind
times_repeated zero f xs behind is = refl
times_repeated (suc n) f xs behind is =
    is (times n f behind) ∙ (ap (λ ys. xs ++ ys) (times_repeated n f xs behind is) ∙ sym (append_assoc xs (repeated_labels n xs) behind))

-- Fewer runs than n, with one more, give no more labels than n runs.
repeated_labels-longer : (i n : ℕ) (xs : List Labelled) → i < n → length (repeated_labels i xs) + length xs ≤ length (repeated_labels n xs)
repeated_labels-longer i zero xs lt = absurd (omega arith)
repeated_labels-longer zero (suc n) xs lt = omega (arith, length-append xs (repeated_labels n xs))
repeated_labels-longer (suc i) (suc n) xs lt =
    omega (arith, repeated_labels-longer i n xs (omega arith), length-append xs (repeated_labels n xs), length-append xs (repeated_labels i xs))

-- If one label more of those that are to be added is too much, all of them are.
pub appended_one : (old now more : List Labelled) (i : ℕ) (d : Labelled) (fault : PairFault) → i < length more
    → now ++ drop i more ≡ old ++ more → IsTooLong now (d ∷ []) fault → IsTooLong old more fault
appended_one old now more i d fault within are long =
    record {
      is = long.is;
      long = let e = ap length (ap (λ ys. now ++ ys) (drop-cons more i d within)) in
          omega (arith, long.long, ap length are, length-append now (drop i more), length-append old more, length-drop more i);
    }
  where
    length-drop : (xs : List Labelled) (k : ℕ) → length xs ≤ length (drop k xs) + k
    length-drop [] k = omega arith
    length-drop (x ∷ xs) zero = omega arith
    length-drop (x ∷ xs) (suc k) = omega (arith, length-drop xs k)

-- If one run more of those that are to be added is too much, all of them are.
pub times_too_long : (old now more : List Labelled) (i n : ℕ) (fault : PairFault) → i < n → now ≡ old ++ repeated_labels i more
    → IsTooLong now more fault → IsTooLong old (repeated_labels n more) fault
times_too_long old now more i n fault lt are long =
    record {
      is = long.is;
      long = omega (arith, long.long, ap length are, length-append old (repeated_labels i more), repeated_labels-longer i n more lt);
    }
