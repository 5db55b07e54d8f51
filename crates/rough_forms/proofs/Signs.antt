-- Lengths that are seen with the other sign.
use Rattle.std.proofs.Common.{◌≡◌, ℕ, zero, suc, ℤ, pos, neg_ℤ, ◌+ℤ◌, ◌*ℤ◌, refl, ap, ◌∙◌, arith, Option, Some, None, inl, inr}
use Rattle.std.specs.Prelude.{unwrap_or}
use Rattle.std.proofs.lemmas.Int.{ints}
use Rattle.std.proofs.Math.IntN.{suc_ℤ-*ℤ, zero-*ℤ}
use Rattle.nc_number.specs.Distances.{distance, IsBetween}
use Rattle.rough_forms.specs.declared.frame.Sight.{Sight}
use Rattle.rough_forms.specs.declared.frame.Sight.TheVariants.{Plain, Mirrored}
use Rattle.rough_forms.specs.Frames.{signed, signed_if}

-- a length negated twice
neg_neg : (a : ℤ) → neg_ℤ (neg_ℤ a) ≡ a
neg_neg a = omega (arith, ints)

-- a length in parts, negated
scaled_neg : (d : ℕ) (a : ℤ) → (pos d *ℤ neg_ℤ a) ≡ neg_ℤ (pos d *ℤ a)
scaled_neg zero a = rw (zero-*ℤ (neg_ℤ a), zero-*ℤ a) refl
scaled_neg (suc d) a =
    let rest = scaled_neg d a in
    let one : (pos (suc d) *ℤ neg_ℤ a) ≡ (pos d *ℤ neg_ℤ a +ℤ neg_ℤ a) = suc_ℤ-*ℤ (pos d) (neg_ℤ a) in
    let other : (pos (suc d) *ℤ a) ≡ (pos d *ℤ a +ℤ a) = suc_ℤ-*ℤ (pos d) a in
    rw (one, other) (omega (arith, ints, rest))

-- a length seen twice
pub signed_twice : (s : Sight) (a : ℤ) → signed s (signed s a) ≡ a
signed_twice Plain a = refl
signed_twice Mirrored a = neg_neg a

-- a length in parts is seen as the parts of what is seen
pub scaled_signed : (s : Sight) (d : ℕ) (a : ℤ) → (pos d *ℤ signed s a) ≡ signed s (pos d *ℤ a)
scaled_signed Plain d a = refl
scaled_signed Mirrored d a = scaled_neg d a

-- lengths are as far apart as they are seen
pub apart_signed : (s : Sight) (a b : ℤ) → distance (signed s a) (signed s b) ≡ distance a b
apart_signed Plain a b = refl
apart_signed Mirrored a b = omega (arith, ints)

-- the same, if one is in parts
pub apart_parts : (s : Sight) (d : ℕ) (b a : ℤ) → distance (signed s b) (pos d *ℤ signed s a) ≡ distance b (pos d *ℤ a)
apart_parts s d b a = ap (distance (signed s b)) (scaled_signed s d a) ∙ apart_signed s b (pos d *ℤ a)

-- the same, if both are in parts
pub apart_both : (s : Sight) (d : ℕ) (b a : ℤ) → distance (pos d *ℤ signed s b) (pos d *ℤ signed s a) ≡ distance (pos d *ℤ b) (pos d *ℤ a)
apart_both s d b a = ap (λ n. distance n (pos d *ℤ signed s a)) (scaled_signed s d b) ∙ apart_parts s d (pos d *ℤ b) a

-- what lies between two lengths does so as it is seen
between_signed : (s : Sight) (a b c : ℤ) → IsBetween a b c → IsBetween (signed s a) (signed s b) (signed s c)
between_signed Plain a b c is = is
between_signed Mirrored a b c (inl up) = inr (omega (arith, ints, up.1), omega (arith, ints, up.0))
between_signed Mirrored a b c (inr down) = inl (omega (arith, ints, down.1), omega (arith, ints, down.0))

-- the same, if the ends are in parts
pub amid_signed : (s : Sight) (d : ℕ) (a b c : ℤ) → IsBetween (pos d *ℤ a) b (pos d *ℤ c) → IsBetween (pos d *ℤ signed s a) (signed s b) (pos d *ℤ signed s c)
amid_signed s d a b c is = rw (scaled_signed s d a, scaled_signed s d c) (between_signed s (pos d *ℤ a) b (pos d *ℤ c) is)

-- a length and one that is told, as they are seen
pub sum_signed : (s : Sight) (a b : ℤ) → signed s (a +ℤ signed s b) ≡ (signed s a +ℤ b)
sum_signed Plain a b = refl
sum_signed Mirrored a b = omega (arith, ints)

-- the same with twice the one that is told
pub twice_signed : (s : Sight) (a b : ℤ) → signed s (a +ℤ pos 2 *ℤ signed s b) ≡ (signed s a +ℤ pos 2 *ℤ b)
twice_signed Plain a b = refl
twice_signed Mirrored a b = omega (arith, ints)

-- where an axis is after a word that is told, as it is seen
pub after_signed : (s : Sight) (x : Option ℤ) (b : ℤ) → signed s (unwrap_or (signed_if s x) b) ≡ unwrap_or x (signed s b)
after_signed s None b = refl
after_signed s (Some a) b = signed_twice s a
