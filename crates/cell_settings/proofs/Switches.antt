-- The bits of a mask of skip switches. For the proofs of `with_switch` and `without_switch`
-- (src/settings.rt).
use Rattle.std.proofs.Common.{◌≡◌, ℕ, ◌^◌, ◌-◌, ◌≤◌, max, min, bit_and, bit_or, inl, inr, sym, ◌∙◌, arith}
use Rattle.std.specs.Int.{bit_at}
use Rattle.std.proofs.lemmas.Bool.{cases_eq}
use Rattle.std.proofs.lemmas.Nat.Bits.{bit_at_and, bit_at_or, bit_at-pow_other}
use Rattle.cell_settings.specs.Settings.{IsSwitches}

-- a mask of switches with one switch more from 1 to 9 is a mask of switches
pub switches_more : (mask switch : ℕ) → IsSwitches mask → 1 ≤ switch → switch ≤ 9 → IsSwitches (bit_or mask (2 ^ switch))
switches_more mask switch before least greatest = record {
  only = λ n set. elim (cases_eq n switch) [
    | inl same ↦ (omega arith, omega arith)
    | inr other ↦ before.only n (let either : max (bit_at mask n) (bit_at (2 ^ switch) n) ≡ 1 = sym (bit_at_or mask (2 ^ switch) n) ∙ set in omega (arith, either, bit_at-pow_other switch n other))
  ];
}

-- a part of a mask of switches is a mask of switches
pub switches_less : (mask other : ℕ) → IsSwitches mask → IsSwitches (bit_and mask other)
switches_less mask other before = record {
  only = λ n set. before.only n (let both : min (bit_at mask n) (bit_at other n) ≡ 1 = sym (bit_at_and mask other n) ∙ set in
      omega (arith, both));
}
