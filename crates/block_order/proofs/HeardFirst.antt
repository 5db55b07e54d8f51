-- Flags that are set of loud programs alone, and rounds that begin with them. A program is loud if
-- it has a wait or an end, or calls one that has. A round looks at all programs by what the round
-- before it knew. For the proofs of src/loud.rt.
use Rattle.std.proofs.Common.{◌≡◌, ℕ, zero, suc, ◌+◌, ◌<◌, inl, inr, Bool, true, false, List, [], length, map, Some, slice_set, refl, ap, sym, subst, ◌∙◌, arith}
use Rattle.block_order.specs.declared.numbers.ProgramNumbers.{ProgramNumbers}
use Rattle.block_order.specs.declared.program.ControlProgram.{ControlProgram}
use Rattle.block_order.specs.Order.{blocks}
use Rattle.block_order.specs.Loud.{has_loud_block, known_loud, loud}
use Rattle.block_order.specs.ProgramPlaces.{place_of, is_flagged}
use Rattle.block_order.specs.Numbers.{KnowsPlaces}
use Rattle.block_order.specs.Heard.{flag_known}
use Rattle.block_order.proofs.Flags.{flag_of_blocks, flag_set, known_is_flagged, none_known}
use Rattle.block_order.proofs.LoudReaches.{IsWithin, has_within, loud-has}

-- A program with a block that is loud by a test that holds of loud programs alone is loud.
look_is_loud : (tape : List ControlProgram) (known : ℕ → Bool) → IsWithin known (loud tape) → (q : ℕ)
    → has_loud_block known (blocks tape q) ≡ true → loud tape q ≡ true
look_is_loud tape known within q e = loud-has tape q ∙ has_within known (loud tape) within (blocks tape q) e

-- If only loud programs are flagged and one of them has a block that is loud by these flags, then
-- with its flag set too still only loud programs are flagged.
pub one_heard : (tape : List ControlProgram) (numbers : ProgramNumbers) (flags : List Bool) (number place : ℕ)
    → KnowsPlaces tape numbers → IsWithin (is_flagged tape flags) (loud tape)
    → has_loud_block (flag_known numbers flags) (blocks tape number) ≡ true
    → place_of tape number ≡ Some place → place < length flags
    → IsWithin (is_flagged tape (slice_set flags place true)) (loud tape)
one_heard tape numbers flags number place knows within noisy is fits q e =
    elim ((flag_set tape flags number place is fits q).0 e) [
      | inl old ↦ within q old
      | inr same ↦ subst (λ r. loud tape r ≡ true) (sym same)
          (look_is_loud tape (is_flagged tape flags) within number
          (ap (λ known. has_loud_block known (blocks tape number)) (sym (known_is_flagged tape numbers flags knows)) ∙ noisy))
    ]

-- Flags of which none is set are only of loud programs.
pub none_heard : (tape : List ControlProgram) (flags : List Bool)
    → flags ≡ map (λ p. has_loud_block (known_loud tape 0) []) tape → IsWithin (is_flagged tape flags) (loud tape)
none_heard tape flags e q f =
    absurd (let quiet : is_flagged tape flags q ≡ false = ap (λ fs. is_flagged tape fs q) e ∙ ap (λ known. known q) (none_known tape) in cc)

-- The flags hold all that n rounds find, and only loud programs.
pub record AreBetween (tape : List ControlProgram) (n : ℕ) (flags : List Bool) : Type 0 where
  -- What n rounds find is flagged.
  pub found : IsWithin (known_loud tape n) (is_flagged tape flags)
  -- Only loud programs are flagged.
  pub sound : IsWithin (is_flagged tape flags) (loud tape)

-- Flags of loud programs alone hold what no round at all finds, which is nothing.
pub begins : (tape : List ControlProgram) (flags : List Bool) → IsWithin (is_flagged tape flags) (loud tape) → AreBetween tape 0 flags
begins tape flags sound = record { found = λ q e. absurd cc; sound = sound }

-- One more look flags a program exactly if one of its blocks is loud by the flags so far.
look_flags : (tape : List ControlProgram) (numbers : ProgramNumbers) (flags next : List Bool) → KnowsPlaces tape numbers
    → next ≡ map (λ p. has_loud_block (flag_known numbers flags) p.blocks) tape
    → (q : ℕ) → is_flagged tape next q ≡ has_loud_block (is_flagged tape flags) (blocks tape q)
look_flags tape numbers flags next knows made q =
    ap (λ fs. is_flagged tape fs q) made
    ∙ (flag_of_blocks (λ bs. has_loud_block (flag_known numbers flags) bs) refl tape q
    ∙ ap (λ known. has_loud_block known (blocks tape q)) (known_is_flagged tape numbers flags knows))

-- One look more finds what one round more finds, and only loud programs.
pub looked_again : (tape : List ControlProgram) (numbers : ProgramNumbers) (flags next : List Bool) (n : ℕ) → KnowsPlaces tape numbers
    → AreBetween tape n flags → next ≡ map (λ p. has_loud_block (flag_known numbers flags) p.blocks) tape
    → AreBetween tape (n + 1) next
looked_again tape numbers flags next n knows between made = record {
  found = λ q e. look_flags tape numbers flags next knows made q
      ∙ has_within (known_loud tape n) (is_flagged tape flags) between.found (blocks tape q)
      (let k : n + 1 ≡ suc n = omega arith in sym (ap (λ m. known_loud tape m q) k) ∙ e);
  sound = λ q e. look_is_loud tape (is_flagged tape flags) between.sound q (sym (look_flags tape numbers flags next knows made q) ∙ e);
}

-- Two flags that imply each other are the same.
alike : (a b : Bool) → (a ≡ true → b ≡ true) → (b ≡ true → a ≡ true) → a ≡ b
alike true b f g = sym (f refl)
alike false true f g = g refl
alike false false f g = refl

-- Flags of loud programs alone that hold each loud one are those of `loud`.
both_ways : (tape : List ControlProgram) (flags : List Bool) → IsWithin (is_flagged tape flags) (loud tape)
    → IsWithin (loud tape) (is_flagged tape flags) → is_flagged tape flags ≡ loud tape
both_ways tape flags sound whole = λ i q. alike (is_flagged tape flags q) (loud tape q) (sound q) (whole q) i

-- If one more look would change nothing, what is known holds all that any number of rounds finds:
-- it is closed.
closed : (tape : List ControlProgram) (known : ℕ → Bool) → ((q : ℕ) → known q ≡ has_loud_block known (blocks tape q))
    → (n : ℕ) → IsWithin (known_loud tape n) known
closed tape known same zero q e = absurd cc
closed tape known same (suc n) q e =
    same q ∙ has_within (known_loud tape n) known (closed tape known same n) (blocks tape q) e

-- Flags that one more look leaves as they are flag exactly the loud programs.
pub looked_enough : (tape : List ControlProgram) (numbers : ProgramNumbers) (flags : List Bool) (n : ℕ) → KnowsPlaces tape numbers
    → AreBetween tape n flags → flags ≡ map (λ p. has_loud_block (flag_known numbers flags) p.blocks) tape
    → is_flagged tape flags ≡ loud tape
unfolding loud
looked_enough tape numbers flags n knows between made =
    both_ways tape flags between.sound
    (closed tape (is_flagged tape flags) (look_flags tape numbers flags flags knows made) (length tape))

-- After as many looks as there are programs, the flags are exactly those of the loud programs.
pub looked_long : (tape : List ControlProgram) (flags : List Bool) (n : ℕ) → n ≡ length tape → AreBetween tape n flags
    → is_flagged tape flags ≡ loud tape
unfolding loud
looked_long tape flags n e between =
    both_ways tape flags between.sound (λ q h. between.found q (ap (λ m. known_loud tape m q) e ∙ h))
