-- The faults of a cycle: what is found is so, and what is so is found. For the law
-- `a_fault_is_its_condition` (src/law.rt).
use Rattle.std.proofs.Common.{◌≡◌, inl, inr, ℕ, ◌==◌, ◌<◌, ◌≤◌, Bool, true, false, ◌&&◌, Option, Some, None, ℤ, pos, ◌≤ℤ◌, ◌<ℤ◌, cond, refl, ap, sym, subst, ◌∙◌, arith}
use Rattle.std.specs.Prelude.{nat_le, nat_lt, int_le, unsigned_abs}
use Rattle.std.proofs.lemmas.Bool.{leb-true, leb-false, le-leb, lt-leb}
use Rattle.std.proofs.lemmas.Bool.Decides.{nat_tests}
use Rattle.std.proofs.lemmas.Int.{ints}
use Rattle.nc_number.specs.declared.limits.TheConstants.{LONGEST_SAID}
use Rattle.nc_number.specs.declared.point.Point.{Point}
use Rattle.nc_number.proofs.Bools.{both}
use Rattle.nc_number.proofs.Counts.{lt_true, lt_false}
use Rattle.nc_number.proofs.Integers.{le_is}
use Rattle.thread_cycle.specs.declared.cycle.ThreadCycle.{ThreadCycle}
use Rattle.thread_cycle.specs.declared.fault.ThreadFault.{ThreadFault}
use Rattle.thread_cycle.specs.declared.fault.ThreadFault.TheVariants.{AllLeft, TooLarge, NoPass, NoLead, Short, Steep, BelowCrest}
use Rattle.thread_cycle.specs.Crests.{IsOffCrest, crest_at_end, crest_at_begin, starts_off}
use Rattle.thread_cycle.specs.Faults.{near_fault_of, pass_fault_of, fault_of, IsMade, IsLong, IsPassFault, IsFault}
use Rattle.thread_cycle.specs.Near.{IsWritten, IsNearCycle, is_written, has_near_depths, is_near_cycle}
use Rattle.thread_cycle.specs.Passes.{is_inner, whole_length, whole_infeed}
use Rattle.thread_cycle.specs.Sides.{IsOnSide, is_on_both}

-- tests

-- a point that passes is written
written_is : (p : Point) → is_written p ≡ true → IsWritten p
written_is p e =
    let parts = both (nat_le (unsigned_abs p.x) LONGEST_SAID) (nat_le (unsigned_abs p.z) LONGEST_SAID) e in
    (leb-true _ _ parts.0, leb-true _ _ parts.1)

-- one that is written passes
written_passes : (p : Point) → IsWritten p → is_written p ≡ true
written_passes p near = ap (λ b. b && nat_le (unsigned_abs p.z) LONGEST_SAID) (le-leb _ _ near.0) ∙ le-leb _ _ near.1

-- a cycle that passes is near
near_is : (t : ThreadCycle) → is_near_cycle t ≡ true → IsNearCycle t
near_is t e =
    let start = both (is_written t.start) (is_written t.target && (nat_le (unsigned_abs t.taper) LONGEST_SAID && (has_near_depths t && nat_le t.pull_out 99))) e in
    let target = both (is_written t.target) (nat_le (unsigned_abs t.taper) LONGEST_SAID && (has_near_depths t && nat_le t.pull_out 99)) start.1 in
    let taper = both (nat_le (unsigned_abs t.taper) LONGEST_SAID) (has_near_depths t && nat_le t.pull_out 99) target.1 in
    let rest = both (has_near_depths t) (nat_le t.pull_out 99) taper.1 in
    let depth = both (nat_le t.depth LONGEST_SAID) (nat_le t.first LONGEST_SAID && (nat_le t.least LONGEST_SAID && nat_le t.left LONGEST_SAID)) rest.0 in
    let first = both (nat_le t.first LONGEST_SAID) (nat_le t.least LONGEST_SAID && nat_le t.left LONGEST_SAID) depth.1 in
    let least = both (nat_le t.least LONGEST_SAID) (nat_le t.left LONGEST_SAID) first.1 in
    record {
      start = written_is t.start start.0;
      target = written_is t.target target.0;
      taper = leb-true _ _ taper.0;
      depth = leb-true _ _ depth.0;
      first = leb-true _ _ first.0;
      least = leb-true _ _ least.0;
      left = leb-true _ _ least.1;
      pull_out = leb-true _ _ rest.1;
    }

-- one that is near passes
near_passes : (t : ThreadCycle) → IsNearCycle t → is_near_cycle t ≡ true
near_passes t near =
    let depths : has_near_depths t ≡ true = rw (le-leb _ _ near.depth, le-leb _ _ near.first, le-leb _ _ near.least, le-leb _ _ near.left) refl in
    rw (written_passes t.start near.start, written_passes t.target near.target, le-leb _ _ near.taper, depths, le-leb _ _ near.pull_out) refl

-- one that is not fails
far_fails : (t : ThreadCycle) → (IsNearCycle t → ⊥) → is_near_cycle t ≡ false
far_fails t far = go (is_near_cycle t) refl
  where
    go : (b : Bool) → is_near_cycle t ≡ b → b ≡ false
    go true e = absurd (far (near_is t e))
    go false e = refl

-- an X that passes the test of the free side of two others is there
sides_are : (inner : Bool) (a b x : ℤ) → is_on_both inner a b x ≡ true → IsOnSide inner a x × IsOnSide inner b x
sides_are true a b x e = let parts = both (int_le x a) (int_le x b) e in (le_is x a parts.0, le_is x b parts.1)
sides_are false a b x e = let parts = both (int_le a x) (int_le b x) e in (le_is a x parts.0, le_is b x parts.1)

-- one that is there passes
sides_pass : (inner : Bool) (a b x : ℤ) → IsOnSide inner a x → IsOnSide inner b x → is_on_both inner a b x ≡ true
sides_pass true a b x one other = grind (arith, ints)
sides_pass false a b x one other = grind (arith, ints)

-- a start that passes is off the crest
off_is : (t : ThreadCycle) → starts_off t ≡ true → IsOffCrest t t.start.x
off_is t e = sides_are (is_inner t) (crest_at_end t) (crest_at_begin t) t.start.x e

-- one that is off it passes
off_passes : (t : ThreadCycle) → IsOffCrest t t.start.x → starts_off t ≡ true
off_passes t off = sides_pass (is_inner t) (crest_at_end t) (crest_at_begin t) t.start.x off.0 off.1

-- one that is not off it fails
below_fails : (t : ThreadCycle) → (IsOffCrest t t.start.x → ⊥) → starts_off t ≡ false
below_fails t below = go (starts_off t) refl
  where
    go : (b : Bool) → starts_off t ≡ b → b ≡ false
    go true e = absurd (below (off_is t e))
    go false e = refl

-- a count of at least 1 is not 0
some_fails : (n : ℕ) → 1 ≤ n → (n == 0) ≡ false
some_fails n some = grind (arith, nat_tests)

-- 0 is
none_passes : (n : ℕ) → n ≡ 0 → (n == 0) ≡ true
none_passes n none = grind (arith, nat_tests)

-- a lead above 0 fails the test of none
lead_fails : (lead : ℤ) → pos 0 <ℤ lead → int_le lead (pos 0) ≡ false
lead_fails lead some = grind (arith, ints)

-- one that is not passes it
lead_passes : (lead : ℤ) → lead ≤ℤ pos 0 → int_le lead (pos 0) ≡ true
lead_passes lead none = grind (arith, ints)

-- what is found

-- of passes that literals can write
near_found : (t : ThreadCycle) → IsNearCycle t → IsPassFault t (near_fault_of t)
near_found t near = counted (t.finishing == 0) refl
  where
    free : (b : Bool) → starts_off t ≡ b → IsLong t → unsigned_abs t.taper ≤ whole_length t → IsPassFault t (cond b None (Some BelowCrest))
    free true e long gentle = (near, long, gentle, off_is t e)
    free false e long gentle = (near, long, gentle, λ off. (let wrong : true ≡ false = sym (off_passes t off) ∙ e in cc))

    steep : (b : Bool) → nat_lt (whole_length t) (unsigned_abs t.taper) ≡ b → IsLong t → IsPassFault t (cond b (Some Steep) (cond (starts_off t) None (Some BelowCrest)))
    steep true e long = (near, long, (let less : whole_length t < unsigned_abs t.taper = grind (arith, nat_tests) in less))
    steep false e long = let most : unsigned_abs t.taper ≤ whole_length t = grind (arith, nat_tests) in free (starts_off t) refl long most

    short : (b : Bool) → nat_le (whole_length t) (whole_infeed t) ≡ b → IsMade t
        → IsPassFault t (cond b (Some Short) (cond (nat_lt (whole_length t) (unsigned_abs t.taper)) (Some Steep) (cond (starts_off t) None (Some BelowCrest))))
    short true e made = (near, made, leb-true _ _ e)
    short false e made = steep (nat_lt (whole_length t) (unsigned_abs t.taper)) refl (made, leb-false _ _ e)

    led : (b : Bool) → int_le t.lead (pos 0) ≡ b → 1 ≤ t.finishing
        → IsPassFault t (cond b (Some NoLead) (cond (nat_le (whole_length t) (whole_infeed t)) (Some Short) (cond (nat_lt (whole_length t) (unsigned_abs t.taper)) (Some Steep) (cond (starts_off t) None (Some BelowCrest)))))
    led true e some = (near, some, le_is t.lead (pos 0) e)
    led false e some = let more : pos 0 <ℤ t.lead = grind (arith, ints) in short (nat_le (whole_length t) (whole_infeed t)) refl (some, more)

    counted : (b : Bool) → (t.finishing == 0) ≡ b
        → IsPassFault t (cond b (Some NoPass) (cond (int_le t.lead (pos 0)) (Some NoLead) (cond (nat_le (whole_length t) (whole_infeed t)) (Some Short) (cond (nat_lt (whole_length t) (unsigned_abs t.taper)) (Some Steep) (cond (starts_off t) None (Some BelowCrest))))))
    counted true e = let none : t.finishing ≡ 0 = grind (arith, nat_tests) in (near, none)
    counted false e = let some : 1 ≤ t.finishing = grind (arith, nat_tests) in led (int_le t.lead (pos 0)) refl some

-- of any passes
pub pass_found : (t : ThreadCycle) → IsPassFault t (pass_fault_of t)
pass_found t = go (is_near_cycle t) refl
  where
    go : (b : Bool) → is_near_cycle t ≡ b → IsPassFault t (cond b (near_fault_of t) (Some TooLarge))
    go true e = near_found t (near_is t e)
    go false e = λ near. (let wrong : true ≡ false = sym (near_passes t near) ∙ e in cc)

-- the fault by whether literals can write the cycle
abbrev goes_on : ThreadCycle → Bool → Option ThreadFault
goes_on t b = cond b (near_fault_of t) (Some TooLarge)

-- of any passes, what is so
pub pass_told : (t : ThreadCycle) (fault : Option ThreadFault) → IsPassFault t fault → pass_fault_of t ≡ fault
pass_told t (Some AllLeft) is = elim is [ ]
pass_told t (Some TooLarge) far = ap (goes_on t) (far_fails t far)
pass_told t (Some NoPass) (near, none) = ap (goes_on t) (near_passes t near) ∙ rw (none_passes t.finishing none) refl
pass_told t (Some NoLead) (near, some, none) = ap (goes_on t) (near_passes t near) ∙ rw (some_fails t.finishing some, lead_passes t.lead none) refl
pass_told t (Some Short) (near, (some, led), short) = ap (goes_on t) (near_passes t near) ∙ rw (some_fails t.finishing some, lead_fails t.lead led, le-leb _ _ short) refl
pass_told t (Some Steep) (near, ((some, led), long), steep) =
    ap (goes_on t) (near_passes t near) ∙ rw (some_fails t.finishing some, lead_fails t.lead led, lt-leb _ _ long, lt_true _ _ steep) refl
pass_told t (Some BelowCrest) (near, ((some, led), long), gentle, below) =
    ap (goes_on t) (near_passes t near) ∙ rw (some_fails t.finishing some, lead_fails t.lead led, lt-leb _ _ long, lt_false _ _ gentle, below_fails t below) refl
pass_told t None (near, ((some, led), long), gentle, off) =
    ap (goes_on t) (near_passes t near) ∙ rw (some_fails t.finishing some, lead_fails t.lead led, lt-leb _ _ long, lt_false _ _ gentle, off_passes t off) refl

-- of the cycle
pub found : (t : ThreadCycle) → IsFault t (fault_of t)
found t = go (nat_le t.depth t.left) refl
  where
    go : (b : Bool) → nat_le t.depth t.left ≡ b → IsFault t (cond b (Some AllLeft) (pass_fault_of t))
    go true e = inl (refl, leb-true _ _ e)
    go false e = inr (leb-false _ _ e, pass_found t)

-- of the cycle, what is so
pub told : (t : ThreadCycle) (fault : Option ThreadFault) → IsFault t fault → fault_of t ≡ fault
told t fault (inl (all, left)) = ap (λ b. cond b (Some AllLeft) (pass_fault_of t)) (le-leb _ _ left) ∙ sym all
told t fault (inr (some, is)) = ap (λ b. cond b (Some AllLeft) (pass_fault_of t)) (lt-leb _ _ some) ∙ pass_told t fault is

-- passes without a fault

-- they have no fault of those kinds
pub faultless : (t : ThreadCycle) → pass_fault_of t ≡ None → IsPassFault t None
faultless t e = subst (IsPassFault t) e (pass_found t)

-- literals can write all that they say
pub near_enough : (t : ThreadCycle) → pass_fault_of t ≡ None → IsNearCycle t
near_enough t e = (faultless t e).0

-- their thread has a length
pub long_enough : (t : ThreadCycle) → pass_fault_of t ≡ None → 0 < whole_length t
long_enough t e = let long = (faultless t e).1 in omega (arith, long)
