-- A hole or a groove has no fault exactly if it is sound: the law
-- `a_cycle_has_no_fault_if_it_is_sound` (src/law.rt). What is asked before the blocks are made rests
-- on it.
use Rattle.std.proofs.Common.{◌≡◌, ◌⊎◌, inl, inr, ℕ, ◌==◌, ◌≤◌, Bool, true, false, ◌&&◌, ◌||◌, not, Option, Some, None, cond, refl, sym, arith}
use Rattle.std.specs.Prelude.{◌↔◌, ℤ, nat_le, int_le, unsigned_abs}
use Rattle.std.proofs.lemmas.Bool.{leb-true, le-leb}
use Rattle.std.proofs.lemmas.Bool.Decides.{nat_tests}
use Rattle.std.proofs.lemmas.Int.{ints}
use Rattle.nc_number.specs.Distances.{IsBetween}
use Rattle.nc_number.proofs.Bools.{both, either, both_true}
use Rattle.nc_number.proofs.Integers.{le_is}
use Rattle.nc_number.specs.declared.limits.TheConstants.{LONGEST_SAID}
use Rattle.peck_cycle.specs.declared.drill.DrillCycle.{DrillCycle}
use Rattle.peck_cycle.specs.declared.groove.GrooveCycle.{GrooveCycle}
use Rattle.peck_cycle.specs.declared.fault.PeckFault.{PeckFault}
use Rattle.peck_cycle.specs.declared.fault.PeckFault.TheVariants.{TooLarge, NoDepth, NoPeck, NoStep, WrongSide}
use Rattle.peck_cycle.specs.declared.pecks.Pecks.{Pecks}
use Rattle.peck_cycle.specs.Faults.{is_in_order, near_fault_of, pecks_fault_of, fault_or, hole_fault_of, groove_fault_of, IsSoundPecks, IsSoundHole, IsSoundGroove}
use Rattle.peck_cycle.specs.Grooves.{width_of}
use Rattle.peck_cycle.specs.Near.{IsNearPecks, IsNearGroove, is_near_length, is_near_pecks, is_near_groove}
use Rattle.peck_cycle.specs.Pecks.{depth_of}

-- tests

-- pecks that pass the test are near
near_is : (p : Pecks) → is_near_pecks p ≡ true → IsNearPecks p
near_is p e =
    let level = both (is_near_length p.level) (is_near_length p.bottom && nat_le p.peck LONGEST_SAID) e in
    let bottom = both (is_near_length p.bottom) (nat_le p.peck LONGEST_SAID) level.1 in
    record { level = leb-true _ _ level.0; bottom = leb-true _ _ bottom.0; peck = leb-true _ _ bottom.1 }

-- pecks that are near pass
near_passes : (p : Pecks) → IsNearPecks p → is_near_pecks p ≡ true
near_passes p near = rw (le-leb _ _ near.level, le-leb _ _ near.bottom, le-leb _ _ near.peck) refl

-- lengths that pass the test of order are in order
order_is : (a b c : ℤ) → is_in_order a b c ≡ true → IsBetween a b c
order_is a b c e = go (either (int_le a b && int_le b c) (int_le c b && int_le b a) e)
  where
    go : ((int_le a b && int_le b c) ≡ true) ⊎ ((int_le c b && int_le b a) ≡ true) → IsBetween a b c
    go (inl up) = let parts = both (int_le a b) (int_le b c) up in inl (le_is a b parts.0, le_is b c parts.1)
    go (inr down) = let parts = both (int_le c b) (int_le b a) down in inr (le_is c b parts.0, le_is b a parts.1)

-- lengths in order pass
order_passes : (a b c : ℤ) → IsBetween a b c → is_in_order a b c ≡ true
order_passes a b c (inl up) = grind (arith, ints)
order_passes a b c (inr down) = grind (arith, ints)

-- pecks

-- pecks without a fault are sound
pecks_sound : (p : Pecks) → pecks_fault_of p ≡ None → IsSoundPecks p
pecks_sound p e = go (is_near_pecks p) refl e
  where
    cut : (b : Bool) → (p.peck == 0) ≡ b → ◌≡◌ {A = Option PeckFault} (cond b (Some NoPeck) None) None → IsNearPecks p → 1 ≤ depth_of p → IsSoundPecks p
    cut true test wrong near deep = absurd (let is : ◌≡◌ {A = Option PeckFault} (Some NoPeck) None = wrong in cc)
    cut false test fit near deep = record { near = near; deep = deep; peck = grind (arith, nat_tests) }

    deeper : (b : Bool) → (depth_of p == 0) ≡ b → cond b (Some NoDepth) (cond (p.peck == 0) (Some NoPeck) None) ≡ None → IsNearPecks p → IsSoundPecks p
    deeper true test wrong near = absurd (let is : ◌≡◌ {A = Option PeckFault} (Some NoDepth) None = wrong in cc)
    deeper false test fit near = let deep : 1 ≤ depth_of p = grind (arith, nat_tests) in cut (p.peck == 0) refl fit near deep

    go : (b : Bool) → is_near_pecks p ≡ b → cond b (near_fault_of p) (Some TooLarge) ≡ None → IsSoundPecks p
    go true test fit = deeper (depth_of p == 0) refl fit (near_is p test)
    go false test wrong = absurd (let is : ◌≡◌ {A = Option PeckFault} (Some TooLarge) None = wrong in cc)

-- a count of at least 1 is not 0
some_fails : (n : ℕ) → 1 ≤ n → (n == 0) ≡ false
some_fails n some = grind (arith, nat_tests)

-- sound pecks have none
pecks_fit : (p : Pecks) → IsSoundPecks p → pecks_fault_of p ≡ None
pecks_fit p sound = rw (near_passes p sound.near, some_fails _ sound.deep, some_fails _ sound.peck) refl

-- a fault or another one is none only if both are
none_of : (a b : Option PeckFault) → fault_or a b ≡ None → (a ≡ None) × (b ≡ None)
none_of None b e = (refl, e)
none_of (Some fault) b wrong = absurd (let is : Some fault ≡ None = wrong in cc)

-- holes

-- a hole without a fault is sound
pub hole_sound : (d : DrillCycle) → hole_fault_of d ≡ None → IsSoundHole d
hole_sound d e =
    let parts = none_of (pecks_fault_of d.pecks) (cond (is_in_order d.start d.pecks.level d.pecks.bottom) None (Some WrongSide)) e in
    record { pecks = pecks_sound d.pecks parts.0; ordered = go (is_in_order d.start d.pecks.level d.pecks.bottom) refl parts.1 }
  where
    go : (b : Bool) → is_in_order d.start d.pecks.level d.pecks.bottom ≡ b → ◌≡◌ {A = Option PeckFault} (cond b None (Some WrongSide)) None → IsBetween d.start d.pecks.level d.pecks.bottom
    go true test fit = order_is d.start d.pecks.level d.pecks.bottom test
    go false test wrong = absurd (let is : ◌≡◌ {A = Option PeckFault} (Some WrongSide) None = wrong in cc)

-- a sound hole has none
hole_fits : (d : DrillCycle) → IsSoundHole d → hole_fault_of d ≡ None
hole_fits d sound = rw (pecks_fit d.pecks sound.pecks, order_passes d.start d.pecks.level d.pecks.bottom sound.ordered) refl

-- the two are the same
pub hole_is_sound : (d : DrillCycle) → (hole_fault_of d ≡ None) ↔ IsSoundHole d
hole_is_sound d = (hole_sound d, hole_fits d)

-- words can say what a hole without a fault says
pub near_pecks : (d : DrillCycle) → hole_fault_of d ≡ None → IsNearPecks d.pecks
near_pecks d e = (hole_sound d e).pecks.near

-- grooves

-- a groove without a fault is sound
pub groove_sound : (g : GrooveCycle) → groove_fault_of g ≡ None → IsSoundGroove g
groove_sound g e = go (is_near_groove g) refl e
  where
    stepped : (b : Bool) → (g.step == 0 && not (width_of g == 0)) ≡ b → ◌≡◌ {A = Option PeckFault} (cond b (Some NoStep) None) None → (width_of g ≡ 0) ⊎ (1 ≤ g.step)
    stepped true test wrong = absurd (let is : ◌≡◌ {A = Option PeckFault} (Some NoStep) None = wrong in cc)
    stepped false test fit = none (g.step == 0) refl (width_of g == 0) refl test
      where
        none : (s : Bool) → (g.step == 0) ≡ s → (w : Bool) → (width_of g == 0) ≡ w → (s && not w) ≡ false → (width_of g ≡ 0) ⊎ (1 ≤ g.step)
        none s step true width both = inl (grind (arith, nat_tests))
        none false step false width both = inr (grind (arith, nat_tests))
        none true step false width wrong = absurd cc

    go : (b : Bool) → is_near_groove g ≡ b
        → cond b (fault_or (pecks_fault_of g.pecks) (cond (g.step == 0 && not (width_of g == 0)) (Some NoStep) None)) (Some TooLarge) ≡ None → IsSoundGroove g
    go false test wrong = absurd (let is : ◌≡◌ {A = Option PeckFault} (Some TooLarge) None = wrong in cc)
    go true test fit =
        let parts = none_of (pecks_fault_of g.pecks) (cond (g.step == 0 && not (width_of g == 0)) (Some NoStep) None) fit in
        let pecks = pecks_sound g.pecks parts.0 in
        let from = both (is_near_length g.from) (is_near_length g.to && nat_le g.step LONGEST_SAID) test in
        let to = both (is_near_length g.to) (nat_le g.step LONGEST_SAID) from.1 in
        record {
          near = record { pecks = pecks.near; from = leb-true _ _ from.0; to = leb-true _ _ to.0; step = leb-true _ _ to.1 };
          pecks = pecks;
          columns = stepped (g.step == 0 && not (width_of g == 0)) refl parts.1;
        }

-- a sound groove has none
groove_fits : (g : GrooveCycle) → IsSoundGroove g → groove_fault_of g ≡ None
groove_fits g sound = rw (near, pecks_fit g.pecks sound.pecks, led) refl
  where
    near : is_near_groove g ≡ true
    near = rw (le-leb _ _ sound.near.from, le-leb _ _ sound.near.to, le-leb _ _ sound.near.step) refl

    led : (g.step == 0 && not (width_of g == 0)) ≡ false
    led = go sound.columns
      where
        go : (width_of g ≡ 0) ⊎ (1 ≤ g.step) → (g.step == 0 && not (width_of g == 0)) ≡ false
        go (inl none) = grind (arith, nat_tests)
        go (inr some) = rw (some_fails _ some) refl

-- the two are the same
pub groove_is_sound : (g : GrooveCycle) → (groove_fault_of g ≡ None) ↔ IsSoundGroove g
groove_is_sound g = (groove_sound g, groove_fits g)

-- words can say what a groove without a fault says
pub near_groove : (g : GrooveCycle) → groove_fault_of g ≡ None → IsNearGroove g
near_groove g e = (groove_sound g e).near
