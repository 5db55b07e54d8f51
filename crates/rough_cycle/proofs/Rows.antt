-- Worked examples of the specs, by computing: a shaft that is roughed, and points at its shoulder.
-- In 0.001 mm, X a diameter. No other file uses them.
use Rattle.std.proofs.Common.{◌≡◌, true, false, List, [], ◌∷◌, ℤ, pos, neg_ℤ, Option, Some, None, refl}
use Rattle.nc_number.specs.declared.point.Point.{Point}
use Rattle.rough_cycle.specs.declared.block.PlainBlock.{PlainBlock}
use Rattle.rough_cycle.specs.Inside.{holds, is_below, is_inside}
use Rattle.rough_cycle.specs.Roughing.{Rough, passes_from, rough_blocks}

-- a shaft of 40 mm with a chamfer up to 46 mm, cut from 50 mm in depths of 2 mm
abbrev shaft : Rough
shaft = record {
  start = record { x = pos 50000; z = pos 2000 };
  depth = 2000;
  retreat = 500;
  across = 400;
  along = 100;
  first = record { x = pos 40000; z = pos 2000 };
  points = record { x = pos 40000; z = neg_ℤ (pos 10000) } ∷ record { x = pos 46000; z = neg_ℤ (pos 16000) } ∷ [];
}

-- a block with G00, its X and its Z if it has them
abbrev rapid : Option ℤ → Option ℤ → PlainBlock
rapid x z = record { cuts = false; x = x; z = z }

-- a block with G01, its X and its Z if it has them
abbrev cut : Option ℤ → Option ℤ → PlainBlock
cut x z = record { cuts = true; x = x; z = z }

-- the shaft has two passes, at 46 mm and 42 mm, and then the contour with its allowances
shaft_is_roughed : rough_blocks shaft 1001 ≡
    rapid (Some (pos 46000)) None ∷ cut None (Some (neg_ℤ (pos 15500))) ∷ rapid (Some (pos 47000)) (Some (neg_ℤ (pos 15000))) ∷ rapid None (Some (pos 2000))
    ∷ rapid (Some (pos 42000)) None ∷ cut None (Some (neg_ℤ (pos 11500))) ∷ rapid (Some (pos 43000)) (Some (neg_ℤ (pos 11000))) ∷ rapid None (Some (pos 2000))
    ∷ rapid None (Some (pos 2100)) ∷ rapid (Some (pos 40400)) None ∷ cut (Some (pos 40400)) (Some (neg_ℤ (pos 9900))) ∷ cut (Some (pos 46400)) (Some (neg_ℤ (pos 15900)))
    ∷ cut (Some (pos 50000)) None ∷ rapid None (Some (pos 2000)) ∷ []
unfolding passes_from
shaft_is_roughed = refl

-- a contour with a line across at Z -10
abbrev shoulder : List Point
shoulder = record { x = pos 40000; z = pos 2000 } ∷ record { x = pos 40000; z = neg_ℤ (pos 10000) } ∷ record { x = pos 46000; z = neg_ℤ (pos 10000) } ∷ record { x = pos 46000; z = neg_ℤ (pos 16000) } ∷ []

-- a point on the line across is not inside
on_the_shoulder : is_inside shoulder (record { x = pos 43000; z = neg_ℤ (pos 10000) }) ≡ false
unfolding holds is_below
on_the_shoulder = refl

-- a point at Z -10 below the contour is inside
below_the_shoulder : is_inside shoulder (record { x = pos 39999; z = neg_ℤ (pos 10000) }) ≡ true
unfolding holds is_below
below_the_shoulder = refl

-- a point past the line across, and below the line along, is inside
behind_the_shoulder : is_inside shoulder (record { x = pos 45999; z = neg_ℤ (pos 12000) }) ≡ true
unfolding holds is_below
behind_the_shoulder = refl
