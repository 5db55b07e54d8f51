-- Where cycles lead: to the bottom, and back. For the law `cycles_lead_to_the_bottom_and_back`
-- (src/law.rt).
use Rattle.std.proofs.Common.{◌≡◌, ℕ, ◌+◌, ◌-◌, ◌≤◌, List, [], ◌∷◌, ◌++◌, Option, Some, None, option_map, refl, ap, sym, subst, ◌∙◌, arith}
use Rattle.std.specs.Prelude.{option_and_then}
use Rattle.std.specs.List.{flat_map}
use Rattle.nc_number.specs.declared.point.Point.{Point}
use Rattle.nc_number.proofs.Points.{same_point}
use Rattle.plain_block.specs.declared.block.PlainBlock.{PlainBlock}
use Rattle.plain_block.specs.declared.course.Course.TheVariants.{Rapid, Cut}
use Rattle.plain_block.specs.Places.{point_after, after_all}
use Rattle.peck_cycle.specs.declared.along.Along.{Along}
use Rattle.peck_cycle.specs.declared.along.Along.TheVariants.{Z, X}
use Rattle.peck_cycle.specs.declared.drill.DrillCycle.{DrillCycle}
use Rattle.peck_cycle.specs.declared.drill.ReturnLevel.{ReturnLevel}
use Rattle.peck_cycle.specs.declared.drill.ReturnLevel.TheVariants.{Start, PointR}
use Rattle.peck_cycle.specs.declared.drill.WayOut.{WayOut}
use Rattle.peck_cycle.specs.declared.drill.WayOut.TheVariants.{AtRapid, AtFeed}
use Rattle.peck_cycle.specs.declared.groove.GrooveCycle.{GrooveCycle}
use Rattle.peck_cycle.specs.declared.pecks.Pecks.{Pecks}
use Rattle.peck_cycle.specs.Axes.{place_along, place_beside}
use Rattle.peck_cycle.specs.Drills.{rest_of, way_in, rapid_on, place_back, out_by, way_out, hole_blocks, in_blocks, drill_blocks}
use Rattle.peck_cycle.specs.Faults.{hole_fault_of}
use Rattle.peck_cycle.specs.Grooves.{side, width_of, beside_to, relief_blocks, leaving_blocks, column_blocks, columns_blocks, groove_blocks}
use Rattle.peck_cycle.specs.Pecks.{depth_of, place, rapid_to, cut_to, between_blocks, peck_blocks}
use Rattle.peck_cycle.specs.Safe.{AreSteps}
use Rattle.peck_cycle.specs.Steps.{steps_of}
use Rattle.peck_cycle.proofs.OneMove.{along_after, beside_after, beside_stays}
use Rattle.peck_cycle.proofs.SafeMoves.{level_is, bottom_is}
use Rattle.peck_cycle.proofs.SoundCycles.{hole_sound}
use Rattle.peck_cycle.proofs.SteadySteps.{steps_are}

-- blocks after others lead on from where those lead
after_both : (a b : List PlainBlock) (from : Point) → after_all from (a ++ b) ≡ after_all (after_all from a) b
after_both [] b from = refl
after_both (block ∷ a) b from = after_both a b (point_after from block)

-- pecks lead to the bottom
pecks_lead : (ds : List ℕ) (p : Pecks) (from : Point) (last : ℕ) → AreSteps p.peck (depth_of p) last ds → place_along p.along from ≡ place p last
    → place_along p.along (after_all from (peck_blocks p last ds)) ≡ place p (depth_of p)
pecks_lead [] p from last steps at = at ∙ ap (place p) steps
pecks_lead (d ∷ ds) p from last (on, inside, step, steps) at =
    ap (place_along p.along) (after_both (between_blocks p last) (cut_to p (place p d) ∷ peck_blocks p d ds) from)
    ∙ pecks_lead ds p (point_after (after_all from (between_blocks p last)) (cut_to p (place p d))) d steps (along_after p.along Cut (after_all from (between_blocks p last)) (place p d))

-- a rest leads nowhere
rest_stays : (dwell : Option ℕ) (from : Point) → after_all from (rest_of dwell) ≡ from
rest_stays None from = refl
rest_stays (Some ms) from = refl

-- the way in leads to the bottom
in_leads : (d : DrillCycle) (ds : List ℕ) (from : Point) → AreSteps d.pecks.peck (depth_of d.pecks) 0 ds
    → place_along d.pecks.along (after_all from (way_in d ds)) ≡ d.pecks.bottom
in_leads d ds from steps =
    ap (place_along d.pecks.along) (after_both (peck_blocks d.pecks 0 ds) (rest_of d.dwell) at ∙ rest_stays d.dwell (after_all at (peck_blocks d.pecks 0 ds)))
    ∙ pecks_lead ds d.pecks at 0 steps (along_after d.pecks.along Rapid from d.pecks.level ∙ sym (level_is d.pecks))
    ∙ bottom_is d.pecks
  where
    at : Point
    at = point_after from (rapid_to d.pecks d.pecks.level)

-- the way into a hole leads to its bottom
pub to_bottom : (d : DrillCycle) (from : Point) (blocks : List PlainBlock) → hole_fault_of d ≡ None → in_blocks d ≡ Some blocks
    → place_along d.pecks.along (after_all from blocks) ≡ d.pecks.bottom
to_bottom d from blocks fit e = go (steps_of (depth_of d.pecks) d.pecks.peck) refl e
  where
    go : (found : Option (List ℕ)) → steps_of (depth_of d.pecks) d.pecks.peck ≡ found → option_map (way_in d) found ≡ Some blocks
        → place_along d.pecks.along (after_all from blocks) ≡ d.pecks.bottom
    go None is none = absurd (let wrong : None ≡ Some blocks = none in cc)
    go (Some ds) is same =
        let made : way_in d ds ≡ blocks = cc in
        subst (λ bs. place_along d.pecks.along (after_all from bs) ≡ d.pecks.bottom) made
        (in_leads d ds from (steps_are (depth_of d.pecks) d.pecks.peck ds (hole_sound d fit).pecks.peck is))

-- the way out leads to the level that the hole names
out_leads : (d : DrillCycle) (from : Point) (way : WayOut) (level : ReturnLevel) → d.returns ≡ level → place_along d.pecks.along (after_all from (out_by way d)) ≡ place_back level d
out_leads d from AtRapid level is = along_after d.pecks.along Rapid from (place_back d.returns d) ∙ ap (λ l. place_back l d) is
out_leads d from AtFeed level is = ap (λ l. place_along d.pecks.along (after_all up (rapid_on l d))) is ∙ go level
  where
    up : Point
    up = point_after from (cut_to d.pecks d.pecks.level)

    go : (level : ReturnLevel) → place_along d.pecks.along (after_all up (rapid_on level d)) ≡ place_back level d
    go Start = along_after d.pecks.along Rapid up d.start
    go PointR = along_after d.pecks.along Cut from d.pecks.level

-- a hole leads there
pub to_level : (d : DrillCycle) (from : Point) (blocks : List PlainBlock) → drill_blocks d ≡ Some blocks
    → place_along d.pecks.along (after_all from blocks) ≡ place_back d.returns d
to_level d from blocks e = go (steps_of (depth_of d.pecks) d.pecks.peck) e
  where
    go : (found : Option (List ℕ)) → option_map (hole_blocks d) found ≡ Some blocks → place_along d.pecks.along (after_all from blocks) ≡ place_back d.returns d
    go None none = absurd (let wrong : None ≡ Some blocks = none in cc)
    go (Some ds) same =
        let made : hole_blocks d ds ≡ blocks = cc in
        subst (λ bs. place_along d.pecks.along (after_all from bs) ≡ place_back d.returns d) made
        (ap (place_along d.pecks.along) (after_both (way_in d ds) (way_out d) from) ∙ out_leads d (after_all from (way_in d ds)) d.way_out d.returns refl)

-- a column leads to the level
column_leads : (g : GrooveCycle) (ds : List ℕ) (column : ℕ) (from : Point) → place_along g.pecks.along (after_all from (column_blocks g ds column)) ≡ g.pecks.level
column_leads g ds column from =
    ap (place_along g.pecks.along) (after_both (peck_blocks g.pecks 0 ds) (leaving_blocks g column) at ∙ after_both (relief_blocks g column) (rapid_to g.pecks g.pecks.level ∷ []) low)
    ∙ along_after g.pecks.along Rapid (after_all low (relief_blocks g column)) g.pecks.level
  where
    at : Point
    at = point_after from (beside_to g (side g column))

    low : Point
    low = after_all at (peck_blocks g.pecks 0 ds)

-- so do columns
columns_lead : (columns : List ℕ) (g : GrooveCycle) (ds : List ℕ) (from : Point) → place_along g.pecks.along from ≡ g.pecks.level
    → place_along g.pecks.along (after_all from (flat_map (column_blocks g ds) columns)) ≡ g.pecks.level
columns_lead [] g ds from at = at
columns_lead (c ∷ columns) g ds from at =
    ap (place_along g.pecks.along) (after_both (column_blocks g ds c) (flat_map (column_blocks g ds) columns) from)
    ∙ columns_lead columns g ds (after_all from (column_blocks g ds c)) (column_leads g ds c from)

-- points that are the same along an axis and beside it are the same
same_place : (a : Along) (p q : Point) → place_along a p ≡ place_along a q → place_beside a p ≡ place_beside a q → p ≡ q
same_place Z p q along beside = same_point p q beside along
same_place X p q along beside = same_point p q along beside

-- a groove leads back to where it starts
pub to_start : (g : GrooveCycle) (start : Point) (blocks : List PlainBlock) → place_along g.pecks.along start ≡ g.pecks.level → place_beside g.pecks.along start ≡ g.from
    → groove_blocks g ≡ Some blocks → after_all start blocks ≡ start
unfolding groove_blocks
to_start g start blocks there first e = go (steps_of (depth_of g.pecks) g.pecks.peck) (steps_of (width_of g) g.step) e
  where
    leads : (ds cs : List ℕ) → after_all start (columns_blocks g ds cs) ≡ start
    leads ds cs =
        after_both (flat_map (column_blocks g ds) (0 ∷ cs)) (beside_to g g.from ∷ []) start
        ∙ same_place g.pecks.along (point_after up (beside_to g g.from)) start
        (beside_stays g.pecks.along Rapid up g.from ∙ columns_lead (0 ∷ cs) g ds start there ∙ sym there)
        (beside_after g.pecks.along Rapid up g.from ∙ sym first)
      where
        up : Point
        up = after_all start (flat_map (column_blocks g ds) (0 ∷ cs))

    go : (depths columns : Option (List ℕ)) → option_and_then (λ ds. option_and_then (λ cs. Some (columns_blocks g ds cs)) columns) depths ≡ Some blocks
        → after_all start blocks ≡ start
    go None columns none = absurd (let wrong : None ≡ Some blocks = none in cc)
    go (Some ds) None none = absurd (let wrong : None ≡ Some blocks = none in cc)
    go (Some ds) (Some cs) same =
        let made : columns_blocks g ds cs ≡ blocks = cc in
        subst (λ bs. after_all start bs ≡ start) made (leads ds cs)
