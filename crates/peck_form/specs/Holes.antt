-- What is in force in a run of holes, and the hole of a block. src/hole.rt reads them. The letters are
-- bytes: 70 F, 80 P, 81 Q, 82 R.
use Rattle.std.specs.Prelude.{ℕ, Bool, false, not, ◌&&◌, ◌==◌, ◌*◌, nat_le, List, Option, Some, None, option_and_then, option_map, ℤ, pos, ◌+ℤ◌, ◌*ℤ◌, unsigned_abs, if◌then◌else◌}
use Rattle.code_tables.specs.declared.system.System.{System}
use Rattle.nc_number.specs.declared.axis.Axis.{Axis}
use Rattle.nc_number.specs.declared.axis.Axis.TheVariants.{Keep, To, By}
use Rattle.nc_number.specs.declared.limits.TheConstants.{LONGEST_SAID}
use Rattle.line_text.specs.declared.body.Word.{Word}
use Rattle.peck_cycle.specs.declared.along.Along.{Along}
use Rattle.peck_cycle.specs.declared.along.Along.TheVariants.{Z, X}
use Rattle.peck_cycle.specs.declared.drill.DrillCycle.{DrillCycle}
use Rattle.peck_cycle.specs.declared.drill.WayOut.{WayOut}
use Rattle.peck_cycle.specs.declared.drill.WayOut.TheVariants.{AtRapid, AtFeed}
use Rattle.peck_cycle.specs.declared.pecks.Pecks.{Pecks}
use Rattle.peck_cycle.specs.declared.pecks.Retreat.TheVariants.{Short, ToLevel}
use Rattle.peck_cycle.specs.Pecks.{one_cut}
use Rattle.plain_form.specs.declared.settings.FormSettings.{FormSettings}
use Rattle.cycle_words.specs.Numbers.{length_said, count_said, value_said}
use Rattle.peck_form.specs.declared.kind.HoleKind.{HoleKind}
use Rattle.peck_form.specs.declared.kind.HoleKind.TheVariants.{Drill, Tap, Bore}
use Rattle.peck_form.specs.declared.hole.HoleSaid.{HoleSaid}
use Rattle.peck_form.specs.Groove.{doubled}
use Rattle.peck_form.specs.Kinds.{kind_of, along_of, code_said, level_said, letter_of_place, letter_of_way, other_axis}

-- a way and a size along an axis: in X words count radii
abbrev pub scaled_way : Along → ℤ → ℤ
scaled_way Z way = way
scaled_way X way = pos 2 *ℤ way

abbrev pub scaled : Along → ℕ → ℕ
scaled Z size = size
scaled X size = doubled size

-- the bottom that words name, or the one before
abbrev pub bottom_by : Option ℤ → Option ℤ → Axis → Axis
bottom_by (Some place) way before = To place
bottom_by None (Some way) before = By way
bottom_by None None before = before

abbrev pub bottom_said : Along → Axis → List Word → Axis
bottom_said along before words =
    bottom_by (length_said (letter_of_place along) words) (length_said (letter_of_way along) words) before

-- the place so far from another, if words can say that one
abbrev pub moved_from : ℤ → ℤ → Option ℤ
moved_from way from = if nat_le (unsigned_abs from) LONGEST_SAID then Some (from +ℤ way) else None

-- the place beside the holes that words name, or the one before
abbrev pub beside_by : Option ℤ → Option ℤ → Option ℤ → Option ℤ
beside_by (Some place) way before = Some place
beside_by None (Some way) before = option_and_then (moved_from way) before
beside_by None None before = before

abbrev pub beside_said : Along → Option ℤ → List Word → Option ℤ
beside_said along before words =
    beside_by (length_said (letter_of_place (other_axis along)) words) (length_said (letter_of_way (other_axis along)) words) before

-- the way to the point R, the depth of a peck, the rest and the feed that words name, or those before
abbrev pub way_or : Along → ℤ → Option ℤ → ℤ
way_or along before None = before
way_or along before (Some way) = scaled_way along way

abbrev pub point_r_said : Along → ℤ → List Word → ℤ
point_r_said along before words = way_or along before (length_said 82 words)

abbrev pub size_or : Along → ℕ → Option ℕ → ℕ
size_or along before None = before
size_or along before (Some size) = scaled along size

abbrev pub peck_said : Along → ℕ → List Word → ℕ
peck_said along before words = size_or along before (count_said 81 words)

abbrev pub number_or : ℕ → Option ℕ → ℕ
number_or before None = before
number_or before (Some n) = n

abbrev pub dwell_said : ℕ → List Word → ℕ
dwell_said before words = number_or before (count_said 80 words)

abbrev pub feed_or : Option ℤ → Option ℤ → Option ℤ
feed_or before None = before
feed_or before (Some feed) = Some feed

abbrev pub feed_said : Option ℤ → List Word → Option ℤ
feed_said before words = feed_or before (value_said 70 words)

-- what is in force after the words of a block
abbrev pub hole_after : HoleSaid → System → List Word → HoleSaid
hole_after said system words = record {
  code = code_said said.code words;
  start = said.start;
  beside = beside_said (along_of said.code) said.beside words;
  bottom = bottom_said (along_of said.code) said.bottom words;
  point_r = point_r_said (along_of said.code) said.point_r words;
  peck = peck_said (along_of said.code) said.peck words;
  dwell = dwell_said said.dwell words;
  returns = level_said system said.returns words;
  feed = feed_said said.feed words;
  motion = said.motion;
}

-- the place of the point R, if words can say the start
abbrev pub level_of : HoleSaid → Option ℤ
level_of said =
    if nat_le (unsigned_abs said.start) LONGEST_SAID && nat_le (unsigned_abs said.point_r) 200000000000
    then Some (said.start +ℤ said.point_r)
    else None

-- the place so far from a level, if words can say both
abbrev pub moved_near : ℤ → ℤ → Option ℤ
moved_near level way =
    if nat_le (unsigned_abs level) 300000000000 && nat_le (unsigned_abs way) LONGEST_SAID then Some (level +ℤ way) else None

-- the place of the bottom, if it is named
abbrev pub bottom_of : Axis → ℤ → Option ℤ
bottom_of (To place) level = Some place
bottom_of (By way) level = moved_near level way
bottom_of Keep level = None

-- the holes are drilled in pecks
abbrev pub kind_pecks : HoleKind → ℕ → Bool
kind_pecks Drill peck = not (peck == 0)
kind_pecks Tap peck = false
kind_pecks Bore peck = false

abbrev pub has_pecks : HoleSaid → Bool
has_pecks said = kind_pecks (kind_of said.code) said.peck

-- pecks back by so much, or to the level
abbrev pub pecks_by : HoleSaid → ℤ → ℤ → ℕ → Option ℕ → Pecks
pecks_by said level bottom clearance (Some back) = record {
  along = (along_of said.code);
  level = level;
  bottom = bottom;
  peck = said.peck;
  back = scaled (along_of said.code) back;
  retreat = Short;
}
pecks_by said level bottom clearance None = record {
  along = (along_of said.code);
  level = level;
  bottom = bottom;
  peck = said.peck;
  back = scaled (along_of said.code) clearance;
  retreat = ToLevel;
}

-- the pecks of a drill, or one cut
abbrev pub pecks_of : HoleSaid → ℤ → ℤ → FormSettings → Pecks
pecks_of said level bottom settings =
    if has_pecks said
    then pecks_by said level bottom settings.peck_clearance settings.peck_retreat
    else one_cut (along_of said.code) level bottom

-- how the tool leaves a hole
abbrev pub way_out_of : HoleKind → WayOut
way_out_of Drill = AtRapid
way_out_of Tap = AtFeed
way_out_of Bore = AtFeed

-- the hole from a level to a bottom
abbrev pub hole_to : HoleSaid → ℤ → ℤ → FormSettings → DrillCycle
hole_to said level bottom settings = record {
  start = said.start;
  pecks = pecks_of said level bottom settings;
  dwell = if said.dwell == 0 then None else Some said.dwell;
  way_out = way_out_of (kind_of said.code);
  returns = said.returns;
}
