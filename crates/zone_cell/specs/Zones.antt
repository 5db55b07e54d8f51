-- The zones that a text gives: how the paths lie in the cell, and the gap that they are to keep.
use Rattle.std.specs.Prelude.{ℕ, true, false, List, [], ◌∷◌, Result}
use Rattle.std.specs.Str.Lines.{lines}
use Rattle.nc_number.specs.declared.both.Both.{Both}
use Rattle.nc_number.specs.declared.path.Path.{Path}
use Rattle.nc_number.specs.declared.path.Path.TheVariants.{One, Two}
use Rattle.nc_number.specs.declared.point.Point.{Point}
use Rattle.nc_number.specs.Position.{IsPosition, origin}
use Rattle.field_lines.specs.Line.{line_says, entries_of, first_refused, unless_refused}
use Rattle.zone_area.specs.declared.area.Area.{Area}
use Rattle.zone_area.specs.declared.frame.Frame.{Frame}
use Rattle.zone_area.specs.Area.{area_in_cell, is_clear}
use Rattle.zone_cell.specs.declared.cell.Zone.{Zone}
use Rattle.zone_cell.specs.declared.entry.Entry.{Entry}
use Rattle.zone_cell.specs.declared.entry.Entry.TheVariants as says
use Rattle.zone_cell.specs.Entry.{fields_say}

-- the zones as contracts see them
pub record ZonesView : Type 0 where
  -- how each path lies in the cell
  pub frames : Both Frame
  -- how far apart the paths are to stay, in 0.001 mm; X is a diameter
  pub gap : Point

-- the shifts of both frames, and the gap, are positions
pub record AreNear (zones : ZonesView) : Type 0 where
  -- the shift of path 1 is a position
  pub one : IsPosition zones.frames.one.shift
  -- the shift of path 2 is a position
  pub two : IsPosition zones.frames.two.shift
  -- the gap is a position
  pub gap : IsPosition zones.gap

-- a path that lies in the cell as it is
abbrev pub at_origin : Frame
at_origin = record { mirror = false; mirror_z = false; shift = origin }

-- the zones of an empty text
abbrev pub standard : ZonesView
standard = record { frames = record { one = at_origin; two = at_origin }; gap = origin }

-- the frame with another shift
abbrev pub shifted_to : Point → Frame → Frame
shifted_to to frame = record frame { shift = to }

-- the frame of a path that sees X from the other side
abbrev pub facing_frame : Frame → Frame
facing_frame frame = record frame { mirror = true }

-- the frames with that of one path changed
abbrev pub with_frame : Both Frame → Path → (Frame → Frame) → Both Frame
with_frame frames One change = record frames { one = change frames.one }
with_frame frames Two change = record frames { two = change frames.two }

-- one line more: a frame of a path and a gap take the place of an earlier one, and a mirror once
-- said stays
abbrev pub with_entry : ZonesView → Entry → ZonesView
with_entry zones says.Nothing = zones
with_entry zones (says.Frame path to) = record zones { frames = with_frame zones.frames path (shifted_to to) }
with_entry zones (says.Mirror path) = record zones { frames = with_frame zones.frames path facing_frame }
with_entry zones (says.Gap gap) = record zones { gap = gap }

-- what all lines say together
abbrev pub with_entries : ZonesView → List Entry → ZonesView
with_entries zones [] = zones
with_entries zones (entry ∷ entries) = with_entries (with_entry zones entry) entries

-- the zones of a text, or its first line that is not allowed, counted from 1
unfoldable pub zones_of : List ℕ → Result ZonesView ℕ
zones_of text =
    unless_refused (first_refused (line_says fields_say) 1 (lines text))
    (with_entries standard (entries_of (line_says fields_say) (lines text)))

-- the zone of two areas: as they lie in the cell, and whether they are clear
abbrev pub zone_of_areas : ZonesView → Both Area → Zone
zone_of_areas zones areas = record {
  areas = record { one = area_in_cell zones.frames.one areas.one; two = area_in_cell zones.frames.two areas.two };
  clear = is_clear zones.gap (area_in_cell zones.frames.one areas.one) (area_in_cell zones.frames.two areas.two);
}
