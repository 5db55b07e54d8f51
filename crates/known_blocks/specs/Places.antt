-- What is known of X and Z behind the motion of a block. src/places.rt computes it.
use Rattle.std.specs.Prelude.{Bool, true, false, ◌&&◌, nat_le, Option, Some, None, ℤ, ◌+ℤ◌, unsigned_abs, if◌then◌else◌}
use Rattle.nc_number.specs.declared.axis.Axis.{Axis}
use Rattle.nc_number.specs.declared.axis.Axis.TheVariants.{Keep, To, By}
use Rattle.nc_number.specs.Position.{travel}
use Rattle.code_tables.specs.declared.kind.CodeKind.{CodeKind}
use Rattle.code_tables.specs.declared.kind.CodeKind.TheVariants.{Rapid, Feed, ArcCw, ArcCcw, Thread, Dwell, Limit}
use Rattle.code_tables.specs.Kinds.{is_cycle}
use Rattle.block_values.specs.Motion.{axis_under}
use Rattle.known_blocks.specs.declared.known.Known.{Known}
use Rattle.known_blocks.specs.Known.{nowhere}

-- what the words of an axis say, of which there is one: known if it is known whether G91 is in force
abbrev pub known_under : Option Bool → Option ℤ → Option ℤ → Option Axis
known_under None word way = None
known_under (Some incremental) word way = Some (axis_under incremental word way)

-- what the two words of an axis say; without a word the axis stays
abbrev pub known_said : Option Bool → Option ℤ → Option ℤ → Option Axis
known_said incremental None None = Some Keep
known_said incremental None (Some way) = known_under incremental None (Some way)
known_said incremental (Some place) way = known_under incremental (Some place) way

-- what is known of it, if one of them may be calculated
abbrev pub known_axis : Option Bool → Option (Option ℤ) → Option (Option ℤ) → Option Axis
known_axis incremental None way = None
known_axis incremental (Some word) None = None
known_axis incremental (Some word) (Some way) = known_said incremental word way

-- a length no longer than the travel
abbrev pub is_near : ℤ → Bool
is_near length = nat_le (unsigned_abs length) travel

-- where an axis leads, by where it stands; not known past the travel
abbrev pub known_way : Option ℤ → ℤ → Option ℤ
known_way None way = None
known_way (Some at) way = if is_near at && is_near way then Some (at +ℤ way) else None

abbrev pub known_part : Option Axis → Option ℤ → Option ℤ
known_part None at = None
known_part (Some Keep) at = at
known_part (Some (To programmed)) at = Some programmed
known_part (Some (By way)) at = known_way at way

-- a block with an axis word leads to where the word says
abbrev pub leads_to_target : CodeKind → Bool
leads_to_target Rapid = true
leads_to_target Feed = true
leads_to_target ArcCw = true
leads_to_target ArcCcw = true
leads_to_target Thread = true
leads_to_target other = false

-- X and Z behind a motion of this code, if it is known; a canned cycle ends where it begins
abbrev pub known_motion : Option CodeKind → Option Axis → Option Axis → Known → Known
known_motion None x z known = nowhere known
known_motion (Some kind) x z known =
    if leads_to_target kind then record known { x = known_part x known.x; z = known_part z known.z }
    else if is_cycle kind then known
    else nowhere known

-- X and Z behind the block, by its one-shot code: a dwell and a speed limit move nothing; G10, G28
-- and G53 leave nothing known
abbrev pub known_end : Option CodeKind → Option Axis → Option Axis → Known → Known
known_end None x z known = known_motion known.motion x z known
known_end (Some Dwell) x z known = known
known_end (Some Limit) x z known = known
known_end (Some other) x z known = nowhere known
