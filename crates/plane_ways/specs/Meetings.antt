-- Where two lines that were moved to one side meet, seen from their corner. src/meeting.rt computes
-- it.
use Rattle.std.specs.Prelude.{◌*◌, pos, ◌+ℤ◌, unsigned_abs}
use Rattle.plane_ways.specs.declared.place.Place.{Place}
use Rattle.plane_ways.specs.declared.place.Side.{Side}
use Rattle.plane_ways.specs.declared.meeting.Meeting.{Meeting}
use Rattle.plane_ways.specs.Plane.{way, dot, turned, times, plus}
use Rattle.plane_ways.specs.Steps.{length_of}

-- the way from a corner of directions d and e, of 90 degrees or less, to where both lines meet after
-- each was moved to that side
abbrev pub wide_meeting : Side → Place → Place → Meeting
wide_meeting s d e = record {
  by = plus (times (length_of e) (turned s d)) (times (length_of d) (turned s e));
  parts = unsigned_abs (pos (length_of d * length_of e) +ℤ dot d e);
}

-- the same of a corner of more than 90 degrees whose inner side it is
abbrev pub sharp_meeting : Side → Place → Place → Meeting
sharp_meeting s d e = record {
  by = way (times (length_of e) d) (times (length_of d) e);
  parts = unsigned_abs (dot (turned s d) e);
}
