-- A list of stretches in two parts, and the spans by which it is parted.
use Rattle.std.specs.Prelude.{◌≡◌, ◌≤◌, ◌+◌, ◌==◌, Bool, true, false, not, ◌&&◌, ◌||◌, List, [], ◌∷◌, ◌++◌, length, All, unsigned_abs}
use Rattle.std.specs.List.{list_any}
use Rattle.zone_area.specs.Range.{far_in_cell}
use Rattle.zone_moves.specs.declared.span.Span.{Span}
use Rattle.zone_moves.specs.declared.stretch.Stretch.{Stretch}
use Rattle.zone_moves.specs.Stretches.{IsPlaced}

-- stretches in two parts
pub record PartsView : Type 0 where
  -- those that lie before the middle
  pub before : List Stretch
  -- the others
  pub behind : List Stretch

-- no stretches
abbrev pub no_parts : PartsView
no_parts = record { before = []; behind = [] }

-- a stretch more in one of the parts
abbrev pub parts_with : PartsView → Bool → Stretch → PartsView
parts_with parts true stretch = record { before = parts.before ++ stretch ∷ []; behind = parts.behind }
parts_with parts false stretch = record { before = parts.before; behind = parts.behind ++ stretch ∷ [] }

-- both parts have some
abbrev pub are_both : PartsView → Bool
are_both parts = not (length parts.before == 0) && not (length parts.behind == 0)

-- the areas of the stretches of both parts are in range
pub record ArePlaced (parts : PartsView) : Type 0 where
  pub before : All IsPlaced parts.before
  pub behind : All IsPlaced parts.behind

-- The parts have these stretches together, each in one of them, in whatever order.
pub record ArePartsOf (parts : PartsView) (stretches : List Stretch) : Type 0 where
  -- what holds of one of the stretches holds of one in a part, and of no other
  pub any : (q : Stretch → Bool) → (list_any q parts.before || list_any q parts.behind) ≡ list_any q stretches
  -- the parts have so many as there are
  pub count : length parts.before + length parts.behind ≡ length stretches

-- the ends of a span are in range
pub record IsSpan (span : Span) : Type 0 where
  pub least : unsigned_abs span.least ≤ far_in_cell
  pub greatest : unsigned_abs span.greatest ≤ far_in_cell
