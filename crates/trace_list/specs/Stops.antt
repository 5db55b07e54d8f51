-- The waits and the end of a path in a trace, beside the labels of its tape.
-- No other crate cites it: it is for the public law that the waits of a trace are the labels
-- (src/laws.rt).
use Rattle.std.specs.Prelude.{if◌then◌else◌, List, [], ◌∷◌}
use Rattle.std.specs.List.{flat_map}
use Rattle.nc_number.specs.Path.{is_same}
use Rattle.nc_number.specs.declared.path.Path.{Path}
use Rattle.block_order.specs.declared.label.Label.{Label}
use Rattle.block_order.specs.declared.label.Label.TheVariants as label
use Rattle.trace_list.specs.TraceText.{TraceLine, Wait, Ended}

-- the label of a line, if it is a wait or the end of this path
abbrev pub stop_of : Path → TraceLine → List Label
stop_of path (Wait of line code) = if is_same path of then label.Wait code ∷ [] else []
stop_of path (Ended of line) = if is_same path of then label.End ∷ [] else []
stop_of path other = []

-- the waits and the end of a path in a trace, in order
abbrev pub stops_of : Path → List TraceLine → List Label
stops_of path lines = flat_map (stop_of path) lines

-- With these labels ahead a path comes to these stops: they are the next labels, in their order.
-- At an M99 of the main program (`Again`) the list `all` of its labels begins anew.
pub data Follows (all : List Label) : List Label → List Label → Type 0 where
  -- the path comes to no stop any more
  none : (ahead : List Label) → Follows all ahead []
  -- the path comes to the next label
  next : (stop : Label) (ahead stops : List Label) → Follows all ahead stops → Follows all (stop ∷ ahead) (stop ∷ stops)
  -- the path goes on from the beginning of its main program (M99)
  anew : (stops : List Label) → Follows all all stops → Follows all (label.Again ∷ []) stops
