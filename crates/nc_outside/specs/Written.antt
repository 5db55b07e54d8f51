-- What was written to a sink. A sink may tell it or not. The trait Sink says its call by it.
use Rattle.std.specs.Prelude.{◌≡◌, ℕ, List, Option, is_some}
use Rattle.std.specs.Io.KnownBytes.{Appends}

-- All that contracts see of a sink at one moment.
pub record SinkState : Type 0 where
  pub written : Option (List ℕ)  -- what was written, where it tells that
  pub faults : ℕ  -- how often it has failed

-- these bytes were written after what was there
abbrev pub Writes : SinkState → SinkState → List ℕ → Type 0
Writes old new bytes = Appends old.written new.written bytes

-- a sink tells what was written after a call exactly if it told it before
abbrev pub TellsOn : SinkState → SinkState → Type 0
TellsOn old new = is_some new.written ≡ is_some old.written
