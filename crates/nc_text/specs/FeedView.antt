-- What a reader of a tape keeps, as the contracts of src/feed.rt and src/reader.rt see it: its
-- `State` (Reading). No other crate cites it; it is what callers of `Reader` see of it.
use Rattle.nc_text.specs.declared.feed.Feed.{Feed}
use Rattle.nc_text.specs.View.{before_of}
use Rattle.nc_text.specs.Reading.{State}

-- the state that the fields of a reader stand for
abbrev pub state_of : Feed → State
state_of feed = record { skips = feed.skips; stage = feed.line.stage; kept = feed.line.kept.items; len = feed.line.len; before = before_of feed.progress }
