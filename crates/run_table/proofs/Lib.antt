-- The lemmas of this crate, each file by its subject. The proofs of this crate use them, and no
-- other crate does: not Then either, which other crates could name.
mod AlarmsKept
mod DrainsTold
mod EndsTold
mod FlushedShown
mod HeldKept
mod HeldSteps
mod JournalsOn
mod ListsGrow
mod MovesFew
mod OtherGoesOn
mod RecordingsFollow
mod Redone
mod RestsKept
mod StepsTaken
mod TablesBegin
mod TablesKept
pub mod Then
mod ToldOwn
mod WaitsAhead
mod WaitsTold
