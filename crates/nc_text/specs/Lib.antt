-- The words in which contracts speak of a text and its tape. Lines, Tape and Shape are for all
-- crates. No other crate cites the rest; callers of `Reader` meet Reading, FeedView and Decided in
-- its contract.
pub mod Lines
pub mod Tape
pub mod Shape
pub mod ReadShape
pub mod View
pub mod Mark
pub mod Reading
pub mod Decided
pub mod FeedView
