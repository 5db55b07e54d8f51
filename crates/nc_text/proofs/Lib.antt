-- The lemmas of nc_text, each file by its subject. The others are for this crate alone.
pub mod LineEnds
pub mod Counted
pub mod Standing
pub mod Deciding
pub mod Growing
pub mod Shaping
pub mod RefusedAtEnd
