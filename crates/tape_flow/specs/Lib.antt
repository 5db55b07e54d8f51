-- The words in which contracts speak of a checked tape: what its blocks say, their order, when it
-- is accepted, what it lends of a place.
pub mod Forms
pub mod Controls
pub mod Exact
pub mod Places
