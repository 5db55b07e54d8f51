-- What is due to texts and a question, or an order of turns. No other crate cites Events, of which
-- Order is made.
pub mod Statuses
pub mod Answers
pub mod Texts
pub mod Judged
pub mod Weighed
pub mod Reported
pub mod Races
pub mod Traced
pub mod Waited
pub mod Due
pub mod Said
pub mod Events
pub mod Order
