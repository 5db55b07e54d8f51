-- The lemmas of this crate: what a turret got in several calls (Adding), items of a line (Items),
-- the rule of a wire (Orders), and what a turret served (Serving).
pub mod Adding
pub mod Items
pub mod Orders
pub mod Serving
