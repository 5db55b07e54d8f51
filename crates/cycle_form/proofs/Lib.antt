-- The lemmas of cycle_form, each file by its subject. No other crate takes any.
pub mod Marking
pub mod PointsRead
pub mod Forms
pub mod Walking
pub mod PassCount
pub mod Sizing
