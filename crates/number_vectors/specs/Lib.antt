-- The words of the contract of the variables in the tests of macro expressions (src/values.rt). No
-- crate uses them.
pub mod Sample
