-- The lemmas of this crate, each file by its subject. No other crate uses them.
pub mod InOrder
pub mod NumbersFit
pub mod Accepted
pub mod WordByWord
pub mod Judged
pub mod LeastRefusal
pub mod WordNumbers
pub mod LeastOfText
pub mod FewVariables
