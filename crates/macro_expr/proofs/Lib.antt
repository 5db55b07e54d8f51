-- The lemmas of macro_expr, each file by its subject. Scans, Chains and Trees serve the proofs of
-- this crate alone.
pub mod Prefixes
pub mod Chains
pub mod Scans
pub mod Heads
pub mod Steps
pub mod ChainLaws
pub mod Complete
pub mod StatementsComplete
pub mod Sound
pub mod StatementsSound
pub mod Kept
pub mod Trees
