-- The lemmas of this crate, which no other crate uses: what a drive keeps (Driving), and what a
-- worker does at its answers (Working).
pub mod Driving
pub mod Working
