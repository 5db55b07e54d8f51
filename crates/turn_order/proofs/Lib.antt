-- The lemmas of this crate, which no other crate uses: what a turn comes to (Turned), the run so
-- far (SoFar), and that there is one run (OneRun).
pub mod Turned
pub mod SoFar
pub mod OneRun
