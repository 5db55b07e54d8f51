-- What variables there are (Variables), the common ones of a path (Common) and the shared ones
-- (Writes), which the crates above cite. Links is for this crate alone.
pub mod Common
pub mod Variables
pub mod Writes
pub mod Links
