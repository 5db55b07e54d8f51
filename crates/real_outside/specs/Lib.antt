-- A disk and a turret of which nothing is told, for the files of this crate. Forms that tell
-- something are in nc_outside and disk_model. No other crate cites it.
pub mod Untold
