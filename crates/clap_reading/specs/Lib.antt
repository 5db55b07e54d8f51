-- The command line as `clap` reads it: the command built from the rows (Grammar), and what it makes
-- of words (ClapReading). For this crate alone.
pub mod ClapReading
pub mod Grammar
