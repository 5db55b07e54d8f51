-- The command line: its rows (Table), its grammar (Listed), its numbers (Number), and what a call
-- that makes a command answers (Making).
pub mod Listed
pub mod Making
pub mod Number
pub mod Table
