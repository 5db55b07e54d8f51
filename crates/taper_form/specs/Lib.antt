-- What callers read: which blocks begin a cut along a taper (Kinds) and the form (Form). Below it the
-- cut and the run.
pub mod Kinds
pub mod Cuts
pub mod Runs
pub mod Form
pub mod Written
