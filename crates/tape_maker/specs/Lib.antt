-- The text of a made tape.
pub mod MadeTape
