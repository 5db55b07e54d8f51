-- The words in which contracts speak of the waits of a pair: what is asked, the verdict, the text
-- of an accepted pair, and which pairs of `verify` are accepted.
pub mod Asked
pub mod Switches
pub mod Signs
pub mod Hangings
pub mod Verdict
pub mod Printed
pub mod Widening
